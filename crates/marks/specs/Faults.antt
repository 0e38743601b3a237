-- What each refusal says.
use Rattle.std.specs.Prelude.{ℕ, List, [], ◌∷◌}
use Rattle.marks.specs.declared.fault.MarksFault.{MarksFault}
use Rattle.marks.specs.declared.fault.MarksFault.TheVariants.{NoSuchRecord, AllOut}

-- The number of the refusal, its layer, and its values. A record that the table has no place for is a record past the
-- end (9, layer 2), named by volume and number; that too few units are in is the allocator's (18, layer 4).
abbrev pub ground : MarksFault → ℕ × ℕ × List ℕ
ground (NoSuchRecord v r) = (9, 2, v ∷ r ∷ [])
ground AllOut = (18, 4, [])
