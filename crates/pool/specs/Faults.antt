-- What each refusal of an allocator says.
use Rattle.std.specs.Prelude.{ℕ, List, [], ◌∷◌}
use Rattle.pool.specs.declared.allocator.AllocatorFault.{AllocatorFault}
use Rattle.pool.specs.declared.allocator.AllocatorFault.TheVariants.{AllOut, NotOut, BadSize}

-- the number of the refusal, its layer (4, the allocator's), and its values
abbrev pub ground : AllocatorFault → ℕ × ℕ × List ℕ
ground AllOut = (18, 4, [])
ground (NotOut u) = (19, 4, u ∷ [])
ground BadSize = (20, 4, [])
