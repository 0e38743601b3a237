-- What the calls of an allocator do, on the list of its units: entry k says whether unit k is out.
use Rattle.std.specs.Prelude.{◌≡◌, ℕ, ◌<◌, Bool, true, false, List, [], ◌∷◌, length, Ok, Err, count_by, Result, slice_index_or, slice_set}
use Rattle.pool.specs.declared.allocator.AllocatorFault.{AllocatorFault}
use Rattle.pool.specs.Faults.{ground}

-- how many units are out
abbrev pub outs : List Bool → ℕ
outs us = count_by (λ b. b) us

-- `take`: a unit that was in goes out, and no other changes; or every unit is out, and stays so
abbrev pub Took : List Bool → List Bool → Result ℕ AllocatorFault → Type 0
Took us vs (Ok u) = (u < length us) × (slice_index_or us u false ≡ false) × (vs ≡ slice_set us u true)
Took us vs (Err f) = (ground f ≡ (18, 4, [])) × ((k : ℕ) → k < length us → slice_index_or us k false ≡ true) × (vs ≡ us)

-- `give`: the unit was out and comes in, and no other changes; or it was not out, and nothing changes
abbrev pub Gave : List Bool → List Bool → ℕ → Result (Unit {0}) AllocatorFault → Type 0
Gave us vs u (Ok _) = (slice_index_or us u false ≡ true) × (vs ≡ slice_set us u false)
Gave us vs u (Err f) = (ground f ≡ (19, 4, u ∷ [])) × (slice_index_or us u false ≡ false) × (vs ≡ us)

-- `check`: the making's premise holds, or it does not
abbrev pub Checked : Type 0 → Result (Unit {0}) AllocatorFault → Type 0
Checked P (Ok _) = P
Checked P (Err f) = (ground f ≡ (20, 4, [])) × (P → ⊥)

-- a refusal leaves the value itself as it was
abbrev pub Kept : {S T : Type 0} → S → S → Result T AllocatorFault → Type 0
Kept s t (Ok _) = Unit {0}
Kept s t (Err _) = t ≡ s
