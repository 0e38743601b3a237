-- Several units at once: a list of units is taken, or given back.
use Rattle.std.specs.Prelude.{◌≡◌, ℕ, ◌-◌, ◌<◌, Bool, true, false, List, [], ◌∷◌, ◌++◌, length, drop, replicate, None, Some, Option, Ok, Err, Result, slice_index_or, slice_set}
use Rattle.pool.specs.declared.allocator.AllocatorFault.{AllocatorFault}
use Rattle.pool.specs.Faults.{ground}
use Rattle.pool.specs.Units.{outs}

-- each place of the list holds a unit, and the units are taken one after the other: each is in when its turn comes, and no other changes
abbrev pub Takes : List Bool → List (Option ℕ) → List Bool → Type 0
Takes us [] vs = vs ≡ us
Takes us (None ∷ xs) vs = ⊥
Takes us (Some u ∷ xs) vs = (u < length us) × (slice_index_or us u false ≡ false) × Takes (slice_set us u true) xs vs

-- the units of the list are in, and no other changes
abbrev pub without : List Bool → List (Option ℕ) → List Bool
without us [] = us
without us (None ∷ xs) = without us xs
without us (Some u ∷ xs) = without (slice_set us u false) xs

-- how many units are in
abbrev pub ins : List Bool → ℕ
ins us = length us - outs us

-- a list whose first n places hold no unit
abbrev pub emptied : List (Option ℕ) → ℕ → List (Option ℕ)
emptied xs n = replicate n None ++ drop n xs

-- as many units as the list has places are taken and listed; or there are fewer in, nothing is taken, and the list
-- holds no unit at as many places as units were in
abbrev pub Filled : List Bool → List Bool → List (Option ℕ) → List (Option ℕ) → Result (Unit {0}) AllocatorFault → Type 0
Filled us vs xs ys (Ok _) = Takes us ys vs
Filled us vs xs ys (Err f) = (ground f ≡ (18, 4, [])) × (ins us < length xs) × (vs ≡ us) × (ys ≡ emptied xs (ins us))
