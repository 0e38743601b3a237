-- The walk from a dataset to the root by changes, and the same question put to charges computed from nothing.
use Rattle.std.specs.Prelude.{◌≡◌, ℕ, zero, suc, ◌<◌, List, [], ◌∷◌, ◌++◌, ℤ, Some, None, Option}
use Rattle.std.specs.List.{AllByRecursion}
use Rattle.charges.specs.declared.Row.{Row}
use Rattle.charges.specs.Amounts.{excess, passed, changed}
use Rattle.charges.specs.Tree.{row, charge, limit, Within, path}

-- dataset d with its excess where there is any, and otherwise what comes after it
abbrev pub or_else : ℕ → ℕ → Option (ℕ × ℕ) → Option (ℕ × ℕ)
or_else d zero rest = rest
or_else d (suc s) rest = Some (d, suc s)

-- The walk along a path: c is the change that arrives at its first dataset; each passes on its own change by the change rule.
unfoldable pub walk_along : ℕ → List Row → List ℕ → ℤ → Option (ℕ × ℕ)
walk_along room rows [] c = None
walk_along room rows (d ∷ above) c =
    or_else d (excess (limit room rows d) (changed (charge rows d) c))
    (walk_along room rows above (passed (charge rows d) (row rows d).reservation c))

-- walk: the first dataset from d to the root whose charge with its change passes its limit, and the excess
abbrev pub walk : ℕ → List Row → ℕ → ℤ → Option (ℕ × ℕ)
walk room rows d c = walk_along room rows (path rows d) c

-- the first dataset of a list whose charge, computed from nothing, passes its limit, and the excess
unfoldable pub first_past : ℕ → List Row → List ℕ → Option (ℕ × ℕ)
first_past room rows [] = None
first_past room rows (d ∷ above) = or_else d (excess (limit room rows d) (charge rows d)) (first_past room rows above)

-- d is the first of the list that passes its limit, by s: all that stand before it are within theirs
pub record Nearest (room : ℕ) (rows : List Row) (ds : List ℕ) (d s : ℕ) : Type 0 where
  pub before : List ℕ
  pub above : List ℕ
  pub order : ds ≡ before ++ d ∷ above
  pub all_within : AllByRecursion (Within room rows) before
  pub passes : 0 < s
  pub exact : excess (limit room rows d) (charge rows d) ≡ s
