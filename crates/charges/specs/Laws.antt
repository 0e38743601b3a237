-- The theorems that the functions of src/theorems.rt promise.
use Rattle.std.specs.Prelude.{◌≡◌, ℕ, ◌+◌, ◌^◌, ◌<◌, ◌≤◌, ◌≢◌, ◌↔◌, List, [], ◌∷◌, ◌++◌, length, ℤ, pos, ◌-ℤ◌, Some, None, sum_by, Option}
use Rattle.charges.specs.declared.Row.{Row}
use Rattle.charges.specs.Amounts.{excess, passed, reweighed, changed}
use Rattle.charges.specs.Tree.{row, Rooted, charge, weight, unspent, children, limit, Within, WithinLimits, Reserved, path, OnPath, with_own, with_reservation, with_quota, raised}
use Rattle.charges.specs.Walk.{or_else, walk, first_past, Nearest}

-- a charge is the dataset's own units and the weights of its children
abbrev pub ChargeEquation : Type 0
ChargeEquation =
    (rows : List Row) → Rooted rows → (d : ℕ) → d < length rows → charge rows d ≡ (row rows d).own + sum_by (weight rows) (children rows d)

-- a path is the dataset, then the path of its parent, and ends with the root
pub record PathEquation : Type 0 where
  pub root : (rows : List Row) → path rows 0 ≡ 0 ∷ []
  pub upward : (rows : List Row) → Rooted rows → (d : ℕ) → 0 < d → d < length rows → path rows d ≡ d ∷ path rows (row rows d).parent

-- own units, a reservation or a quota set anew leave the tree's shape
pub record SameShape (rows rows' : List Row) : Type 0 where
  pub same_length : length rows' ≡ length rows
  pub still_rooted : Rooted rows → Rooted rows'
  pub same_path : (d : ℕ) → path rows' d ≡ path rows d

pub record ShapeLaw : Type 0 where
  pub by_own : (rows : List Row) (v x : ℕ) → v < length rows → SameShape rows (with_own rows v x)
  pub by_reservation : (rows : List Row) (v x : ℕ) → v < length rows → SameShape rows (with_reservation rows v x)
  pub by_quota : (rows : List Row) (v x : ℕ) → v < length rows → SameShape rows (with_quota rows v x)

-- what a limit says: the root's charge is at most the room, any other's at most its quota, and a quota of 0 asks nothing
pub record LimitMeaning (room : ℕ) (rows : List Row) : Type 0 where
  pub root : Within room rows 0 ↔ (charge rows 0 ≤ room)
  pub by_quota : (d : ℕ) → 0 < d → (row rows d).quota ≢ 0 → Within room rows d ↔ (charge rows d ≤ (row rows d).quota)
  pub no_quota : (d : ℕ) → 0 < d → (row rows d).quota ≡ 0 → Within room rows d

abbrev pub LimitLaw : Type 0
LimitLaw = (room : ℕ) (rows : List Row) → LimitMeaning room rows

-- by how much a charge differs after an edit
abbrev pub change : List Row → List Row → ℕ → ℤ
change rows rows' d = pos (charge rows' d) -ℤ pos (charge rows d)

-- the change at d arrives at its parent by the change rule
abbrev pub Passes : List Row → List Row → ℕ → Type 0
Passes rows rows' d = change rows rows' (row rows d).parent ≡ passed (charge rows d) (row rows d).reservation (change rows rows' d)

-- the own units of v set to x, more or fewer
pub record OwnMoves (rows rows' : List Row) (v x : ℕ) : Type 0 where
  pub off_path : (d : ℕ) → d < length rows → (OnPath rows v d → ⊥) → charge rows' d ≡ charge rows d
  pub at_dataset : change rows rows' v ≡ pos x -ℤ pos (row rows v).own
  pub upward : (d : ℕ) → OnPath rows v d → 0 < d → Passes rows rows' d

-- the reservation of v set to x, more or less: the dataset keeps its charge, and its parent's changes by the change of its weight
pub record ReservationMoves (rows rows' : List Row) (v x : ℕ) : Type 0 where
  pub off_path : (d : ℕ) → d < length rows → (OnPath rows v d → ⊥) → charge rows' d ≡ charge rows d
  pub at_dataset : charge rows' v ≡ charge rows v
  pub at_parent : 0 < v → change rows rows' (row rows v).parent ≡ reweighed (charge rows v) (row rows v).reservation x
  pub upward : (d : ℕ) → OnPath rows v d → d ≢ v → 0 < d → Passes rows rows' d

pub record Locality : Type 0 where
  pub by_own : (rows : List Row) (v x : ℕ) → Rooted rows → v < length rows → OwnMoves rows (with_own rows v x) v x
  pub by_reservation : (rows : List Row) (v x : ℕ) → Rooted rows → v < length rows → ReservationMoves rows (with_reservation rows v x) v x

-- a walk judges its dataset, then goes on from the parent with the change that is passed on, and ends with the root
pub record WalkEquation : Type 0 where
  pub root : (room : ℕ) (rows : List Row) (c : ℤ) → walk room rows 0 c ≡ or_else 0 (excess (limit room rows 0) (changed (charge rows 0) c)) None
  pub upward : (room : ℕ) (rows : List Row) → Rooted rows → (d : ℕ) (c : ℤ) → 0 < d → d < length rows →
      walk room rows d c ≡ or_else d (excess (limit room rows d) (changed (charge rows d) c))
      (walk room rows (row rows d).parent (passed (charge rows d) (row rows d).reservation c))

-- The walk, which goes by changes, is the search along the path with every charge computed from nothing: for a rise and for a fall,
-- of own units from the dataset, of a reservation from its parent.
pub record Recomputed : Type 0 where
  pub by_own : (room : ℕ) (rows : List Row) (v x : ℕ) → Rooted rows → v < length rows →
      walk room rows v (pos x -ℤ pos (row rows v).own) ≡ first_past room (with_own rows v x) (path rows v)
  pub by_reservation : (room : ℕ) (rows : List Row) (v x : ℕ) → Rooted rows → v < length rows → 0 < v →
      walk room rows (row rows v).parent (reweighed (charge rows v) (row rows v).reservation x)
      ≡ first_past room (with_reservation rows v x) (path rows (row rows v).parent)

-- An answer of a walk along ds is right for the edited rows: none exactly when no dataset at all passes its limit, and otherwise the nearest
-- on ds by its own order, with the exact excess.
pub record Judged (room : ℕ) (rows' : List Row) (ds : List ℕ) (answer : Option (ℕ × ℕ)) : Type 0 where
  pub none : answer ≡ None ↔ WithinLimits room rows'
  pub some : (d s : ℕ) → answer ≡ Some (d, s) ↔ Nearest room rows' ds d s

-- c more own units at v
abbrev pub RiseLaw : Type 0
RiseLaw =
    (room : ℕ) (rows : List Row) (v c : ℕ) → Rooted rows → WithinLimits room rows → v < length rows →
    Judged room (raised rows v c) (path rows v) (walk room rows v (pos c))

-- a reservation of x at v, from its parent up
abbrev pub ReserveLaw : Type 0
ReserveLaw =
    (room : ℕ) (rows : List Row) (v x : ℕ) → Rooted rows → WithinLimits room rows → v < length rows → 0 < v →
    Judged room (with_reservation rows v x) (path rows (row rows v).parent)
    (walk room rows (row rows v).parent (reweighed (charge rows v) (row rows v).reservation x))

-- Where the unspent reservation of a dataset d on the path covers the rise, all above d keep their charges, and the walk names neither d nor one above it.
pub record Sheltered (room : ℕ) (rows : List Row) (v c d : ℕ) : Type 0 where
  pub same_above : 0 < d → (e : ℕ) → OnPath rows (row rows d).parent e → charge (raised rows v c) e ≡ charge rows e
  pub not_named : (e s : ℕ) → OnPath rows d e → walk room rows v (pos c) ≢ Some (e, s)

abbrev pub Shelter : Type 0
Shelter =
    (room : ℕ) (rows : List Row) (v c : ℕ) → Rooted rows → WithinLimits room rows → Reserved rows → v < length rows →
    (d : ℕ) → OnPath rows v d → c ≤ unspent rows d → Sheltered room rows v c d

-- fewer own units, or a smaller reservation, pass no limit
pub record FallLaw : Type 0 where
  pub by_own : (room : ℕ) (rows : List Row) (v x : ℕ) → Rooted rows → WithinLimits room rows → v < length rows →
      x ≤ (row rows v).own → WithinLimits room (with_own rows v x)
  pub by_reservation : (room : ℕ) (rows : List Row) (v x : ℕ) → Rooted rows → WithinLimits room rows → v < length rows →
      x ≤ (row rows v).reservation → WithinLimits room (with_reservation rows v x)

-- The root's charge bounds every charge, every weight (the root has no reservation) and all own units together.
pub record Bounded (rows : List Row) : Type 0 where
  pub charges : (d : ℕ) → d < length rows → charge rows d ≤ charge rows 0
  pub weights : (d : ℕ) → d < length rows → weight rows d ≤ charge rows 0
  pub own_units : sum_by (λ r. r.own) rows ≤ charge rows 0

abbrev pub BoundLaw : Type 0
BoundLaw = (rows : List Row) → Rooted rows → (row rows 0).reservation ≡ 0 → Bounded rows

-- An excess is at most the rise, or the new reservation, so that it fits two bytes where they do.
pub record ExcessLaw : Type 0 where
  pub by_own : (room : ℕ) (rows : List Row) (v c : ℕ) → Rooted rows → WithinLimits room rows → v < length rows → c < 2 ^ 16 →
      (d s : ℕ) → walk room rows v (pos c) ≡ Some (d, s) → (s ≤ c) × (s < 2 ^ 16)
  pub by_reservation : (room : ℕ) (rows : List Row) (v x : ℕ) → Rooted rows → WithinLimits room rows → v < length rows → 0 < v → x < 2 ^ 16 →
      (d s : ℕ) → walk room rows (row rows v).parent (reweighed (charge rows v) (row rows v).reservation x) ≡ Some (d, s) → (s ≤ x) × (s < 2 ^ 16)

-- a quota set to x changes no charge and no other dataset's limit; where x is 0 or at least the charge, all stay within their limits
pub record QuotaSet (rows rows' : List Row) (v x : ℕ) : Type 0 where
  pub same_charge : (d : ℕ) → d < length rows → charge rows' d ≡ charge rows d
  pub still_within : (room : ℕ) → WithinLimits room rows → (x ≢ 0 → charge rows v ≤ x) → WithinLimits room rows'

abbrev pub QuotaLaw : Type 0
QuotaLaw = (rows : List Row) (v x : ℕ) → Rooted rows → v < length rows → 0 < v → QuotaSet rows (with_quota rows v x) v x

-- a new dataset with nothing in it has the charge 0 and changes no other
pub record Added (rows rows' : List Row) : Type 0 where
  pub rooted : Rooted rows'
  pub same_charge : (d : ℕ) → d < length rows → charge rows' d ≡ charge rows d
  pub new_charge : charge rows' (length rows) ≡ 0
  pub still_within : (room : ℕ) → WithinLimits room rows → WithinLimits room rows'

abbrev pub AddLaw : Type 0
AddLaw =
    (rows : List Row) (new : Row) → Rooted rows → new.parent < length rows → new.reservation ≡ 0 → new.own ≡ 0 → Added rows (rows ++ new ∷ [])
