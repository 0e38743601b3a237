-- The tree of datasets as a list of rows, and what each dataset is charged. A dataset's number is its place in the list; dataset 0 is the root.
use Rattle.std.specs.Prelude.{◌≡◌, ℕ, zero, suc, ◌+◌, ◌-◌, ◌<◌, ◌≤◌, cond, List, [], ◌∷◌, length, drop, filter, Option, ◌==◌, ◌≢◌, nat_eq, slice_index_or, slice_set}
use Rattle.std.specs.List.{range_with_len, ContainsAt as Has}
use Rattle.charges.specs.declared.Row.{Row}
use Rattle.charges.specs.Amounts.{weight_of, unspent_of, limit_of, excess}

abbrev pub blank : Row
blank = record { parent = 0; quota = 0; reservation = 0; own = 0 }

abbrev pub row : List Row → ℕ → Row
row rows d = slice_index_or rows d blank

-- every dataset but the root stands after its parent
abbrev pub Rooted : List Row → Type 0
Rooted rows = (k : ℕ) → 0 < k → k < length rows → (row rows k).parent < k

-- the weights of the children of p among the rows whose first has the number i; children stand after their parent
unfoldable pub load : ℕ → List Row → ℕ → ℕ
load i [] p = 0
load i (r ∷ rest) p = cond (r.parent == p) (weight_of (r.own + load (suc i) rest i) r.reservation) 0 + load (suc i) rest p

-- charge: the own units of a dataset and the weights of its children
unfoldable pub charge : List Row → ℕ → ℕ
charge rows d = (row rows d).own + load (suc d) (drop (suc d) rows) d

abbrev pub weight : List Row → ℕ → ℕ
weight rows d = weight_of (charge rows d) (row rows d).reservation

abbrev pub unspent : List Row → ℕ → ℕ
unspent rows d = unspent_of (charge rows d) (row rows d).reservation

-- the datasets whose parent is d; the root is nobody's child
abbrev pub children : List Row → ℕ → List ℕ
children rows d = filter (λ k. nat_eq (row rows k).parent d) (range_with_len 1 (length rows - 1))

abbrev pub limit : ℕ → List Row → ℕ → Option ℕ
limit room rows d = limit_of room d (row rows d).quota

-- the charge of d does not pass its limit
abbrev pub Within : ℕ → List Row → ℕ → Type 0
Within room rows d = excess (limit room rows d) (charge rows d) ≡ 0

abbrev pub WithinLimits : ℕ → List Row → Type 0
WithinLimits room rows = (d : ℕ) → d < length rows → Within room rows d

-- no reservation passes the dataset's own quota, where it has one, and the root has no reservation
pub record Reserved (rows : List Row) : Type 0 where
  pub root_none : (row rows 0).reservation ≡ 0
  pub in_quota : (d : ℕ) → d < length rows → ((row rows d).quota ≢ 0) → (row rows d).reservation ≤ (row rows d).quota

-- from d, at most so many steps up
unfoldable pub climb : List Row → ℕ → ℕ → List ℕ
climb rows zero d = d ∷ []
climb rows (suc steps) zero = 0 ∷ []
climb rows (suc steps) (suc d) = suc d ∷ climb rows steps (row rows (suc d)).parent

-- path: from a dataset to the root, each followed by its parent; parents have smaller numbers, so that d steps suffice
abbrev pub path : List Row → ℕ → List ℕ
path rows d = climb rows d d

abbrev pub OnPath : List Row → ℕ → ℕ → Type 0
OnPath rows v d = Has (path rows v) d

abbrev pub with_own : List Row → ℕ → ℕ → List Row
with_own rows v x =
    slice_set rows v (record { parent = (row rows v).parent; quota = (row rows v).quota; reservation = (row rows v).reservation; own = x })

abbrev pub with_reservation : List Row → ℕ → ℕ → List Row
with_reservation rows v x =
    slice_set rows v (record { parent = (row rows v).parent; quota = (row rows v).quota; reservation = x; own = (row rows v).own })

abbrev pub with_quota : List Row → ℕ → ℕ → List Row
with_quota rows v x =
    slice_set rows v (record { parent = (row rows v).parent; quota = x; reservation = (row rows v).reservation; own = (row rows v).own })

-- c more own units
abbrev pub raised : List Row → ℕ → ℕ → List Row
raised rows v c = with_own rows v ((row rows v).own + c)
