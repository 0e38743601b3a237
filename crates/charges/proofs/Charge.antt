-- The charge as the structural sum computes it is the dataset's own units and the weights of its children.
use Rattle.std.proofs.Common.{◌≡◌, ℕ, zero, suc, ◌+◌, ◌-◌, ◌<◌, ◌≤◌, Bool, true, false, cond, eqb, List, ◌∷◌, length, drop, sum_by, filter, sym, refl, ◌∙◌, add-one, arith}
use Rattle.std.specs.List.{range_with_len}
use Rattle.std.proofs.lemmas.List.{drop_more, drop_all}
use Rattle.std.proofs.lemmas.List.Sums.{sum_by-cons}
use Rattle.std.proofs.lemmas.Bool.{ne_eqb, cond-false}
use Rattle.charges.specs.declared.Row.{Row}
use Rattle.charges.specs.Tree.{blank, row, Rooted, load, charge, weight}
use Rattle.charges.specs.Laws.{ChargeEquation}
use Rattle.charges.proofs.Sums.{sum_to}

-- what dataset k adds to the charge of p: its weight where p is its parent; the root is no child
abbrev pub share : List Row → ℕ → ℕ → ℕ
share rows p zero = 0
share rows p (suc k) = cond (eqb (row rows (suc k)).parent p) (weight rows (suc k)) 0

-- one row of the structural sum
load_row : (rows : List Row) (i p : ℕ) → suc i < length rows → load (suc i) (drop (suc i) rows) p ≡ share rows p (suc i) + load (suc (suc i)) (drop (suc (suc i)) rows) p
unfolding load charge
load_row rows i p h = rw (drop_more rows (suc i) blank h, add-one)

-- with the whole sum up to a row, the structural sum from there on is the whole sum
load-sum : (m : ℕ) (rows : List Row) (i p : ℕ) → suc i + m ≡ length rows → sum_to (suc i) (share rows p) + load (suc i) (drop (suc i) rows) p ≡ sum_to (length rows) (share rows p)
unfolding load sum_to
load-sum zero rows i p e =
    let end : length rows ≡ suc i = omega arith in
    rw (drop_all (suc i) rows (omega arith), end) (omega arith)
load-sum (suc m) rows i p e =
    let h : suc i < length rows = omega arith in
    omega (arith, load_row rows i p h, load-sum m rows (suc i) p (omega arith))

-- no row up to d is a child of d
none_before : (rows : List Row) → Rooted rows → (d n : ℕ) → n ≤ d → d < length rows → sum_to (suc n) (share rows d) ≡ 0
unfolding sum_to
none_before rows rooted d zero le h = refl
none_before rows rooted d (suc n) le h =
    let off : eqb (row rows (suc n)).parent d ≡ false = ne_eqb _ _ (λ e. omega (arith, rooted (suc n) (omega arith) (omega arith))) in
    omega (arith, none_before rows rooted d n (omega arith) h, cond-false _ (weight rows (suc n)) 0 off)

pub charge-law : (rows : List Row) → Rooted rows → (d : ℕ) → d < length rows → charge rows d ≡ (row rows d).own + sum_to (length rows) (share rows d)
unfolding charge
charge-law rows rooted d h =
    omega (arith, load-sum (length rows - suc d) rows d d (omega arith), none_before rows rooted d d (omega arith) h)

-- a list with one more at the front, kept or not
kept-sum : (b : Bool) (f : ℕ → ℕ) (k : ℕ) (ks : List ℕ) → sum_by f (cond b (k ∷ ks) ks) ≡ cond b (f k) 0 + sum_by f ks
kept-sum true f k ks = sum_by-cons f k ks
kept-sum false f k ks = omega arith

-- the structural sum is the sum over the children from there on
load-children : (m : ℕ) (rows : List Row) (i p : ℕ) → suc i + m ≡ length rows →
    load (suc i) (drop (suc i) rows) p ≡ sum_by (weight rows) (filter (λ k. eqb (row rows k).parent p) (range_with_len (suc i) m))
unfolding load
load-children zero rows i p e = rw (drop_all (suc i) rows (omega arith))
load-children (suc m) rows i p e =
    let h : suc i < length rows = omega arith in
    let rest = load-children m rows (suc i) p (omega arith) in
    let front = kept-sum (eqb (row rows (suc i)).parent p) (weight rows) (suc i) (filter (λ k. eqb (row rows k).parent p) (range_with_len (suc (suc i)) m)) in
    rw add-one (load_row rows i p h ∙ rw rest (sym front))

pub charge_equation : ChargeEquation
unfolding sum_to
charge_equation rows rooted d h =
    omega (
      arith,
      charge-law rows rooted d h,
      load-sum (length rows - 1) rows 0 d (omega arith),
      load-children (length rows - 1) rows 0 d (omega arith),
    )
