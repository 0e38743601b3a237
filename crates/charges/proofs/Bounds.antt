-- The root's charge bounds every charge and weight, and all own units together.
use Rattle.std.proofs.Common.{◌≡◌, ℕ, zero, suc, ◌+◌, ◌<◌, ◌≤◌, ◌≢◌, List, [], ◌∷◌, length, sum_by, refl, inl, inr, le_refl, arith}
use Rattle.std.proofs.lemmas.Bool.{cases_lt}
use Rattle.charges.specs.declared.Row.{Row}
use Rattle.charges.specs.Tree.{blank, row, Rooted, charge, weight}
use Rattle.charges.specs.Laws.{BoundLaw}
use Rattle.charges.proofs.Charge.{share, charge-law}
use Rattle.charges.proofs.Sums.{sum_to, sum_same, sum_but_one, sum_le, sum_add, sum-none, sum-exchange, sum_only, sum_list, term_le_sum}
use Rattle.charges.proofs.Local.{share-child}

module _ (rows : List Row) (rooted : Rooted rows) where
  -- a weight is part of the parent's charge
  weight_le : (d : ℕ) → 0 < d → d < length rows → weight rows d ≤ charge rows (row rows d).parent
  weight_le d gt l =
      let q = (row rows d).parent in
      let below : q < d = rooted d gt l in
      omega (arith, charge-law rows rooted q (omega arith), term_le_sum (length rows) (share rows q) d l, share-child rows d q gt refl)

  charge_le : (fuel d : ℕ) → d ≤ fuel → d < length rows → charge rows d ≤ charge rows 0
  charge_le zero d le l = let root : d ≡ 0 = omega arith in rw root (le_refl _)
  charge_le (suc fuel) d le l = elim (cases_lt 0 d) [
    | inl gt ↦
        let below : (row rows d).parent < d = rooted d gt l in
        omega (arith, weight_le d gt l, charge_le fuel (row rows d).parent (omega arith) (omega arith))
    | inr zero-d ↦ let root : d ≡ 0 = omega arith in rw root (le_refl _)
  ]

  pub weight_in_lem : (d : ℕ) → 0 < d → d < length rows → weight rows d ≤ charge rows 0
  weight_in_lem d gt l =
      let below : (row rows d).parent < d = rooted d gt l in
      omega (arith, weight_le d gt l, charge_le _ (row rows d).parent (le_refl (row rows d).parent) (omega arith))

  weights_in : (row rows 0).reservation ≡ 0 → (d : ℕ) → d < length rows → weight rows d ≤ charge rows 0
  weights_in free zero l = omega arith
  weights_in free (suc d) l = weight_in_lem (suc d) (omega arith) l

  -- what dataset k adds to all charges together
  added : ℕ → ℕ
  added zero = 0
  added (suc k) = weight rows (suc k)

  added_is : (k : ℕ) → k < length rows → sum_to (length rows) (λ p. share rows p k) ≡ added k
  unfolding added
  added_is zero l = sum-none (length rows)
  added_is (suc k) l = sum_only (length rows) (row rows (suc k)).parent (weight rows (suc k)) (omega (arith, rooted (suc k) (omega arith) l))

  -- the charges of all but the root
  lower : ℕ → ℕ
  lower zero = 0
  lower (suc k) = charge rows (suc k)

  lower_le : (k : ℕ) → lower k ≤ added k
  unfolding lower added
  lower_le zero = le_refl 0
  lower_le (suc k) = omega arith

  lower-is : (k : ℕ) → k ≢ 0 → lower k ≡ charge rows k
  unfolding lower
  lower-is zero ne = absurd (ne refl)
  lower-is (suc k) ne = refl

  lower-root : lower 0 ≡ 0
  unfolding lower
  lower-root = refl

  -- each weight counts in one charge, so that all charges together are all own units and all weights but the root's
  own_total : 0 < length rows → sum_by (λ r. r.own) rows ≤ charge rows 0
  own_total some =
      let n = length rows in
      omega (
        arith,
        sum_same n (charge rows) (λ d. (row rows d).own + sum_to n (share rows d)) (λ d l. charge-law rows rooted d l),
        sum_add n (λ d. (row rows d).own) (λ d. sum_to n (share rows d)),
        sum-exchange n n (share rows),
        sum_same n (λ k. sum_to n (λ p. share rows p k)) added added_is,
        sum_le n lower added (λ k l. lower_le k),
        sum_but_one n lower (charge rows) 0 some (λ k l ne. lower-is k ne),
        lower-root,
        sum_list (λ r. r.own) rows blank,
      )

own_units : (rows : List Row) → Rooted rows → sum_by (λ r. r.own) rows ≤ charge rows 0
own_units [] rooted = omega arith
own_units (r ∷ rows) rooted = own_total (r ∷ rows) rooted (omega arith)

pub bound_law : BoundLaw
bound_law rows rooted free = record {
  charges = λ d l. charge_le rows rooted d d (le_refl d) l;
  weights = weights_in rows rooted free;
  own_units = own_units rows rooted;
}
