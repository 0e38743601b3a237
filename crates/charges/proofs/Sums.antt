-- Sums over the numbers below n: two that differ nowhere, or in one place; their exchange; and the sum over a list.
use Rattle.std.proofs.Common.{◌≡◌, ℕ, zero, suc, ◌+◌, ◌<◌, ◌≤◌, cond, eqb, ◌≢◌, List, length, get_or, take, sum_by, sym, refl, ap, ◌∙◌, inl, inr, add-one, arith}
use Rattle.std.proofs.lemmas.List.{take_all}
use Rattle.std.proofs.lemmas.List.Sums.{sum_by_more}
use Rattle.std.proofs.lemmas.Bool.{cases_eq, eq-eqb, ne_eqb, cond-true, cond-false}

-- f 0 + .. + f (n - 1)
unfoldable pub sum_to : ℕ → (ℕ → ℕ) → ℕ
sum_to zero f = 0
sum_to (suc n) f = sum_to n f + f n

pub sum_same : (n : ℕ) (f g : ℕ → ℕ) → ((k : ℕ) → k < n → f k ≡ g k) → sum_to n f ≡ sum_to n g
unfolding sum_to
sum_same zero f g same = refl
sum_same (suc n) f g same = omega (arith, sum_same n f g (λ k h. same k (omega arith)), same n (omega arith))

pub sum_but_one : (n : ℕ) (f g : ℕ → ℕ) (j : ℕ) → j < n → ((k : ℕ) → k < n → k ≢ j → f k ≡ g k) → sum_to n g + f j ≡ sum_to n f + g j
unfolding sum_to
sum_but_one zero f g j h same = omega arith
sum_but_one (suc n) f g j h same =
    elim (cases_eq j n) [
      | inl e ↦ rw e (omega (arith, sum_same n f g (λ k l. same k (omega arith) (omega arith))))
      | inr ne ↦ omega (arith, sum_but_one n f g j (omega arith) (λ k l. same k (omega arith)), same n (omega arith) (omega arith))
    ]

pub term_le_sum : (n : ℕ) (f : ℕ → ℕ) (j : ℕ) → j < n → f j ≤ sum_to n f
unfolding sum_to
term_le_sum zero f j h = omega arith
term_le_sum (suc n) f j h = elim (cases_eq j n) [ inl e ↦ rw e (omega arith) | inr ne ↦ omega (arith, term_le_sum n f j (omega arith)) ]

pub sum_le : (n : ℕ) (f g : ℕ → ℕ) → ((k : ℕ) → k < n → f k ≤ g k) → sum_to n f ≤ sum_to n g
unfolding sum_to
sum_le zero f g le = omega arith
sum_le (suc n) f g le = omega (arith, sum_le n f g (λ k h. le k (omega arith)), le n (omega arith))

pub sum_add : (n : ℕ) (f g : ℕ → ℕ) → sum_to n (λ k. f k + g k) ≡ sum_to n f + sum_to n g
unfolding sum_to
sum_add zero f g = refl
sum_add (suc n) f g = omega (arith, sum_add n f g)

pub sum-none : (n : ℕ) → sum_to n (λ k. 0) ≡ 0
unfolding sum_to
sum-none zero = refl
sum-none (suc n) = omega (arith, sum-none n)

-- a table summed by rows or by columns
pub sum-exchange : (m n : ℕ) (f : ℕ → ℕ → ℕ) → sum_to m (λ i. sum_to n (λ k. f i k)) ≡ sum_to n (λ k. sum_to m (λ i. f i k))
unfolding sum_to
sum-exchange zero n f = sym (sum-none n)
sum-exchange (suc m) n f = omega (arith, sum-exchange m n f, sum_add n (λ k. sum_to m (λ i. f i k)) (λ k. f m k))

-- all terms but one are 0
pub sum_only : (n p w : ℕ) → p < n → sum_to n (λ i. cond (eqb p i) w 0) ≡ w
unfolding sum_to
sum_only zero p w h = omega arith
sum_only (suc n) p w h = elim (cases_eq p n) [
  | inl e ↦
      omega (
        arith,
        sum_same n (λ i. cond (eqb p i) w 0) (λ i. 0) (λ k l. cond-false (eqb p k) w 0 (ne_eqb p k (omega arith))),
        sum-none n,
        cond-true (eqb p n) w 0 (eq-eqb p n e),
      )
  | inr ne ↦ omega (arith, sum_only n p w (omega arith), cond-false (eqb p n) w 0 (ne_eqb p n ne))
]

-- the sum over a list is the sum over its places
module _ {X : Type 0} (f : X → ℕ) (xs : List X) (d : X) where
  sum-front : (n : ℕ) → n ≤ length xs → sum_to n (λ k. f (get_or xs k d)) ≡ sum_by f (take n xs)
  unfolding sum_to
  sum-front zero le = refl
  sum-front (suc n) le = omega (arith, sum-front n (omega arith), rw add-one at (sum_by_more f xs n d (omega arith)))

  pub sum_list : sum_to (length xs) (λ k. f (get_or xs k d)) ≡ sum_by f xs
  sum_list = sum-front (length xs) (omega arith) ∙ ap (sum_by f) (take_all (length xs) xs (omega arith))
