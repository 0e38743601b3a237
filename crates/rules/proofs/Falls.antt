-- Rows of which none has more own units, or a larger reservation, have no larger charge.
use Rattle.std.proofs.Common.{◌≡◌, ℕ, suc, ◌+◌, ◌<◌, ◌≤◌, Bool, true, false, cond, eqb, List, [], ◌∷◌, length, drop, sym, subst, arith}
use Rattle.std.proofs.lemmas.List.{length-drop, get_or-drop}
use Rattle.charges.specs.declared.Row.{Row}
use Rattle.charges.specs.Amounts.{weight_of}
use Rattle.charges.specs.Tree.{blank, row, load, charge, limit, WithinLimits}
use Rattle.charges.proofs.Limits.{less_excess}

-- y is at the same place, and has no more
pub record Lower (x y : Row) : Type 0 where
  pub parent : y.parent ≡ x.parent
  pub own : y.own ≤ x.own
  pub reservation : y.reservation ≤ x.reservation

cond_le : (b : Bool) (x y : ℕ) → x ≤ y → cond b x 0 ≤ cond b y 0
cond_le true x y le = le
cond_le false x y le = omega arith

load_mono : (i : ℕ) (xs ys : List Row) → length ys ≡ length xs → ((k : ℕ) → k < length xs → Lower (row xs k) (row ys k)) → (p : ℕ) → load i ys p ≤ load i xs p
unfolding load
load_mono i [] [] e lower p = omega arith
load_mono i [] (y ∷ ys) e lower p = absurd (omega arith)
load_mono i (x ∷ xs) [] e lower p = absurd (omega arith)
load_mono i (x ∷ xs) (y ∷ ys) e lower p =
    let first : Lower x y = lower 0 (omega arith) in
    let rest : (q : ℕ) → load (suc i) ys q ≤ load (suc i) xs q = load_mono (suc i) xs ys (omega arith) (λ k l. lower (suc k) (omega arith)) in
    let heavier : weight_of (y.own + load (suc i) ys i) y.reservation ≤ weight_of (x.own + load (suc i) xs i) x.reservation = omega (arith, rest i) in
    rw first.parent (omega (arith, rest p, cond_le (eqb x.parent p) _ _ heavier))

module _ (xs ys : List Row) (e : length ys ≡ length xs) (lower : (k : ℕ) → k < length xs → Lower (row xs k) (row ys k)) where
  pub charge_mono : (d : ℕ) → d < length xs → charge ys d ≤ charge xs d
  unfolding charge
  charge_mono d l =
      let below = load_mono (suc d) (drop (suc d) xs) (drop (suc d) ys) (omega (arith, length-drop (suc d) xs, length-drop (suc d) ys))
      (λ k lk.
      subst (λ (r : Row). Lower (row (drop (suc d) xs) k) r) (sym (get_or-drop (suc d) ys k blank))
      (subst (λ (r : Row). Lower r (row ys (suc d + k))) (sym (get_or-drop (suc d) xs k blank)) (lower (suc d + k) (omega (arith, length-drop (suc d) xs)))))
      d in
      omega (arith, (lower d l).own, below)

  pub within_mono : (room : ℕ) → ((k : ℕ) → k < length xs → (row ys k).quota ≡ (row xs k).quota) → WithinLimits room xs → WithinLimits room ys
  within_mono room quotas within d l =
      let lt : d < length xs = omega arith in
      rw (quotas d lt) (less_excess (limit room xs d) (charge ys d) (charge xs d) (charge_mono d lt) (within d lt))
