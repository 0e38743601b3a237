-- What it is to be within a limit.
use Rattle.std.proofs.Common.{◌≡◌, ℕ, ◌+◌, ◌-◌, ◌<◌, ◌≤◌, cond, eqb, ◌≢◌, List, length, Some, None, Option, refl, ap, ◌∙◌, inl, inr, arith}
use Rattle.std.proofs.lemmas.Bool.{eq-eqb, ne_eqb, cond-true, cond-false, cases_eq}
use Rattle.charges.specs.declared.Row.{Row}
use Rattle.charges.specs.Amounts.{limit_of, excess}
use Rattle.charges.specs.Tree.{row, charge, limit, Reserved}
use Rattle.charges.specs.Laws.{LimitLaw}

-- a smaller charge passes no limit that a larger one does not
pub less_excess : (l : Option ℕ) (x y : ℕ) → x ≤ y → excess l y ≡ 0 → excess l x ≡ 0
less_excess None x y le none = refl
less_excess (Some n) x y le none = omega arith

-- a charge that was within its limit passes it by no more than its rise
pub excess_rise : (l : Option ℕ) (x y c : ℕ) → y ≤ x + c → excess l x ≡ 0 → excess l y ≤ c
excess_rise None x y c le none = omega arith
excess_rise (Some n) x y c le none = omega arith

limit-quota : (room d q : ℕ) → 0 < d → q ≢ 0 → limit_of room d q ≡ Some q
limit-quota room d q gt ne = cond-false (eqb d 0) (Some room) (cond (eqb q 0) None (Some q)) (ne_eqb d 0 (omega arith)) ∙ cond-false (eqb q 0) None (Some q) (ne_eqb q 0 ne)

limit-none : (room d q : ℕ) → 0 < d → q ≡ 0 → limit_of room d q ≡ None
limit-none room d q gt e = cond-false (eqb d 0) (Some room) (cond (eqb q 0) None (Some q)) (ne_eqb d 0 (omega arith)) ∙ cond-true (eqb q 0) None (Some q) (eq-eqb q 0 e)

pub excess-quota : (room d q x : ℕ) → 0 < d → q ≢ 0 → excess (limit_of room d q) x ≡ x - q
excess-quota room d q x gt ne = ap (λ l. excess l x) (limit-quota room d q gt ne)

pub excess-none : (room d q x : ℕ) → 0 < d → q ≡ 0 → excess (limit_of room d q) x ≡ 0
excess-none room d q x gt e = ap (λ l. excess l x) (limit-none room d q gt e)

pub excess-root : (room q x : ℕ) → excess (limit_of room 0 q) x ≡ x - room
excess-root room q x = refl

pub limit-law : LimitLaw
limit-law room rows = record {
  root = (λ w. omega (arith, excess-root room (row rows 0).quota (charge rows 0)), λ le. omega (arith, excess-root room (row rows 0).quota (charge rows 0)));
  by_quota = λ d gt ne. (
    λ w. omega (arith, excess-quota room d (row rows d).quota (charge rows d) gt ne),
    λ le. omega (arith, excess-quota room d (row rows d).quota (charge rows d) gt ne),
  );
  no_quota = λ d gt e. excess-none room d (row rows d).quota (charge rows d) gt e;
}

-- a charge that does not pass the dataset's reservation does not pass its quota
pub reserved-within : (room : ℕ) (rows : List Row) (d x : ℕ) → Reserved rows → d < length rows → 0 < d → x ≤ (row rows d).reservation → excess (limit room rows d) x ≡ 0
reserved-within room rows d x reserved l gt le = elim (cases_eq (row rows d).quota 0) [
  | inl none ↦ excess-none room d (row rows d).quota x gt none
  | inr some ↦ omega (arith, excess-quota room d (row rows d).quota x gt some, reserved.in_quota d l some)
]

-- no units pass no limit
pub nothing-within : (l : Option ℕ) (x : ℕ) → x ≡ 0 → excess l x ≡ 0
nothing-within None x e = refl
nothing-within (Some n) x e = omega arith
