-- Whether some unit is out.
use Rattle.std.proofs.Common.{◌≡◌, ℕ, suc, ◌+◌, ◌<◌, Bool, true, false, cond, ltb, List, [], ◌∷◌, length, get_or, replicate, Ok, Err, Result, sym, refl, ap, ◌∙◌, zero-add, arith}
use Rattle.std.specs.List.{list_any, range_with_len}
use Rattle.std.proofs.lemmas.List.Folds.{list_any_at, Any-from_list_any}
use Rattle.std.proofs.lemmas.List.FromFn.{length-range_with_len, get_or-range_with_len}
use Rattle.std.proofs.lemmas.List.Sums.{sum_by-cons, get_or-le-sum_by}
use Rattle.std.proofs.lemmas.Bool.{lt-ltb, le-ltb, ltb-true, ltb-false}
use Rattle.pool.specs.Units.{outs}
use Rattle.pool.proofs.Outs.{within}
use Rattle.ledger.specs.declared.fault.MakeFault.{MakeFault}
use Rattle.ledger.specs.declared.fault.MakeFault.TheVariants.{SlopTooLarge, UnitOut}
use Rattle.ledger.specs.Makes.{any_out, check_answer}

one_out : (us : List Bool) (u : ℕ) → get_or us u false ≡ true → any_out us ≡ true
one_out us u e =
    let h = get_or-le-sum_by (λ (b : Bool). cond b 1 0) us u false (within us u e) in
    let d : ◌≡◌ {A = ℕ} (cond (get_or us u false) 1 0) 1 = ap (λ (b : Bool). cond b 1 0) e in
    lt-ltb 0 (outs us) (omega arith)

none-outs : (us : List Bool) → ((k : ℕ) → k < length us → get_or us k false ≡ false) → outs us ≡ 0
none-outs [] none = refl
none-outs (b ∷ bs) none =
    let d : ◌≡◌ {A = ℕ} (cond b 1 0) 0 = ap (λ (x : Bool). cond x 1 0) (none 0 (omega arith)) in
    let i = none-outs bs (λ k h. none (suc k) (omega arith)) in
    let s : outs (b ∷ bs) ≡ cond b 1 0 + outs bs = sum_by-cons (λ (x : Bool). cond x 1 0) b bs in
    omega arith

pub none_out : (us : List Bool) → ((k : ℕ) → k < length us → get_or us k false ≡ false) → any_out us ≡ false
none_out us none = le-ltb 0 (outs us) (omega (arith, none-outs us none))

in_then : (us : List Bool) → outs us ≡ 0 → us ≡ replicate (length us) false
in_then [] e = refl
in_then (true ∷ bs) e = absurd (omega (arith, sum_by-cons (λ (x : Bool). cond x 1 0) true bs))
in_then (false ∷ bs) e = ap (λ (xs : List Bool). false ∷ xs) (in_then bs (omega (arith, sum_by-cons (λ (x : Bool). cond x 1 0) false bs)))

-- whether some unit is out, asked of one after the other
abbrev pub asked : List Bool → Bool
asked us = list_any (λ u. get_or us u false) (range_with_len 0 (length us))

in_at : (us : List Bool) → asked us ≡ false → (k : ℕ) → k < length us → (b : Bool) → get_or us k false ≡ b → b ≡ false
in_at us e k h false is = refl
in_at us e k h true is =
    let long : k < length (range_with_len 0 (length us)) = omega (arith, length-range_with_len 0 (length us)) in
    let here : get_or (range_with_len 0 (length us)) k 0 ≡ k = get_or-range_with_len 0 (length us) k 0 h ∙ zero-add k in
    sym (list_any_at (λ u. get_or us u false) (range_with_len 0 (length us)) k 0 long (ap (λ (j : ℕ). get_or us j false) here ∙ is)) ∙ e

asked_by : (us : List Bool) (b : Bool) → asked us ≡ b → b ≡ any_out us
asked_by us false e = sym (none_out us (λ k h. in_at us e k h (get_or us k false) refl))
asked_by us true e =
    let a = Any-from_list_any (λ u. get_or us u false) (range_with_len 0 (length us)) e in
    sym (one_out us a.1 a.4)

pub asked_each : (us : List Bool) → asked us ≡ any_out us
asked_each us = asked_by us (asked us) refl

-- what a making that was checked may count on
pub record Checks (slop : ℕ) (us : List Bool) : Type 0 where
  pub below : slop < length us
  pub all_in : us ≡ replicate (length us) false

checked_by : (slop : ℕ) (us : List Bool) (a b : Bool) → ltb slop (length us) ≡ a → any_out us ≡ b →
    ◌≡◌ {A = Result (Unit {0}) MakeFault} (cond a (cond b (Err UnitOut) (Ok tt)) (Err SlopTooLarge)) (Ok tt) → Checks slop us
checked_by slop us false b ea eb e = let z : ◌≡◌ {A = ℕ} 0 1 = cc in absurd (omega arith)
checked_by slop us true true ea eb e = let z : ◌≡◌ {A = ℕ} 0 1 = cc in absurd (omega arith)
checked_by slop us true false ea eb e = record { below = ltb-true _ _ ea; all_in = in_then us (omega (arith, ltb-false 0 (outs us) eb)) }

pub checked : (slop : ℕ) (us : List Bool) → check_answer slop us ≡ Ok tt → Checks slop us
checked slop us e = checked_by slop us (ltb slop (length us)) (any_out us) refl refl e
