-- How `take` and `give` change the list of the units, and how many are out.
use Rattle.std.proofs.Common.{◌≡◌, ℕ, suc, ◌+◌, ◌<◌, Bool, true, false, cond, List, [], ◌∷◌, length, get_or, set, Ok, Err, Result, sym, refl, ap, ◌∙◌, inl, inr, arith}
use Rattle.std.proofs.lemmas.List.{get_or_past, length-set}
use Rattle.std.proofs.lemmas.List.Sums.{sum_by-set, sum_by-cons}
use Rattle.std.proofs.lemmas.Bool.{cases_lt, true≢false}
use Rattle.pool.specs.declared.allocator.AllocatorFault.{AllocatorFault}
use Rattle.pool.specs.Units.{outs, Took, Gave}

pub within : (us : List Bool) (u : ℕ) → get_or us u false ≡ true → u < length us
within us u e =
    elim (cases_lt u (length us)) [ inl h ↦ h | inr h ↦ absurd (true≢false (sym e ∙ get_or_past us u false h)) ]

-- no call changes the number of units
pub took-length : (us vs : List Bool) (r : Result ℕ AllocatorFault) → Took us vs r → length vs ≡ length us
took-length us vs (Ok u) t = ap length t.2 ∙ length-set us u true
took-length us vs (Err f) t = ap length t.2

pub gave_length : (us vs : List Bool) (u : ℕ) (r : Result (Unit {0}) AllocatorFault) → Gave us vs u r → length vs ≡ length us
gave_length us vs u (Ok _) t = ap length t.1 ∙ length-set us u false
gave_length us vs u (Err f) t = ap length t.2

-- one more is out after a `take`, one less after a `give`, and a refused `take` has found all out
pub outs-taken : (us : List Bool) (u : ℕ) → u < length us → get_or us u false ≡ false → outs (set us u true) ≡ outs us + 1
outs-taken us u h e =
    let s = sum_by-set (λ (b : Bool). cond b 1 0) us u true false h in omega (arith, rw e at s)

pub outs_given : (us : List Bool) (u : ℕ) → get_or us u false ≡ true → outs (set us u false) + 1 ≡ outs us
outs_given us u e =
    let s = sum_by-set (λ (b : Bool). cond b 1 0) us u false false (within us u e) in omega (arith, rw e at s)

pub outs-all : (us : List Bool) → ((k : ℕ) → k < length us → get_or us k false ≡ true) → outs us ≡ length us
outs-all [] all = refl
outs-all (b ∷ bs) all =
    let d : ◌≡◌ {A = ℕ} (cond b 1 0) 1 = ap (λ (x : Bool). cond x 1 0) (all 0 (omega arith)) in
    let i = outs-all bs (λ k h. all (suc k) (omega arith)) in
    let s : outs (b ∷ bs) ≡ cond b 1 0 + outs bs = sum_by-cons (λ (x : Bool). cond x 1 0) b bs in
    omega arith
