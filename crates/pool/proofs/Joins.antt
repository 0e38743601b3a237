-- Two allocators as one: what is done to the units of one is done to those of both.
use Rattle.std.proofs.Common.{◌≡◌, ℕ, ◌+◌, ◌-◌, ◌<◌, Bool, true, false, List, ◌++◌, length, get_or, set, Ok, Err, Result, is_ok, MatchResult, sym, refl, ap, ◌∙◌, subst, inl, inr, arith}
use Rattle.std.proofs.lemmas.List.{length-append, get_or_append_left, get_or-append_right, set-append_left, set-append_right}
use Rattle.std.proofs.lemmas.Bool.{cases_lt, true≢false}
use Rattle.pool.specs.declared.allocator.AllocatorFault.{AllocatorFault}
use Rattle.pool.specs.declared.allocator.AllocatorFault.TheVariants.{NotOut}
use Rattle.pool.specs.declared.allocator.Allocator.{Ghosts}
use Rattle.pool.specs.declared.joined.Joined.{Joined}
use Rattle.pool.specs.Pairs.{Few}
use Rattle.std.specs.Coded.{le_prop}
use mathlib.Core.HLevel.{Σ_prop_path}
use mathlib.Core.Path.{Σ_path}
use Rattle.pool.specs.Units.{Took, Gave, Kept}

pub took-first : (us vs ws : List Bool) (u : ℕ) → Took us vs (Ok u) → Took (us ++ ws) (vs ++ ws) (Ok u)
took-first us vs ws u t =
    (omega (arith, length-append us ws, t.0), get_or_append_left us ws false u t.0 ∙ t.1, ap (λ (l : List Bool). l ++ ws) t.2 ∙ sym (set-append_left us ws u true t.0))

pub took-second : (us vs ws xs : List Bool) (f : AllocatorFault) (n u : ℕ) → n ≡ length us → Took us vs (Err f) → Took ws xs (Ok u) → Took (us ++ ws) (vs ++ xs) (Ok (n + u))
took-second us vs ws xs f n u e s t =
    let k : (n + u) - n ≡ u = omega arith in (
      omega (arith, length-append us ws, t.0),
      get_or-append_right us ws n (n + u) false (sym e) (omega arith) ∙ ap (λ (j : ℕ). get_or ws j false) k ∙ t.1,
      ap (λ (l : List Bool). l ++ xs) s.2 ∙ ap (λ (l : List Bool). us ++ l) t.2 ∙ sym (set-append_right us ws n (n + u) true (sym e) (omega arith) ∙ ap (λ (j : ℕ). us ++ set ws j true) k),
    )

pub took_neither : (us vs ws xs : List Bool) (f h : AllocatorFault) → Took us vs (Err f) → Took ws xs (Err h) → Took (us ++ ws) (vs ++ xs) (Err h)
took_neither us vs ws xs f h s t = (
  t.0,
  (λ k below. elim (cases_lt k (length us)) [
    | inl l ↦ get_or_append_left us ws false k l ∙ s.1 k l
    | inr m ↦ get_or-append_right us ws (length us) k false refl m ∙ t.1 (k - length us) (omega (arith, length-append us ws))
  ]),
  ap (λ (l : List Bool). l ++ xs) s.2 ∙ ap (λ (l : List Bool). us ++ l) t.2,
)

-- the part that has a unit
pub gave_first : (us vs ws : List Bool) (n u : ℕ) (r : Result (Unit {0}) AllocatorFault) → n ≡ length us → u < n → Gave us vs u r → Gave (us ++ ws) (vs ++ ws) u r
gave_first us vs ws n u (Ok _) e h t =
    let b : u < length us = omega arith in
    (get_or_append_left us ws false u b ∙ t.0, ap (λ (l : List Bool). l ++ ws) t.1 ∙ sym (set-append_left us ws u false b))
gave_first us vs ws n u (Err f) e h t =
    (t.0, get_or_append_left us ws false u (omega arith) ∙ t.1, ap (λ (l : List Bool). l ++ ws) t.2)

pub gave_second : (us ws xs : List Bool) (n u v : ℕ) (r s : Result (Unit {0}) AllocatorFault) → n ≡ length us → n + v ≡ u → Gave ws xs v r → MatchResult r (λ _. s ≡ Ok tt) (λ _. s ≡ Err (NotOut u)) → Gave (us ++ ws) (us ++ xs) u s
gave_second us ws xs n u v (Ok _) s e q t m =
    let P : Result (Unit {0}) AllocatorFault → Type 0 = Gave (us ++ ws) (us ++ xs) u in
    let k : u - n ≡ v = omega arith in
    subst P (sym m) (
      get_or-append_right us ws n u false (sym e) (omega arith) ∙ ap (λ (j : ℕ). get_or ws j false) k ∙ t.0,
      ap (λ (l : List Bool). us ++ l) (t.1 ∙ ap (λ (j : ℕ). set ws j false) (sym k)) ∙ sym (set-append_right us ws n u false (sym e) (omega arith)),
    )
gave_second us ws xs n u v (Err f) s e q t m =
    let P : Result (Unit {0}) AllocatorFault → Type 0 = Gave (us ++ ws) (us ++ xs) u in
    let k : u - n ≡ v = omega arith in
    subst P (sym m) (refl, get_or-append_right us ws n u false (sym e) (omega arith) ∙ ap (λ (j : ℕ). get_or ws j false) k ∙ t.1, ap (λ (l : List Bool). us ++ l) t.2)

-- the pair itself is as it was where its two are
module _ {A B : Type 0} {G : Ghosts A} {H : Ghosts B} where
  pub pair-kept : (j k : Joined A B G H) → k.first ≡ j.first → k.second ≡ j.second → k ≡ j
  pair-kept j k p q =
      let F : A × B → Type 0 = λ x. Few (G.units x.0) (H.units x.1) in
      ap (λ (x : (y : A × B) × F y). record { first = x.0.0; second = x.0.1; few = x.1 })
      (Σ_prop_path {B = F} (λ x. le_prop) {u = ((k.first, k.second), k.few)} {v = ((j.first, j.second), j.few)} (Σ_path p q))

  pub first-kept : (j k : Joined A B G H) (r : Result (Unit {0}) AllocatorFault) → Kept j.first k.first r → k.second ≡ j.second → Kept j k r
  first-kept j k (Ok _) e q = tt
  first-kept j k (Err f) e q = pair-kept j k e q

  pub second-kept : (j k : Joined A B G H) (r s : Result (Unit {0}) AllocatorFault) → k.first ≡ j.first → Kept j.second k.second r → is_ok s ≡ is_ok r → Kept j k s
  second-kept j k r (Ok _) p e m = tt
  second-kept j k (Ok _) (Err f) p e m = absurd (true≢false (sym m))
  second-kept j k (Err h) (Err f) p e m = pair-kept j k p e

  pub neither-kept : (j k : Joined A B G H) (r : Result ℕ AllocatorFault) → k.first ≡ j.first → k.second ≡ j.second → Kept j k r
  neither-kept j k (Ok _) p e = tt
  neither-kept j k (Err f) p e = pair-kept j k p e

-- the memory of the pair is that of both
pub both_lent : (xs ys zs ws : List (ℕ × ℕ × List ℕ)) → xs ≡ ys → zs ≡ ws → xs ++ zs ≡ ys ++ ws
both_lent xs ys zs ws p q = ap (λ (l : List (ℕ × ℕ × List ℕ)). l ++ zs) p ∙ ap (λ (l : List (ℕ × ℕ × List ℕ)). ys ++ l) q
