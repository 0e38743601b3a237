-- What a lender concludes from the contracts of the makings and calls.
use Rattle.std.proofs.Common.{◌≡◌, ℕ, ◌-◌, ◌*◌, ◌/◌, ◌^◌, ◌<◌, ◌≤◌, min, Bool, false, List, [], ◌∷◌, length, get_or, set, replicate, IfOk, Ok, Err, Option, Result, sym, ap, ◌∙◌, subst, inl, inr, arith, MatchResult}
use Rattle.std.proofs.lemmas.Nat.{shl-shr}
use Rattle.std.proofs.lemmas.List.FromFn.{get_or-map-range_with_len, fill_by_all}
use Rattle.std.proofs.lemmas.List.{get_or-replicate, length-replicate}
use Rattle.std.proofs.lemmas.Bool.{cases_eq, true≢false}
use Rattle.pool.specs.declared.allocator.AllocatorFault.{AllocatorFault}
use Rattle.pool.specs.Batches.{Filled, Takes}
use Rattle.pool.specs.Faults.{ground}
use Rattle.pool.specs.Links.{chained, TookHead}
use Rattle.pool.specs.Marks.{bit_at, marks, turned, low_cleared, cleared, Room, TookLowest}
use Rattle.pool.specs.Units.{Took}
use Rattle.pool.proofs.Turns.{cleared-below, length-cleared}

-- a new allocator does not refuse
not_full : (us vs : List Bool) (n : ℕ) (f : AllocatorFault) → 1 ≤ n → us ≡ replicate n false → Took us vs (Err f) → ⊥
not_full us vs n f h e t =
    let l : length us ≡ n = ap length e ∙ length-replicate n false in
    true≢false (sym (t.1 0 (omega arith)) ∙ ap (λ (x : List Bool). get_or x 0 false) e ∙ get_or-replicate n 0 false false (omega arith))

pub first_bit : (bs ns ms xs : List ℕ) (us vs : List Bool) (n : ℕ) (r : Result ℕ AllocatorFault) → Room bs n → ns ≡ cleared bs n → us ≡ replicate n false → TookLowest ns ms r → Took us vs r → xs ≡ ms → MatchResult r (λ u. (u ≡ 0) × (xs ≡ turned (cleared bs n) 0)) (λ f. (ground f ≡ (20, 4, [])) × (xs ≡ bs))
first_bit bs ns ms xs us vs n (Ok u) m e w t o x =
    let z : u ≡ 0 = elim (cases_eq u 0) [
      | inl q ↦ q
      | inr d ↦ absurd (true≢false (sym (t.1 0 (omega arith)) ∙ ap (λ (l : List ℕ). bit_at l 0) e ∙ cleared-below bs n 0 m.2 (omega (arith, m.0))))
    ] in
    (z, x ∙ t.0 ∙ ap (λ (l : List ℕ). turned l u) e ∙ ap (turned (cleared bs n)) z)
first_bit bs ns ms xs us vs n (Err f) m e w t o x = absurd (not_full us vs n f m.0 w o)

pub first_link : (ls ns ms xs : List ℕ) (us vs : List Bool) (n h g : ℕ) (r : Result ℕ AllocatorFault) → 1 ≤ n → ns ≡ chained ls n → h ≡ 0 → us ≡ replicate n false → TookHead ns ms h g r → Took us vs r → xs ≡ ms → MatchResult r (λ u. (u ≡ 0) × (xs ≡ set (chained ls n) 0 65535)) (λ f. (ground f ≡ (20, 4, [])) × (xs ≡ ls))
first_link ls ns ms xs us vs n h g (Ok u) m e q w t o x =
    (t.0 ∙ q, x ∙ t.1 ∙ ap (λ (l : List ℕ). set l h 65535) e ∙ ap (λ (k : ℕ). set (chained ls n) k 65535) q)
first_link ls ns ms xs us vs n h g (Err f) m e q w t o x = absurd (not_full us vs n f m w o)

-- the lent memory of one allocator, taken apart
abbrev front : List (ℕ × ℕ × List ℕ) → ℕ × ℕ × List ℕ
front [] = (0, 0, [])
front (p ∷ ps) = p

pub record Same (m k m' k' : ℕ) (a a' : List ℕ) : Type 0 where
  pub named : m ≡ m'
  pub sized : k ≡ k'
  pub beside : a ≡ a'

pub one_lent : (m k m' k' : ℕ) (a a' : List ℕ) → ◌≡◌ {A = List (ℕ × ℕ × List ℕ)} ((m, k, a) ∷ []) ((m', k', a') ∷ []) → Same m k m' k' a a'
one_lent m k m' k' a a' e =
    record { named = ap (λ (l : List (ℕ × ℕ × List ℕ)). (front l).0) e; sized = ap (λ (l : List (ℕ × ℕ × List ℕ)). (front l).1) e; beside = ap (λ (l : List (ℕ × ℕ × List ℕ)). (front l).2) e }

-- what a making has left beside the units
cleared_at : (bs : List ℕ) (n i : ℕ) → i < length bs → get_or (cleared bs n) i 0 ≡ low_cleared (get_or bs i 0) (n - 8 * i)
cleared_at bs n i h = get_or-map-range_with_len (λ j. low_cleared (get_or bs j 0) (n - 8 * j)) 0 (length bs) i i 0 h (omega arith)

low_twice : (x n : ℕ) → low_cleared (low_cleared x n) n ≡ low_cleared x n
low_twice x n = ap (λ (y : ℕ). y * 2 ^ min n 8) (shl-shr (x / 2 ^ min n 8) (min n 8))

pub cleared_twice : (bs : List ℕ) (n : ℕ) → cleared (cleared bs n) n ≡ cleared bs n
cleared_twice bs n =
    let l = length-cleared bs n in
    fill_by_all (λ i. low_cleared (get_or bs i 0) (n - 8 * i)) (cleared (cleared bs n) n) (length bs) 0 (length-cleared (cleared bs n) n ∙ l)
    (λ k h. cleared_at (cleared bs n) n k (omega arith) ∙ ap (λ (x : ℕ). low_cleared x (n - 8 * k)) (cleared_at bs n k h) ∙ low_twice (get_or bs k 0) (n - 8 * k))

-- what the lender concludes after generic code
beside-bits : (bs b₀ b₁ xs : List ℕ) (n s₀ s₁ : ℕ) → xs ≡ b₁ → s₁ ≡ n → cleared b₁ s₁ ≡ cleared b₀ s₀ → s₀ ≡ n → b₀ ≡ cleared bs n → cleared xs n ≡ cleared bs n
beside-bits bs b₀ b₁ xs n s₀ s₁ x p e q h =
    ap (λ (l : List ℕ). cleared l n) x ∙ ap (cleared b₁) (sym p) ∙ e ∙ ap (cleared b₀) q ∙ ap (λ (l : List ℕ). cleared l n) h ∙ cleared_twice bs n

listed-bits : (us : List Bool) (b₁ xs : List ℕ) (ls ys : List (Option ℕ)) (n s₁ : ℕ) (r : Result (Unit {0}) AllocatorFault) → Filled us (marks b₁ s₁) ls ys r → us ≡ replicate n false → xs ≡ b₁ → s₁ ≡ n → IfOk r (λ _. Takes (replicate n false) ys (marks xs n))
listed-bits us b₁ xs ls ys n s₁ (Ok _) t e x k =
    let P : List Bool → Type 0 = λ l. Takes l ys (marks xs n) in
    let Q : List Bool → Type 0 = λ l. Takes us ys l in
    subst P e (subst Q (ap (marks b₁) k ∙ ap (λ (l : List ℕ). marks l n) (sym x)) t)
listed-bits us b₁ xs ls ys n s₁ (Err f) t e x k = tt

pub listing : (us : List Bool) (bs b₀ b₁ xs : List ℕ) (ls ys : List (Option ℕ)) (n s₀ s₁ : ℕ) (r : Result (Unit {0}) AllocatorFault) → Filled us (marks b₁ s₁) ls ys r → us ≡ replicate n false → xs ≡ b₁ → s₁ ≡ n → cleared b₁ s₁ ≡ cleared b₀ s₀ → s₀ ≡ n → b₀ ≡ cleared bs n → (cleared xs n ≡ cleared bs n) × IfOk r (λ _. Takes (replicate n false) ys (marks xs n))
listing us bs b₀ b₁ xs ls ys n s₀ s₁ r t e x k w q h = (beside-bits bs b₀ b₁ xs n s₀ s₁ x k w q h, listed-bits us b₁ xs ls ys n s₁ r t e x k)
