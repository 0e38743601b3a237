-- What a bitmap and a chain keep, they keep in one way only.
use Rattle.std.specs.Prelude.{◌≡◌, ℕ, ◌<◌, List, [], ◌∷◌, ◌≢◌, slice_index}
use Rattle.std.proofs.Common.{sym, refl, ap, ◌∙◌, subst, inl, inr, arith}
use Rattle.std.proofs.Props.{props}
use mathlib.Core.HLevel.{×_prop, is_prop→PathP}
use native.Mathlib.Nat.{ℕ_set}
use Rattle.pool.specs.Links.{Apart, Among, Threads, Space, Linked}
use Rattle.pool.specs.Marks.{Mapped}

pub apart_once : (u : ℕ) (xs : List ℕ) → IsProp (Apart u xs)
apart_once u [] = hlevel props
apart_once u (x ∷ xs) = ×_prop (hlevel props) (apart_once u xs)

pub not_among : (u : ℕ) (xs : List ℕ) → Apart u xs → Among u xs → ⊥
not_among u [] a m = m
not_among u (x ∷ xs) a (inl e) = a.0 e
not_among u (x ∷ xs) a (inr m) = not_among u xs a.1 m

pub threads_once : (ls : List ℕ) (n h : ℕ) (xs : List ℕ) → IsProp (Threads ls n h xs)
threads_once ls n h [] s t = ℕ_set h n s t
threads_once ls n h (x ∷ xs) s t =
    let below_once : IsProp (x < n) = hlevel props in
    λ i. (ℕ_set h x s.0 t.0 i, below_once s.1 t.1 i, apart_once x xs s.2 t.2 i, threads_once ls n (slice_index ls x) xs s.3 t.3 i)

-- the entries go through one list of units only
pub same_threads : (ls : List ℕ) (n h : ℕ) (xs ys : List ℕ) → Threads ls n h xs → Threads ls n h ys → xs ≡ ys
same_threads ls n h [] [] s t = refl
same_threads ls n h [] (y ∷ ys) s t = absurd (omega (arith, s, t.0, t.1))
same_threads ls n h (x ∷ xs) [] s t = absurd (omega (arith, t, s.0, s.1))
same_threads ls n h (x ∷ xs) (y ∷ ys) s t =
    let e : y ≡ x = sym t.0 ∙ s.0 in
    let P : ℕ → Type 0 = λ k. Threads ls n (slice_index ls k) ys in
    ap (λ (k : ℕ). k ∷ xs) (sym e) ∙ ap (λ (l : List ℕ). y ∷ l) (same_threads ls n (slice_index ls x) xs ys s.3 (subst P e t.3))

-- a list that the entries go through has each unit once
pub among_once : (ls : List ℕ) (n h : ℕ) (xs : List ℕ) → Threads ls n h xs → (u : ℕ) → IsProp (Among u xs)
among_once ls n h [] t u a b = absurd a
among_once ls n h (x ∷ xs) t u (inl a) (inl b) = ap inl (ℕ_set u x a b)
among_once ls n h (x ∷ xs) t u (inl a) (inr b) = let P : ℕ → Type 0 = λ k. Among k xs in absurd (not_among x xs t.2 (subst P a b))
among_once ls n h (x ∷ xs) t u (inr a) (inl b) = let P : ℕ → Type 0 = λ k. Among k xs in absurd (not_among x xs t.2 (subst P b a))
among_once ls n h (x ∷ xs) t u (inr a) (inr b) = ap inr (among_once ls n (slice_index ls x) xs t.3 u a b)

pub linked_once : (ls : List ℕ) (n h : ℕ) → IsProp (Linked ls n h)
linked_once ls n h x y =
    let e : x.free ≡ y.free = same_threads ls n h x.free y.free x.threads y.threads in
    let space_once : IsProp (Space ls n) = hlevel props in
    λ i. record {
      space = space_once x.space y.space i;
      free = e i;
      threads = is_prop→PathP (λ j. Threads ls n h (e j)) (λ j. threads_once ls n h (e j)) x.threads y.threads i;
      all = is_prop→PathP (λ j. (k : ℕ) → k < n → (slice_index ls k ≢ 65535) → Among k (e j))
          (λ j. λ a b l k m ne. among_once ls n h (e j) (is_prop→PathP (λ j'. Threads ls n h (e j')) (λ j'. threads_once ls n h (e j')) x.threads y.threads j) k (a k m ne) (b k m ne) l) x.all y.all i;
    }

pub mapped_once : (bs : List ℕ) (n h : ℕ) → IsProp (Mapped bs n h)
mapped_once bs n h = hlevel props
