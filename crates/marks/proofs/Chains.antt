-- The links of one holder's units: a unit comes to its head or leaves from there, and a unit of others is moved.
use Rattle.std.proofs.Common.{◌≡◌, ℕ, ◌<◌, Bool, true, false, List, [], ◌∷◌, length, get_or, set, sym, refl, ap, ◌∙◌, subst, inl, inr, arith}
use Rattle.std.proofs.lemmas.List.{get_or-set_same, get_or-set_other}
use Rattle.std.proofs.lemmas.Bool.{cases_eq, cases_Bool, true≢false}
use Rattle.pool.specs.Links.{Apart, Among, Threads}
use Rattle.pool.specs.Once.{not_among}
use Rattle.rules.specs.declared.state.Holder.{Holder}
use Rattle.rules.specs.declared.state.Holder.TheVariants.{Nobody}
use Rattle.marks.specs.Linked.{Chained}

threads-set : (ls : List ℕ) (n h : ℕ) (xs : List ℕ) (u v : ℕ) → Apart u xs → Threads ls n h xs → Threads (set ls u v) n h xs
threads-set ls n h [] u v a t = t
threads-set ls n h (x ∷ xs) u v a t =
    let o : get_or (set ls u v) x 0 ≡ get_or ls x 0 = get_or-set_other ls u x v 0 (λ q. a.0 (sym q)) in
    let r = threads-set ls n (get_or ls x 0) xs u v a.1 t.3 in
    let P : ℕ → Type 0 = λ m. Threads (set ls u v) n m xs in
    (t.0, t.1, t.2, subst P (sym o) r)

apart : (xs : List ℕ) (u : ℕ) → (Among u xs → ⊥) → Apart u xs
apart [] u f = tt
apart (x ∷ xs) u f = ((λ e. f (inl e)), apart xs u (λ a. f (inr a)))

module _ (n : ℕ) (hs : List Holder) (next : List ℕ) (p : Holder → Bool) where
  headed : (h : ℕ) (xs : List ℕ) → Threads next n h xs → ((u : ℕ) → Among u xs → p (get_or hs u Nobody) ≡ true) → (h ≡ n → ⊥) →
      (h < n) × (p (get_or hs h Nobody) ≡ true)
  headed h [] t own ne = absurd (ne t)
  headed h (x ∷ xs) t own ne = (omega (arith, t.0, t.1), own h (inl t.0))

  -- the head is a unit of the holder, unless the list has ended
  pub head_own : (h : ℕ) → Chained n hs next h p → (h ≡ n → ⊥) → (h < n) × (p (get_or hs h Nobody) ≡ true)
  head_own h w ne = headed h w.units w.threads w.own ne

  ended : (h u : ℕ) (xs : List ℕ) → Threads next n h xs → h ≡ n → Among u xs → ⊥
  ended h u [] t e m = m
  ended h u (x ∷ xs) t e m = omega (arith, t.0, t.1)

  -- where the list has ended, no unit is the holder's
  pub none-own : (h : ℕ) → Chained n hs next h p → h ≡ n → (u : ℕ) → p (get_or hs u Nobody) ≡ false
  none-own h w e u = elim (cases_Bool (p (get_or hs u Nobody))) [
    | inl y ↦ absurd (ended h u w.units w.threads e (w.all u y))
    | inr f ↦ f
  ]

  module _ (u : ℕ) (y : Holder) (inside : u < length hs) where
    set_here : p (get_or (set hs u y) u Nobody) ≡ p y
    set_here = ap p (get_or-set_same hs u y Nobody inside)

    set_there : (k : ℕ) → (k ≡ u → ⊥) → p (get_or (set hs u y) k Nobody) ≡ p (get_or hs k Nobody)
    set_there k ne = ap p (get_or-set_other hs u k y Nobody ne)

    -- a unit that is not the holder's, before and after
    pub beside : (h v : ℕ) → Chained n hs next h p → p (get_or hs u Nobody) ≡ false → p y ≡ false → Chained n (set hs u y) (set next u v) h p
    beside h v w was is =
        let not : Among u w.units → ⊥ = λ m. true≢false (sym (w.own u m) ∙ was) in
        record {
          units = w.units;
          threads = threads-set next n h w.units u v (apart w.units u not) w.threads;
          own = λ k m. elim (cases_eq k u) [
            | inl e ↦ let P : ℕ → Type 0 = λ j. Among j w.units in absurd (not (subst P e m))
            | inr ne ↦ set_there k ne ∙ w.own k m
          ];
          all = λ k t. elim (cases_eq k u) [
            | inl e ↦ absurd (true≢false (sym t ∙ ap (λ (j : ℕ). p (get_or (set hs u y) j Nobody)) e ∙ set_here ∙ is))
            | inr ne ↦ w.all k (sym (set_there k ne) ∙ t)
          ];
        }

    -- a unit that becomes the holder's, before its head
    pub pushed : (h : ℕ) → Chained n hs next h p → u < n → u < length next → p (get_or hs u Nobody) ≡ false → p y ≡ true → Chained n (set hs u y) (set next u h) u p
    pushed h w below wide was is =
        let not : Among u w.units → ⊥ = λ m. true≢false (sym (w.own u m) ∙ was) in
        let a : Apart u w.units = apart w.units u not in
        let P : ℕ → Type 0 = λ m. Threads (set next u h) n m w.units in
        record {
          units = u ∷ w.units;
          threads = (refl, below, a, subst P (sym (get_or-set_same next u h 0 wide)) (threads-set next n h w.units u h a w.threads));
          own = λ k m. elim (cases_eq k u) [
            | inl e ↦ ap (λ (j : ℕ). p (get_or (set hs u y) j Nobody)) e ∙ set_here ∙ is
            | inr ne ↦ set_there k ne ∙ elim m [ inl e ↦ absurd (ne e) | inr i ↦ w.own k i ]
          ];
          all = λ k t. elim (cases_eq k u) [ inl e ↦ inl e | inr ne ↦ inr (w.all k (sym (set_there k ne) ∙ t)) ];
        }

    unlinked : (v : ℕ) (xs : List ℕ) → Threads next n u xs → ((k : ℕ) → Among k xs → p (get_or hs k Nobody) ≡ true) → ((k : ℕ) → p (get_or hs k Nobody) ≡ true → Among k xs) → (u ≡ n → ⊥) → p y ≡ false → Chained n (set hs u y) (set next u v) (get_or next u 0) p
    unlinked v [] t own all ne is = absurd (ne t)
    unlinked v (x ∷ xs) t own all ne is =
        let P : ℕ → Type 0 = λ m. Apart m xs in
        let Q : ℕ → Type 0 = λ m. Threads next n (get_or next m 0) xs in
        let a : Apart u xs = subst P (sym t.0) t.2 in
        let r : Threads next n (get_or next u 0) xs = subst Q (sym t.0) t.3 in
        record {
          units = xs;
          threads = threads-set next n (get_or next u 0) xs u v a r;
          own = λ k m. elim (cases_eq k u) [
            | inl e ↦ let M : ℕ → Type 0 = λ j. Among j xs in absurd (not_among u xs a (subst M e m))
            | inr d ↦ set_there k d ∙ own k (inr m)
          ];
          all = λ k s. elim (cases_eq k u) [
            | inl e ↦ absurd (true≢false (sym s ∙ ap (λ (j : ℕ). p (get_or (set hs u y) j Nobody)) e ∙ set_here ∙ is))
            | inr d ↦ elim (all k (sym (set_there k d) ∙ s)) [ inl e ↦ absurd (d (e ∙ sym t.0)) | inr i ↦ i ]
          ];
        }

    -- a unit that is the holder's no more: it was at the head
    pub popped : (v : ℕ) → Chained n hs next u p → (u ≡ n → ⊥) → p y ≡ false → Chained n (set hs u y) (set next u v) (get_or next u 0) p
    popped v w ne is = unlinked v w.units w.threads w.own w.all ne is
