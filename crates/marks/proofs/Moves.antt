-- One unit moves: from nobody to a record, from a record to the deferred, from the deferred to nobody.
use Rattle.std.proofs.Common.{◌≡◌, ℕ, ◌+◌, ◌*◌, ◌<◌, ◌≤◌, true, false, eqb, List, length, get_or, set, sym, refl, ap, ◌∙◌, subst, inl, inr, arith}
use Rattle.std.proofs.lemmas.List.{length-set, get_or-set_same, get_or-set_other, set-get_or}
use Rattle.std.proofs.lemmas.Bool.{cases_eq, true≢false, eq-eqb, ne_eqb, eqb-true, and_from, and_parts, and_left, and_right}
use Rattle.rules.specs.Holders.{same, is_deferred}
use Rattle.rules.specs.declared.state.Holder.{Holder}
use Rattle.rules.specs.declared.state.Holder.TheVariants.{Nobody, Record, Deferred}
use Rattle.marks.specs.Linked.{Named, Chained, Linked}
use Rattle.marks.proofs.Chains.{head_own, beside, pushed, popped}

pub same_self : (v r : ℕ) → same (Record v r) (Record v r) ≡ true
same_self v r = and_from (eqb v v) (eqb r r) (eq-eqb v v refl) (eq-eqb r r refl)

-- a holder that is this record
pub same_true : (v r : ℕ) (h : Holder) → same (Record v r) h ≡ true → h ≡ Record v r
same_true v r Nobody e = absurd (true≢false (sym e))
same_true v r (Record w s) e =
    let b = and_parts (eqb v w) (eqb r s) e in
    ap (λ (k : ℕ). Record k s) (sym (eqb-true v w b.0)) ∙ ap (λ (k : ℕ). Record v k) (sym (eqb-true r s b.1))
same_true v r (Deferred w) e = absurd (true≢false (sym e))

-- records with heads of their own are not the same
same_other : (w s v r : ℕ) → (w * 64 + s ≡ v * 64 + r → ⊥) → same (Record w s) (Record v r) ≡ false
same_other w s v r ne =
    elim (cases_eq w v) [
      | inl e ↦ elim (cases_eq s r) [ inl f ↦ absurd (ne (omega arith)) | inr d ↦ and_right (eqb w v) (eqb s r) (ne_eqb s r d) ]
      | inr d ↦ and_left (eqb w v) (eqb s r) (ne_eqb w v d)
    ]

pub deferred_other : (w s : ℕ) (h : Holder) → is_deferred h ≡ true → same (Record w s) h ≡ false
deferred_other w s Nobody e = refl
deferred_other w s (Record v r) e = absurd (true≢false (sym e))
deferred_other w s (Deferred v) e = refl

named_set : (hs : List Holder) (u : ℕ) (y : Holder) → u < length hs → Named y → ((k : ℕ) → Named (get_or hs k Nobody)) → (k : ℕ) → Named (get_or (set hs u y) k Nobody)
named_set hs u y l n all k =
    elim (cases_eq k u) [
      | inl e ↦ subst Named (sym (ap (λ (j : ℕ). get_or (set hs u y) j Nobody) e ∙ get_or-set_same hs u y Nobody l)) n
      | inr d ↦ subst Named (sym (get_or-set_other hs u k y Nobody d)) (all k)
    ]

module _ (n : ℕ) (hs : List Holder) (next first : List ℕ) (d : ℕ) (w : Linked n hs next first d) (small : n ≤ 4096) where
  -- a unit that nobody has goes to a record
  pub to_record : (u v r : ℕ) → u < n → get_or hs u Nobody ≡ Nobody → v < 64 → r < 64 →
      Linked n (set hs u (Record v r)) (set next u (get_or first (v * 64 + r) 0)) (set first (v * 64 + r) u) d
  to_record u v r below free lv lr =
      let y = Record v r in
      let inside : u < length hs = omega (arith, w.long) in
      let h = get_or first (v * 64 + r) 0 in
      let C : ℕ → ℕ → ℕ → Type 0 = λ x s m. Chained n (set hs u y) (set next u h) m (same (Record x s)) in
      record {
        long = length-set hs u y ∙ w.long;
        wide = length-set next u h ∙ w.wide;
        heads = length-set first (v * 64 + r) u ∙ w.heads;
        named = named_set hs u y inside (lv, lr) w.named;
        records = λ x s lx ls. elim (cases_eq (x * 64 + s) (v * 64 + r)) [
          | inl e ↦
              let ex : x ≡ v = omega arith in
              let es : s ≡ r = omega arith in
              let head : get_or (set first (v * 64 + r) u) (x * 64 + s) 0 ≡ u = ap (λ (j : ℕ). get_or (set first (v * 64 + r) u) j 0) e ∙ get_or-set_same first (v * 64 + r) u 0 (omega (arith, w.heads)) in
              let it : C v r u = pushed n hs next (same (Record v r)) u y inside h (w.records v r lv lr) below (omega (arith, w.wide)) (ap (same (Record v r)) free) (same_self v r) in
              let P : ℕ → Type 0 = λ k. C k s (get_or (set first (v * 64 + r) u) (x * 64 + s) 0) in
              let Q : ℕ → Type 0 = λ k. C v k (get_or (set first (v * 64 + r) u) (x * 64 + s) 0) in
              let R : ℕ → Type 0 = λ k. C v r k in
              subst P (sym ex) (subst Q (sym es) (subst R (sym head) it))
          | inr ne ↦
              let P : ℕ → Type 0 = λ k. C x s k in
              subst P (sym (get_or-set_other first (v * 64 + r) (x * 64 + s) u 0 ne))
              (beside n hs next (same (Record x s)) u y inside _ h (w.records x s lx ls) (ap (same (Record x s)) free) (same_other x s v r ne))
        ];
        deferred = beside n hs next is_deferred u y inside d h w.deferred (ap is_deferred free) refl;
      }

  -- a record's head is one of its units, unless it has none
  pub record_head : (v r : ℕ) → v < 64 → r < 64 → (get_or first (v * 64 + r) 0 ≡ n → ⊥) → (get_or first (v * 64 + r) 0 < n) × (get_or hs (get_or first (v * 64 + r) 0) Nobody ≡ Record v r)
  record_head v r lv lr ne =
      let o = head_own n hs next (same (Record v r)) (get_or first (v * 64 + r) 0) (w.records v r lv lr) ne in
      (o.0, same_true v r (get_or hs (get_or first (v * 64 + r) 0) Nobody) o.1)

  -- the unit at a record's head is deferred
  pub to_deferred : (v r : ℕ) → v < 64 → r < 64 → (get_or first (v * 64 + r) 0 ≡ n → ⊥) →
      Linked n (set hs (get_or first (v * 64 + r) 0) (Deferred v)) (set next (get_or first (v * 64 + r) 0) d) (set first (v * 64 + r) (get_or next (get_or first (v * 64 + r) 0) 0)) (get_or first (v * 64 + r) 0)
  to_deferred v r lv lr ne =
      let u = get_or first (v * 64 + r) 0 in
      let t = get_or next u 0 in
      let y = Deferred v in
      let o = record_head v r lv lr ne in
      let inside : u < length hs = omega (arith, w.long, o.0) in
      let C : ℕ → ℕ → ℕ → Type 0 = λ x s m. Chained n (set hs u y) (set next u d) m (same (Record x s)) in
      record {
        long = length-set hs u y ∙ w.long;
        wide = length-set next u d ∙ w.wide;
        heads = length-set first (v * 64 + r) t ∙ w.heads;
        named = named_set hs u y inside lv w.named;
        records = λ x s lx ls. elim (cases_eq (x * 64 + s) (v * 64 + r)) [
          | inl e ↦
              let ex : x ≡ v = omega arith in
              let es : s ≡ r = omega arith in
              let head : get_or (set first (v * 64 + r) t) (x * 64 + s) 0 ≡ t = ap (λ (j : ℕ). get_or (set first (v * 64 + r) t) j 0) e ∙ get_or-set_same first (v * 64 + r) t 0 (omega (arith, w.heads)) in
              let it : C v r t = popped n hs next (same (Record v r)) u y inside d (w.records v r lv lr) ne refl in
              let P : ℕ → Type 0 = λ k. C k s (get_or (set first (v * 64 + r) t) (x * 64 + s) 0) in
              let Q : ℕ → Type 0 = λ k. C v k (get_or (set first (v * 64 + r) t) (x * 64 + s) 0) in
              let R : ℕ → Type 0 = λ k. C v r k in
              subst P (sym ex) (subst Q (sym es) (subst R (sym head) it))
          | inr dif ↦
              let P : ℕ → Type 0 = λ k. C x s k in
              subst P (sym (get_or-set_other first (v * 64 + r) (x * 64 + s) t 0 dif))
              (beside n hs next (same (Record x s)) u y inside _ d (w.records x s lx ls) (ap (same (Record x s)) o.1 ∙ same_other x s v r dif) refl)
        ];
        deferred = pushed n hs next is_deferred u y inside d w.deferred o.0 (omega (arith, w.wide, o.0)) (ap is_deferred o.1) refl;
      }

  -- the unit at the head of the deferred is nobody's
  pub to_nobody : (d ≡ n → ⊥) → Linked n (set hs d Nobody) next first (get_or next d 0)
  to_nobody ne =
      let o = head_own n hs next is_deferred d w.deferred ne in
      let inside : d < length hs = omega (arith, w.long, o.0) in
      let t = get_or next d 0 in
      let back : set next d t ≡ next = set-get_or next d 0 in
      let P : List ℕ → Type 0 = λ ls. Chained n (set hs d Nobody) ls t is_deferred in
      record {
        long = length-set hs d Nobody ∙ w.long;
        wide = w.wide;
        heads = w.heads;
        named = named_set hs d Nobody inside tt w.named;
        records = λ x s lx ls.
            let Q : List ℕ → Type 0 = λ l. Chained n (set hs d Nobody) l (get_or first (x * 64 + s) 0) (same (Record x s)) in
            subst Q back (beside n hs next (same (Record x s)) d Nobody inside _ t (w.records x s lx ls) (deferred_other x s (get_or hs d Nobody) o.1) refl);
        deferred = subst P back (popped n hs next is_deferred d Nobody inside t w.deferred ne refl);
      }
