-- Every answer of the rules is lawful: assign and reserve by charges computed anew, writes complete, reservations are not blamed.
use Rattle.std.proofs.Common.{◌≡◌, ℕ, ◌-◌, ◌<◌, ◌≤◌, false, cond, not, ◌&&◌, eqb, ltb, leb, ◌⊎◌, List, length, pos, Some, None, Option, sym, refl, ap, ◌∙◌, subst, inl, inr, arith}
use Rattle.std.proofs.lemmas.Bool.{cond-true, cond-false, lt-ltb, le-ltb, le-leb, ne_eqb, eq-eqb, and_from, and_left, and_right, not_from_true, cases_lt}
use Rattle.orders.specs.declared.answer.Answer.{Answer}
use Rattle.orders.specs.declared.answer.Answer.TheVariants.{Done, Refused, Told, Stopped}
use Rattle.orders.specs.Meaning.{Meaning, assign, reserve, write}
use Rattle.charges.specs.declared.Row.{Row}
use Rattle.charges.specs.Amounts.{weight_of, reweighed}
use Rattle.charges.specs.Tree.{path, OnPath, unspent, raised, with_reservation}
use Rattle.charges.specs.Walk.{walk}
use Rattle.charges.specs.Laws.{Judged}
use Rattle.charges.proofs.Walks.{rise_law, reserve-law}
use Rattle.charges.proofs.Rises.{shelter}
use Rattle.rules.specs.declared.state.Transaction.TheVariants.{Held, Assigned}
use Rattle.rules.specs.Figures.{Figures, Sane, room}
use Rattle.rules.specs.Book.{Book, dataset, transaction, made, records, estimate, rows, charge}
use Rattle.rules.specs.Answers.{refused, refused_by_tree, unless_short, is_settable, to_reserve, to_assign, to_write, answer}
use Rattle.rules.specs.Law.{Exact, LawfulEntry}
use Rattle.rules.specs.Theorems.{Fits}
use Rattle.rules.specs.Invariant.{Shaped, ShapedTransaction}
use Rattle.rules.proofs.Rows.{rows-length, rows_at, rows-rooted, rows-reserved}
use Rattle.rules.proofs.Proper.{proper}

-- the parts of a refusal
abbrev number_of : Answer → ℕ
number_of (Done v) = 0
number_of (Refused f) = f.number
number_of (Told f) = 0
number_of (Stopped n p) = 0

abbrev item_of : Answer → ℕ
item_of (Done v) = 0
item_of (Refused f) = f.item
item_of (Told f) = 0
item_of (Stopped n p) = 0

abbrev amount_of : Answer → ℕ
amount_of (Done v) = 0
amount_of (Refused f) = f.amount
amount_of (Told f) = 0
amount_of (Stopped n p) = 0

-- an answer that goes by a walk is exact where the walk judges rightly
exact : (limit : ℕ) (rs : List Row) (ds : List ℕ) (value : ℕ) (o : Option (ℕ × ℕ)) → Judged limit rs ds o → Exact limit rs ds value (unless_short o (Done value))
exact limit rs ds value o judged = record {
  granted = (λ e. judged.none.0 (is_none o e), λ within. ap (λ (x : Option (ℕ × ℕ)). unless_short x (Done value)) (judged.none.1 within));
  refused = λ d s. (
    λ e. (judged.some d s).0 (is_some o d s e),
    λ n. ap (λ (x : Option (ℕ × ℕ)). unless_short x (Done value)) ((judged.some d s).1 n),
  );
  either = either o;
} where
  is_none : (o : Option (ℕ × ℕ)) → unless_short o (Done value) ≡ Done value → o ≡ None
  is_none None e = refl
  is_none (Some x) e = let z : ◌≡◌ {A = ℕ} 0 1 = cc in absurd (omega arith)

  is_some : (o : Option (ℕ × ℕ)) (d s : ℕ) → unless_short o (Done value) ≡ refused_by_tree 17 d s → o ≡ Some (d, s)
  is_some None d s e = let z : ◌≡◌ {A = ℕ} 0 1 = cc in absurd (omega arith)
  is_some (Some (x, y)) d s e = let same-d : x ≡ d = ap item_of e in let same_s : y ≡ s = ap amount_of e in cc

  either : (o : Option (ℕ × ℕ)) → (unless_short o (Done value) ≡ Done value) ⊎ ((d : ℕ) × (s : ℕ) × (unless_short o (Done value) ≡ refused_by_tree 17 d s))
  either None = inl refl
  either (Some x) = inr (x.0, x.1, refl)

module _ (F : Figures) (b : Book) where
  -- an order on a transaction that there is
  at-transaction : (t : ℕ) (a : Answer) → t < 32 → cond (ltb t 32) a (refused 5 t 0) ≡ a
  at-transaction t a l = cond-true (ltb t 32) a (refused 5 t 0) (lt-ltb t 32 l)

  assigned : (t v w f : ℕ) → t < 32 → transaction b t ≡ Held v w f →
      answer F b (assign t) ≡ unless_short (walk (room F) (rows F b) v (pos (estimate F w))) (Done (estimate F w))
  assigned t v w f l held = at-transaction t (to_assign F b t (transaction b t)) l ∙ ap (to_assign F b t) held

  reserved : (d u : ℕ) → 0 < d → d < made b → (((dataset b d).quota ≡ 0) ⊎ (u ≤ (dataset b d).quota)) →
      answer F b (reserve d u)
      ≡ unless_short (walk (room F) (rows F b) (dataset b d).parent (reweighed (charge F b d) (dataset b d).reservation u)) (Done (weight_of (charge F b d) u))
  reserved d u gt l in_quota =
      let q = (dataset b d).quota in
      let fits : (not (eqb q 0) && ltb q u) ≡ false =
      elim in_quota [
        | inl none ↦ and_left (not (eqb q 0)) (ltb q u) (not_from_true (eqb q 0) (eq-eqb q 0 none))
        | inr le ↦ and_right (not (eqb q 0)) (ltb q u) (le-ltb q u le)
      ] in
      cond-true (is_settable b d) (to_reserve F b d u) (refused_by_tree 12 d 0) (and_from (ltb 0 d) (ltb d (made b)) (lt-ltb 0 d gt) (lt-ltb d (made b) l))
      ∙ cond-false (not (eqb q 0) && ltb q u) (refused_by_tree 16 d (u - q)) _ fits

  written : (t r s v w f : ℕ) → t < 32 → transaction b t ≡ Assigned v w f → 0 < w → r < records b v → s ≤ 16 → answer F b (write t r s) ≡ Done (F.cost s)
  written t r s v w f l state some in-volume small =
      at-transaction t (to_write F b t r s (transaction b t)) l ∙ ap (to_write F b t r s) state
      ∙ cond-false (eqb w 0) (refused 8 t 0) _ (ne_eqb w 0 (omega arith))
      ∙ cond-true (ltb r (records b v)) _ (refused 9 r (records b v)) (lt-ltb r (records b v) in-volume)
      ∙ cond-true (leb s 16) (Done (F.cost s)) (refused 10 s 16) (le-leb s 16 small)

  -- where there is no such transaction, number 5 refuses
  no_transaction : (t e s : ℕ) → 32 ≤ t → answer F b (assign t) ≡ refused_by_tree 17 e s → ⊥
  no_transaction t e s past is =
      let five = cond-false (ltb t 32) (to_assign F b t (transaction b t)) (refused 5 t 0) (le-ltb t 32 past) in
      let z : ◌≡◌ {A = ℕ} 5 17 = ap number_of (sym five ∙ is) in
      omega arith

  module _ (sane : Sane F) (shaped : Shaped F b) where
    on_volume : (t v w f : ℕ) → transaction b t ≡ Held v w f → v < length (rows F b)
    on_volume t v w f held =
        let x : ShapedTransaction b (Held v w f) = subst (ShapedTransaction b) held (shaped.transactions t) in
        let on = x.on_volume (λ i. let z : ◌≡◌ {A = ℕ} 0 1 = cc in omega arith) in
        omega (arith, rows-length F b, on.0)

    assign-exact : (t v w f : ℕ) → t < 32 → transaction b t ≡ Held v w f →
        Exact (room F) (raised (rows F b) v (estimate F w)) (path (rows F b) v) (estimate F w) (answer F b (assign t))
    assign-exact t v w f l held =
        subst (λ (a : Answer). Exact (room F) (raised (rows F b) v (estimate F w)) (path (rows F b) v) (estimate F w) a) (sym (assigned t v w f l held))
        (exact (room F) (raised (rows F b) v (estimate F w)) (path (rows F b) v) (estimate F w) _
        (rise_law (room F) (rows F b) v (estimate F w) (rows-rooted F b shaped) shaped.within (on_volume t v w f held)))

    reserve-exact : (d u : ℕ) → 0 < d → d < made b → (((dataset b d).quota ≡ 0) ⊎ (u ≤ (dataset b d).quota)) →
        Exact (room F) (with_reservation (rows F b) d u) (path (rows F b) (dataset b d).parent) (weight_of (charge F b d) u) (answer F b (reserve d u))
    reserve-exact d u gt l in_quota =
        let rs = rows F b in
        let edited = with_reservation rs d u in
        let judged : Judged (room F) edited (path rs (dataset b d).parent) (walk (room F) rs (dataset b d).parent (reweighed (charge F b d) (dataset b d).reservation u)) =
        subst (λ (r : Row). Judged (room F) edited (path rs r.parent) (walk (room F) rs r.parent (reweighed (charge F b d) r.reservation u)))
        (rows_at F b d l)
        (reserve-law (room F) rs d u (rows-rooted F b shaped) shaped.within (omega (arith, rows-length F b)) gt) in
        subst (λ (a : Answer). Exact (room F) edited (path rs (dataset b d).parent) (weight_of (charge F b d) u) a) (sym (reserved d u gt l in_quota))
        (exact (room F) edited (path rs (dataset b d).parent) (weight_of (charge F b d) u) _ judged)

    not_blamed : (t v w f d e s : ℕ) → transaction b t ≡ Held v w f → OnPath (rows F b) v d → estimate F w ≤ unspent (rows F b) d →
        OnPath (rows F b) d e → answer F b (assign t) ≡ refused_by_tree 17 e s → ⊥
    not_blamed t v w f d e s held on covers above is =
        elim (cases_lt t 32) [
          | inl l ↦
              let named = ((assign-exact t v w f l held).refused e s).0 is in
              let law = rise_law (room F) (rows F b) v (estimate F w) (rows-rooted F b shaped) shaped.within (on_volume t v w f held) in
              (shelter (room F) (rows F b) v (estimate F w) (rows-rooted F b shaped) shaped.within (rows-reserved F b shaped) (on_volume t v w f held)
              d on covers).not_named e s above ((law.some e s).1 named)
          | inr past ↦ no_transaction t e s past is
        ]

pub lawful-entry : (F : Figures) (b : Book) (m : Meaning) → Sane F → Fits m → Shaped F b → LawfulEntry F b m (answer F b m)
lawful-entry F b m sane fits shaped = record {
  answered = refl;
  assign_is_exact = λ t v w f e l held.
      subst (λ (x : Meaning). Exact (room F) (raised (rows F b) v (estimate F w)) (path (rows F b) v) (estimate F w) (answer F b x)) (sym e) (assign-exact F b sane shaped t v w f l held);
  reserve_is_exact = λ d u e gt l in_quota.
      subst (λ (x : Meaning). Exact (room F) (with_reservation (rows F b) d u) (path (rows F b) (dataset b d).parent) (weight_of (charge F b d) u) (answer F b x)) (sym e)
      (reserve-exact F b sane shaped d u gt l in_quota);
  writes_complete = λ t r s v w f e l state some in-volume small. ap (answer F b) e ∙ written F b t r s v w f l state some in-volume small;
  reservations_are_not_blamed = λ t v w f d x s e held on covers above is. not_blamed F b sane shaped t v w f d x s held on covers above (sym (ap (answer F b) e) ∙ is);
  by_its_own_table = proper F b sane shaped m fits;
}
