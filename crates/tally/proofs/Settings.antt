-- Quotas and reservations set anew.
use Rattle.std.proofs.Common.{◌≡◌, ℕ, ◌-◌, ◌^◌, ◌<◌, Bool, true, false, cond, not, ◌&&◌, eqb, ltb, List, length, Some, None, Ok, Err, Option, Result, sym, refl, ap, ◌∙◌, subst, inl, inr, arith}
use Rattle.std.proofs.lemmas.Bool.{ltb-true, lt-ltb, le-ltb, eq-eqb, ne_eqb, cases_eq}
use Rattle.orders.specs.declared.answer.Answer.{Answer}
use Rattle.orders.specs.declared.answer.Answer.TheVariants.{Done, Refused}
use Rattle.orders.specs.Meaning.{quota, reserve}
use Rattle.charges.specs.declared.Row.{Row}
use Rattle.charges.specs.Amounts.{weight_of, reweighed}
use Rattle.charges.specs.Tree.{row, charge as charge_in, weight as weight_in, with_quota as with_quota_in, with_reservation as with_reservation_in}
use Rattle.charges.specs.Walk.{walk}
use Rattle.rules.specs.declared.state.Kind.{Kind}
use Rattle.rules.specs.Figures.{room}
use Rattle.rules.specs.Book.{Dataset, dataset, made}
use Rattle.rules.specs.Answers.{refused_by_tree, unless_short, is_settable, to_quota, to_reserve, answer}
use Rattle.rules.specs.Effects.{next}
use Rattle.rules.proofs.Rows.{rows-quota, rows-reserve}
use Rattle.rules.proofs.Accepted.{quota_ok, reserve_ok}
use Rattle.rules.proofs.Shapes.{shaped-quota, shaped-reserve}
use Rattle.tree.specs.declared.Tree.{Tree}
use Rattle.tree.specs.declared.fault.TreeFault.{TreeFault}
use Rattle.tree.specs.declared.fault.TreeFault.TheVariants.{Missing, IsRoot, QuotaTooSmall, ReservationTooLarge}
use Rattle.tree.specs.Parts.{rows_of, kinds_of, room_of, Becomes, After}
use Rattle.tree.specs.Answers.{if_granted, quota_answer, reservation_answer}
use Rattle.tally.specs.declared.Tally.{Tally}
use Rattle.tally.specs.declared.fault.LedgerFault.TheVariants.{InTree}
use Rattle.tally.specs.Faults.{refusal_of}
use Rattle.tally.specs.Joined.{datasets_in, book_in}
use Rattle.tally.specs.Parts.{book_of, figures_of, Did}
use Rattle.tally.specs.Sound.{Sound}
use Rattle.tally.specs.Steps.{lifted}
use Rattle.tally.proofs.Asks.{and_then}
use Rattle.tally.proofs.Joins.{datasets-quota, datasets-reservation}
use Rattle.tally.proofs.Sounds.{sound, made-is, dataset-is, rows_are, shaped, still-sound, tree_done, tree_refused}

below_root : (d : ℕ) → ltb 0 d ≡ not (eqb d 0)
below_root d = elim (cases_eq d 0) [
  | inl e ↦ le-ltb 0 d (omega arith) ∙ ap not (sym (eq-eqb d 0 e))
  | inr ne ↦ lt-ltb 0 d (omega arith) ∙ ap not (sym (ne_eqb d 0 ne))
]

-- what is answered of a dataset that can be set
settable_by : (e q : Bool) (d : ℕ) (a a' : Answer) (then : Result ℕ TreeFault) → (q ≡ true → a ≡ a') → a' ≡ and_then (lifted None then) Done →
    cond (not e && q) a (refused_by_tree 12 d 0) ≡ and_then (lifted None (cond q (cond e (Err (IsRoot d)) then) (Err (Missing d)))) Done
settable_by true true d a a' then f g = refl
settable_by true false d a a' then f g = refl
settable_by false true d a a' then f g = f refl ∙ g
settable_by false false d a a' then f g = refl

module _ (t : Tally) (d : ℕ) where
  settable : (a a' : Answer) (then : Result ℕ TreeFault) → (d < length (rows_of t.tree) → a ≡ a') → a' ≡ and_then (lifted None then) Done →
      cond (is_settable (book_of t) d) a (refused_by_tree 12 d 0)
      ≡ and_then (lifted None (cond (ltb d (length (rows_of t.tree))) (cond (eqb d 0) (Err (IsRoot d)) then) (Err (Missing d)))) Done
  settable a a' then f g =
      ap (λ (q : Bool). cond (q && ltb d (made (book_of t))) a (refused_by_tree 12 d 0)) (below_root d)
      ∙ ap (λ (n : ℕ). cond (not (eqb d 0) && ltb d n) a (refused_by_tree 12 d 0)) (made-is t.tree t.contents t.transactions)
      ∙ settable_by (eqb d 0) (ltb d (length (rows_of t.tree))) d a a' then (λ l. f (ltb-true d (length (rows_of t.tree)) l)) g

quota_by : (z w : Bool) (d s k : ℕ) →
    cond (not z && w) (refused_by_tree 15 d s) (Done k) ≡ and_then (lifted None (cond z (Ok k) (cond w (Err (QuotaTooSmall d s)) (Ok k)))) Done
quota_by true w d s k = refl
quota_by false true d s k = refl
quota_by false false d s k = refl

module _ (t : Tally) (d u : ℕ) where
  quota-checked : (cost : ℕ → ℕ) → answer (figures_of cost t) (book_of t) (quota d u) ≡ and_then (lifted None (quota_answer (rows_of t.tree) d u)) Done
  quota-checked cost =
      let rs = rows_of t.tree in
      settable t d (to_quota (figures_of cost t) (book_of t) d u) (cond (not (eqb u 0) && ltb u (weight_in rs d)) (refused_by_tree 15 d (weight_in rs d - u)) (Done (charge_in rs d)))
      (cond (eqb u 0) (Ok (charge_in rs d)) (cond (ltb u (weight_in rs d)) (Err (QuotaTooSmall d (weight_in rs d - u))) (Ok (charge_in rs d))))
      (λ l. ap (λ (xs : List Row). cond (not (eqb u 0) && ltb u (weight_in xs d)) (refused_by_tree 15 d (weight_in xs d - u)) (Done (charge_in xs d))) (sym (rows_are t cost)))
      (quota_by (eqb u 0) (ltb u (weight_in rs d)) d (weight_in rs d - u) (charge_in rs d))

  pub quota-refused : (t' : Tally) (f : TreeFault) → quota_answer (rows_of t.tree) d u ≡ Err f → t' ≡ t → Did t t' (quota d u) (Refused (refusal_of (InTree f None)))
  quota-refused = tree_refused t (quota d u) (quota_answer (rows_of t.tree) d u) quota-checked

  module _ (k : ℕ) (e : quota_answer (rows_of t.tree) d u ≡ Ok k) where
    pub quota-done : (cost : ℕ → ℕ) → answer (figures_of cost t) (book_of t) (quota d u) ≡ Done k
    quota-done = tree_done t (quota d u) (quota_answer (rows_of t.tree) d u) quota-checked k e

    quota-made : d < made (book_of t)
    quota-made = (quota_ok (figures_of (λ s. 0) t) (book_of t) k d u (quota-done (λ s. 0))).1

    module _ (tree' : Tree) (be : Becomes t.tree tree' (with_quota_in (rows_of t.tree) d u) (kinds_of t.tree)) where
      pub quota-book : (cost : ℕ → ℕ) → book_in tree' t.contents t.transactions ≡ next (figures_of cost t) (book_of t) (quota d u)
      quota-book cost =
          let lt : d < length (rows_of t.tree) = omega (arith, quota-made, made-is t.tree t.contents t.transactions) in
          ap (λ (ds : List Dataset). record { datasets = ds; transactions = t.transactions })
          (ap (λ (rs : List Row). datasets_in rs (kinds_of tree') t.contents) be.rows_are
          ∙ ap (λ (ks : List Kind). datasets_in (with_quota_in (rows_of t.tree) d u) ks t.contents) be.kinds_are
          ∙ datasets-quota (rows_of t.tree) (kinds_of t.tree) t.contents d lt u)

      pub quota-sound : u < 2 ^ 16 → ∥ Sound t.size t.slop t.worst tree' t.contents t.transactions ∥₁
      quota-sound small =
          still-sound t tree' t.contents t.transactions (λ cost. next (figures_of cost t) (book_of t) (quota d u)) be.same_room (sound t).contents_long
          quota-book
          (λ cost.
          be.rows_are ∙ ap (λ (rs : List Row). with_quota_in rs d u) (rows_are t cost) ∙ sym (rows-quota (figures_of cost t) (book_of t) d u quota-made))
          (λ cost. shaped-quota (figures_of cost t) (book_of t) (shaped t cost) d u k small (quota-done cost))

  -- whatever the tree answers
  pub quota-still : (tree' : Tree) (r : Result ℕ TreeFault) → r ≡ quota_answer (rows_of t.tree) d u → After t.tree tree' (with_quota_in (rows_of t.tree) d u) (kinds_of t.tree) r → u < 2 ^ 16 →
      ∥ Sound t.size t.slop t.worst tree' t.contents t.transactions ∥₁
  quota-still tree' (Ok k) e be small = quota-sound k (sym e) tree' be small
  quota-still tree' (Err f) e same small = subst (λ (x : Tree). ∥ Sound t.size t.slop t.worst x t.contents t.transactions ∥₁) (sym same) t.sound

reserve_by : (z w : Bool) (d s k : ℕ) (o : Option (ℕ × ℕ)) →
    cond (not z && w) (refused_by_tree 16 d s) (unless_short o (Done k))
    ≡ and_then (lifted None (cond z (if_granted o (Ok k)) (cond w (Err (ReservationTooLarge d s)) (if_granted o (Ok k))))) Done
reserve_by true w d s k None = refl
reserve_by true w d s k (Some x) = refl
reserve_by false true d s k o = refl
reserve_by false false d s k None = refl
reserve_by false false d s k (Some x) = refl

-- what a reserve is answered, from the room and the rows
abbrev reserved : ℕ → List Row → ℕ → ℕ → ℕ → ℕ → ℕ → Answer
reserved n rs d u parent limit had =
    cond (not (eqb limit 0) && ltb limit u) (refused_by_tree 16 d (u - limit))
    (unless_short (walk n rs parent (reweighed (charge_in rs d) had u)) (Done (weight_of (charge_in rs d) u)))

module _ (t : Tally) (d u : ℕ) where
  reserve-checked : (cost : ℕ → ℕ) →
      answer (figures_of cost t) (book_of t) (reserve d u) ≡ and_then (lifted None (reservation_answer (room_of t.tree) (rows_of t.tree) d u)) Done
  reserve-checked cost =
      let F = figures_of cost t in
      let b = book_of t in
      let n = room_of t.tree in
      let rs = rows_of t.tree in
      let r = row rs d in
      let o = walk n rs r.parent (reweighed (charge_in rs d) r.reservation u) in
      let k = weight_of (charge_in rs d) u in
      settable t d (to_reserve F b d u) (reserved n rs d u r.parent r.quota r.reservation)
      (cond (eqb r.quota 0) (if_granted o (Ok k)) (cond (ltb r.quota u) (Err (ReservationTooLarge d (u - r.quota))) (if_granted o (Ok k))))
      (λ l.
      let at = dataset-is t.tree t.contents t.transactions d l in
      ap (λ (xs : List Row). reserved (room F) xs d u (dataset b d).parent (dataset b d).quota (dataset b d).reservation) (sym (rows_are t cost))
      ∙ ap (λ (m : ℕ). reserved m rs d u (dataset b d).parent (dataset b d).quota (dataset b d).reservation) (sym (sound t).room_is)
      ∙ ap (λ (x : Dataset). reserved n rs d u x.parent x.quota x.reservation) at)
      (reserve_by (eqb r.quota 0) (ltb r.quota u) d (u - r.quota) k o)

  pub reserve-refused : (t' : Tally) (f : TreeFault) → reservation_answer (room_of t.tree) (rows_of t.tree) d u ≡ Err f → t' ≡ t →
      Did t t' (reserve d u) (Refused (refusal_of (InTree f None)))
  reserve-refused = tree_refused t (reserve d u) (reservation_answer (room_of t.tree) (rows_of t.tree) d u) reserve-checked

  module _ (k : ℕ) (e : reservation_answer (room_of t.tree) (rows_of t.tree) d u ≡ Ok k) where
    pub reserve-done : (cost : ℕ → ℕ) → answer (figures_of cost t) (book_of t) (reserve d u) ≡ Done k
    reserve-done = tree_done t (reserve d u) (reservation_answer (room_of t.tree) (rows_of t.tree) d u) reserve-checked k e

    reserve-made : d < made (book_of t)
    reserve-made = (reserve_ok (figures_of (λ s. 0) t) (book_of t) k d u (reserve-done (λ s. 0))).1

    module _ (tree' : Tree) (be : Becomes t.tree tree' (with_reservation_in (rows_of t.tree) d u) (kinds_of t.tree)) where
      pub reserve-book : (cost : ℕ → ℕ) → book_in tree' t.contents t.transactions ≡ next (figures_of cost t) (book_of t) (reserve d u)
      reserve-book cost =
          let lt : d < length (rows_of t.tree) = omega (arith, reserve-made, made-is t.tree t.contents t.transactions) in
          ap (λ (ds : List Dataset). record { datasets = ds; transactions = t.transactions })
          (ap (λ (rs : List Row). datasets_in rs (kinds_of tree') t.contents) be.rows_are
          ∙ ap (λ (ks : List Kind). datasets_in (with_reservation_in (rows_of t.tree) d u) ks t.contents) be.kinds_are
          ∙ datasets-reservation (rows_of t.tree) (kinds_of t.tree) t.contents d lt u)

      pub reserve-sound : u < 2 ^ 16 → ∥ Sound t.size t.slop t.worst tree' t.contents t.transactions ∥₁
      reserve-sound small =
          still-sound t tree' t.contents t.transactions (λ cost. next (figures_of cost t) (book_of t) (reserve d u)) be.same_room (sound t).contents_long
          reserve-book
          (λ cost.
          be.rows_are ∙ ap (λ (rs : List Row). with_reservation_in rs d u) (rows_are t cost)
          ∙ sym (rows-reserve (figures_of cost t) (book_of t) d u reserve-made))
          (λ cost. shaped-reserve (figures_of cost t) (book_of t) (shaped t cost) d u k small (reserve-done cost))

  -- whatever the tree answers
  pub reserve-still : (tree' : Tree) (r : Result ℕ TreeFault) → r ≡ reservation_answer (room_of t.tree) (rows_of t.tree) d u → After t.tree tree' (with_reservation_in (rows_of t.tree) d u) (kinds_of t.tree) r → u < 2 ^ 16 →
      ∥ Sound t.size t.slop t.worst tree' t.contents t.transactions ∥₁
  reserve-still tree' (Ok k) e be small = reserve-sound k (sym e) tree' be small
  reserve-still tree' (Err f) e same small = subst (λ (x : Tree). ∥ Sound t.size t.slop t.worst x t.contents t.transactions ∥₁) (sym same) t.sound
