-- Grants: assigned, and given back by a commit.
use Rattle.std.proofs.Common.{◌≡◌, ℕ, ◌+◌, ◌-◌, ◌*◌, ◌<◌, ltb, ◌≢◌, List, length, set, pos, Some, None, Ok, Err, Option, Result, sym, refl, ap, ◌∙◌, arith}
use Rattle.std.proofs.lemmas.Bool.{lt-ltb, cond-true}
use Rattle.orders.specs.declared.answer.Answer.TheVariants.{Done, Refused}
use Rattle.orders.specs.Meaning.{assign, commit}
use Rattle.charges.specs.declared.Row.{Row}
use Rattle.charges.specs.Tree.{row, raised, with_own}
use Rattle.charges.specs.Walk.{walk}
use Rattle.rules.specs.declared.state.Kind.{Kind}
use Rattle.rules.specs.declared.state.Contents.{Contents}
use Rattle.rules.specs.declared.state.Transaction.{Transaction}
use Rattle.rules.specs.declared.state.Transaction.TheVariants.{Idle, Held, Assigned}
use Rattle.rules.specs.Figures.{room}
use Rattle.rules.specs.Book.{Dataset, transaction, made, volume_of, writes_of, frees_of, estimate, rows}
use Rattle.rules.specs.Answers.{unless_short, answer}
use Rattle.rules.specs.Effects.{with_transaction, next}
use Rattle.rules.proofs.Rows.{row-own, rows-assign, rows-commit}
use Rattle.rules.proofs.Shapes.{shaped-assign, shaped-commit}
use Rattle.tree.specs.declared.Tree.{Tree}
use Rattle.tree.specs.declared.fault.TreeFault.{TreeFault}
use Rattle.tree.specs.declared.fault.TreeFault.TheVariants.{Missing}
use Rattle.tree.specs.Parts.{rows_of, kinds_of, room_of, Becomes}
use Rattle.tree.specs.Answers.{if_granted, as_dataset, raise_answer}
use Rattle.tally.specs.declared.Tally.{Tally}
use Rattle.tally.specs.declared.fault.LedgerFault.{LedgerFault}
use Rattle.tally.specs.declared.fault.LedgerFault.TheVariants.{InTree}
use Rattle.tally.specs.declared.step.Asked.TheVariants.{Assign, Commit}
use Rattle.tally.specs.declared.step.Change.{Change}
use Rattle.tally.specs.Faults.{refusal_of}
use Rattle.tally.specs.Joined.{datasets_in, book_in}
use Rattle.tally.specs.Parts.{book_of, figures_of, Did}
use Rattle.tally.specs.Sound.{Sound}
use Rattle.tally.specs.Steps.{lifted, change_of}
use Rattle.tally.proofs.Asks.{and_then, ok_not_err, allowed, goes_on, granted, assign_steps, estimated, commit_steps, assigned, committed}
use Rattle.tally.proofs.Joins.{datasets-own}
use Rattle.tally.proofs.Sounds.{sound, made-is, rows_are, shaped, still-sound, refused_did}

-- other own units in the tree leave the book
pub own-book : (tree tree' : Tree) (v x : ℕ) → v < length (rows_of tree) → Becomes tree tree' (with_own (rows_of tree) v x) (kinds_of tree) →
    (contents : List Contents) (transactions : List Transaction) → book_in tree' contents transactions ≡ book_in tree contents transactions
own-book tree tree' v x l be contents transactions =
    ap (λ (ds : List Dataset). record { datasets = ds; transactions = transactions })
    (ap (λ (rs : List Row). datasets_in rs (kinds_of tree') contents) be.rows_are
    ∙ ap (λ (ks : List Kind). datasets_in (with_own (rows_of tree) v x) ks contents) be.kinds_are
    ∙ datasets-own (rows_of tree) (kinds_of tree) contents v l x)

-- what the tree answered, where a refusal of it has the transaction
pub record Refusing (t : Option ℕ) (r : Result (Unit {0}) TreeFault) (f : LedgerFault) : Type 0 where
  pub fault : TreeFault
  pub was : r ≡ Err fault
  pub is : f ≡ InTree fault t

pub refused_in : (t : Option ℕ) (r : Result (Unit {0}) TreeFault) (f : LedgerFault) → Err f ≡ lifted t r → Refusing t r f
refused_in t (Ok x) f e = ok_not_err x f (sym e)
refused_in t (Err g) f e = record { fault = g; was = refl; is = same f (InTree g t) e }
  where
    same : (f g : LedgerFault) → ◌≡◌ {A = Result (Unit {0}) LedgerFault} (Err f) (Err g) → f ≡ g
    same f g e = cc

pub granted_in : (t : Option ℕ) (r : Result (Unit {0}) TreeFault) → Ok tt ≡ lifted t r → r ≡ Ok tt
granted_in t (Ok tt) e = refl
granted_in t (Err g) e = ok_not_err {X = Unit {0}} tt (InTree g t) e

walked : (t : Option ℕ) (o : Option (ℕ × ℕ)) (u : ℕ) → unless_short o (Done u) ≡ and_then (lifted t (if_granted {X = Unit {0}} o (Ok tt))) (λ _. Done u)
walked t None u = refl
walked t (Some short) u = refl

-- a transaction that has a volume has one that is made
module _ (t : Tally) (x : ℕ) (busy : transaction (book_of t) x ≢ Idle) where
  pub volume-made : volume_of (transaction (book_of t) x) < made (book_of t)
  volume-made = (((shaped t (λ s. 0)).transactions x).on_volume busy).0

  pub volume-listed : volume_of (transaction (book_of t) x) < length (rows_of t.tree)
  volume-listed = omega (arith, volume-made, made-is t.tree t.contents t.transactions)

held_busy : (x : Transaction) (v w f : ℕ) → x ≡ Held v w f → x ≢ Idle
held_busy x v w f e i = cc

pub assigned_busy : (x : Transaction) (v w f : ℕ) → x ≡ Assigned v w f → x ≢ Idle
assigned_busy x v w f e i = cc

module _ (t : Tally) (x : ℕ) (c : Change) (e : change_of t.transactions x Assign ≡ Ok c) where
  assign_state : (transaction (book_of t) x ≡ Held (volume_of (transaction (book_of t) x)) (writes_of (transaction (book_of t) x)) (frees_of (transaction (book_of t) x)))
      × (c.after ≡ Assigned (volume_of (transaction (book_of t) x)) (writes_of (transaction (book_of t) x)) (frees_of (transaction (book_of t) x)))
  assign_state = assigned x (transaction (book_of t) x) c.after (allowed t.transactions x Assign c e).after

  same-volume : volume_of c.after ≡ volume_of (transaction (book_of t) x)
  same-volume = ap volume_of assign_state.1

  same_writes : writes_of c.after ≡ writes_of (transaction (book_of t) x)
  same_writes = ap writes_of assign_state.1

  assign-listed : volume_of c.after < length (rows_of t.tree)
  assign-listed = omega (arith, same-volume, volume-listed t x (held_busy _ _ _ _ assign_state.0))

  -- the tree's answer is the one that the rules want
  module _ (d u : ℕ) (is-volume : d ≡ volume_of c.after) (is-estimate : u ≡ writes_of c.after * t.worst) where
    assign-checked : (cost : ℕ → ℕ) →
        answer (figures_of cost t) (book_of t) (assign x) ≡ and_then (lifted (Some x) (raise_answer (room_of t.tree) (rows_of t.tree) d u)) (λ _. Done u)
    assign-checked cost =
        let F = figures_of cost t in
        let b = book_of t in
        let y = c.after in
        let o = walk (room_of t.tree) (rows_of t.tree) d (pos u) in
        let lt : d < length (rows_of t.tree) = omega (arith, assign-listed) in
        assign_steps F b x ∙ goes_on t.transactions x Assign c (granted F b x) e
        ∙ ap (λ (n : ℕ). unless_short (walk (room F) (rows F b) (volume_of y) (pos n)) (Done n)) (sym is-estimate)
        ∙ ap (λ (v : ℕ). unless_short (walk (room F) (rows F b) v (pos u)) (Done u)) (sym is-volume)
        ∙ ap (λ (rs : List Row). unless_short (walk (room F) rs d (pos u)) (Done u)) (sym (rows_are t cost))
        ∙ ap (λ (n : ℕ). unless_short (walk n (rows_of t.tree) d (pos u)) (Done u)) (sym (sound t).room_is)
        ∙ walked (Some x) o u
        ∙ ap (λ (r : Result (Unit {0}) TreeFault). and_then (lifted (Some x) r) (λ _. Done u))
        (sym (cond-true (ltb d (length (rows_of t.tree))) (if_granted o (Ok tt)) (Err (Missing d)) (lt-ltb d (length (rows_of t.tree)) lt)))

    pub assign-refused : (t' : Tally) (f : TreeFault) → raise_answer (room_of t.tree) (rows_of t.tree) d u ≡ Err f → t' ≡ t →
        Did t t' (assign x) (Refused (refusal_of (InTree f (Some x))))
    assign-refused t' f short same =
        refused_did t t' (assign x) (InTree f (Some x))
        (λ cost. assign-checked cost ∙ ap (λ (r : Result (Unit {0}) TreeFault). and_then (lifted (Some x) r) (λ _. Done u)) short) same

    module _ (granted-is : raise_answer (room_of t.tree) (rows_of t.tree) d u ≡ Ok tt) where
      pub assign-done : (cost : ℕ → ℕ) → answer (figures_of cost t) (book_of t) (assign x) ≡ Done u
      assign-done cost = assign-checked cost ∙ ap (λ (r : Result (Unit {0}) TreeFault). and_then (lifted (Some x) r) (λ _. Done u)) granted-is

      module _ (tree' : Tree) (be : Becomes t.tree tree' (raised (rows_of t.tree) d u) (kinds_of t.tree)) where
        pub assign-book : (cost : ℕ → ℕ) →
            book_in tree' t.contents (set t.transactions x c.after) ≡ next (figures_of cost t) (book_of t) (assign x)
        assign-book cost =
            own-book t.tree tree' d ((row (rows_of t.tree) d).own + u) (omega (arith, assign-listed)) be t.contents (set t.transactions x c.after)
            ∙ ap (with_transaction (book_of t) x) assign_state.1

        assign-rows : (cost : ℕ → ℕ) → rows_of tree' ≡ rows (figures_of cost t) (next (figures_of cost t) (book_of t) (assign x))
        assign-rows cost =
            let F = figures_of cost t in
            let b = book_of t in
            let z = transaction b x in
            let lt : x < length b.transactions = omega (arith, (allowed t.transactions x Assign c e).listed, (shaped t cost).transactions_long) in
            let same-d : d ≡ volume_of z = is-volume ∙ same-volume in
            let same-u : u ≡ estimate F (writes_of z) = is-estimate ∙ ap (λ (w : ℕ). w * t.worst) same_writes in
            be.rows_are ∙ ap (λ (rs : List Row). raised rs d u) (rows_are t cost) ∙ ap (λ (v : ℕ). raised (rows F b) v u) same-d
            ∙ ap (raised (rows F b) (volume_of z)) same-u
            ∙ sym (rows-assign F b x lt (volume_of z) (writes_of z) (frees_of z) (volume-made t x (held_busy _ _ _ _ assign_state.0)) assign_state.0)

        pub assign-sound : ∥ Sound t.size t.slop t.worst tree' t.contents (set t.transactions x c.after) ∥₁
        assign-sound =
            still-sound t tree' t.contents (set t.transactions x c.after) (λ cost. next (figures_of cost t) (book_of t) (assign x))
            be.same_room (sound t).contents_long assign-book assign-rows
            (λ cost. shaped-assign (figures_of cost t) (book_of t) (shaped t cost) x u (assign-done cost))

module _ (t : Tally) (x : ℕ) (c : Change) (e : change_of t.transactions x Commit ≡ Ok c) where
  commit_state : (transaction (book_of t) x ≡ Assigned (volume_of (transaction (book_of t) x)) (writes_of (transaction (book_of t) x)) (frees_of (transaction (book_of t) x)))
      × (c.after ≡ Idle)
  commit_state = committed x (transaction (book_of t) x) c.after (allowed t.transactions x Commit c e).after

  was : c.before ≡ transaction (book_of t) x
  was = (allowed t.transactions x Commit c e).before

  pub commit-listed : volume_of c.before < length (rows_of t.tree)
  commit-listed = omega (arith, ap volume_of was, volume-listed t x (assigned_busy _ _ _ _ commit_state.0))

  module _ (d u : ℕ) (is-volume : d ≡ volume_of c.before) (is-estimate : u ≡ writes_of c.before * t.worst) where
    -- there is such a dataset
    pub commit_lowers : as_dataset (rows_of t.tree) d ≡ Ok tt
    commit_lowers =
        let lt : d < length (rows_of t.tree) = omega (arith, commit-listed) in
        cond-true (ltb d (length (rows_of t.tree))) (Ok tt) (Err (Missing d)) (lt-ltb d (length (rows_of t.tree)) lt)

    pub commit-done : (cost : ℕ → ℕ) → answer (figures_of cost t) (book_of t) (commit x) ≡ Done u
    commit-done cost =
        commit_steps (figures_of cost t) (book_of t) x
        ∙ goes_on t.transactions x Commit c (λ y. estimated (figures_of cost t) (book_of t) x (transaction (book_of t) x)) e
        ∙ ap (estimated (figures_of cost t) (book_of t) x) (sym was) ∙ ap Done (sym is-estimate)

    module _ (tree' : Tree) (be : Becomes t.tree tree' (with_own (rows_of t.tree) d ((row (rows_of t.tree) d).own - u)) (kinds_of t.tree)) where
      pub commit-book : (cost : ℕ → ℕ) →
          book_in tree' t.contents (set t.transactions x c.after) ≡ next (figures_of cost t) (book_of t) (commit x)
      commit-book cost =
          own-book t.tree tree' d ((row (rows_of t.tree) d).own - u) (omega (arith, commit-listed)) be t.contents (set t.transactions x c.after)
          ∙ ap (with_transaction (book_of t) x) commit_state.1

      commit-rows : (cost : ℕ → ℕ) → rows_of tree' ≡ rows (figures_of cost t) (next (figures_of cost t) (book_of t) (commit x))
      commit-rows cost =
          let F = figures_of cost t in
          let b = book_of t in
          let z = transaction b x in
          let lt : x < length b.transactions = omega (arith, (allowed t.transactions x Commit c e).listed, (shaped t cost).transactions_long) in
          let there = volume-made t x (assigned_busy _ _ _ _ commit_state.0) in
          let same-d : d ≡ volume_of z = is-volume ∙ ap volume_of was in
          let same-u : u ≡ estimate F (writes_of z) = is-estimate ∙ ap (λ (y : Transaction). writes_of y * t.worst) was in
          be.rows_are ∙ ap (λ (rs : List Row). with_own rs d ((row rs d).own - u)) (rows_are t cost)
          ∙ ap (λ (v : ℕ). with_own (rows F b) v ((row (rows F b) v).own - u)) same-d
          ∙ ap (λ (n : ℕ). with_own (rows F b) (volume_of z) ((row (rows F b) (volume_of z)).own - n)) same-u
          ∙ ap (λ (n : ℕ). with_own (rows F b) (volume_of z) (n - estimate F (writes_of z))) (row-own F b (volume_of z) there)
          ∙ sym (rows-commit F b x lt (volume_of z) (writes_of z) (frees_of z) there commit_state.0)

      pub commit-sound : ∥ Sound t.size t.slop t.worst tree' t.contents (set t.transactions x c.after) ∥₁
      commit-sound =
          still-sound t tree' t.contents (set t.transactions x c.after) (λ cost. next (figures_of cost t) (book_of t) (commit x))
          be.same_room (sound t).contents_long commit-book commit-rows
          (λ cost. shaped-commit (figures_of cost t) (book_of t) (shaped t cost) x u (commit-done cost))
