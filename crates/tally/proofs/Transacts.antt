-- Orders on transactions that grant nothing.
use Rattle.std.proofs.Common.{◌≡◌, ℕ, ◌+◌, ◌*◌, ◌<◌, List, length, set, Some, Ok, Err, sym, refl, ap, ◌∙◌, arith}
use Rattle.orders.specs.declared.answer.Answer.TheVariants.{Done, Refused}
use Rattle.orders.specs.Meaning.{begin, hold_writes, hold_frees, abort}
use Rattle.rules.specs.declared.state.Contents.{Contents}
use Rattle.rules.specs.declared.state.Transaction.{Transaction}
use Rattle.rules.specs.declared.state.Transaction.TheVariants.{Idle, Created, Held}
use Rattle.rules.specs.Book.{transaction, volume_of, writes_of, frees_of, grant_on}
use Rattle.rules.specs.Answers.{answer}
use Rattle.rules.specs.Effects.{with_transaction}
use Rattle.rules.specs.Invariant.{Shaped}
use Rattle.rules.proofs.Rows.{rows_idle}
use Rattle.rules.proofs.Accepted.{begin_ok, hold_writes_ok, hold_frees_ok, abort_ok}
use Rattle.rules.proofs.Shapes.{shaped-begin, shaped_hold_writes, shaped_hold_frees, shaped-abort}
use Rattle.tree.specs.declared.Tree.{Tree}
use Rattle.tally.specs.declared.Tally.{Tally}
use Rattle.tally.specs.declared.fault.LedgerFault.{LedgerFault}
use Rattle.tally.specs.declared.step.Asked.TheVariants.{Begin, HoldWrites, HoldFrees, Abort}
use Rattle.tally.specs.declared.step.Change.{Change}
use Rattle.tally.specs.Faults.{refusal_of}
use Rattle.tally.specs.Joined.{book_in}
use Rattle.tally.specs.Parts.{book_of, figures_of, Did, Put}
use Rattle.tally.specs.Sound.{Sound}
use Rattle.tally.specs.Steps.{change_of, as_volume_of}
use Rattle.tally.proofs.Asks.{and_then, allowed, goes_on, on_begin, begin_steps, estimated, hold_writes_steps, hold_frees_steps, abort_steps, begun, held_writes, held_frees, aborted}
use Rattle.tally.proofs.Checks.{volume_check}
use Rattle.tally.proofs.Sounds.{sound, rows_are, shaped, still-sound, refused_did, done_did}

-- the book with a transaction set anew
pub put-book : (t t' : Tally) (x : ℕ) (y : Transaction) → Put t t' x y → book_of t' ≡ with_transaction (book_of t) x y
put-book t t' x y p =
    ap (λ (tree : Tree). book_in tree t'.contents t'.transactions) p.tree
    ∙ ap (λ (contents : List Contents). book_in t.tree contents t'.transactions) p.contents
    ∙ ap (book_in t.tree t.contents) p.transactions

-- a state without a grant in place of one without
pub put_idle : (t : Tally) (x : ℕ) (y y' : Transaction) → x < 32 → y ≡ y' →
    ((cost : ℕ → ℕ) (d : ℕ) → grant_on (figures_of cost t) d (transaction (book_of t) x) ≡ 0) →
    ((cost : ℕ → ℕ) (d : ℕ) → grant_on (figures_of cost t) d y' ≡ 0) →
    ((cost : ℕ → ℕ) → Shaped (figures_of cost t) (with_transaction (book_of t) x y')) →
    ∥ Sound t.size t.slop t.worst t.tree t.contents (set t.transactions x y) ∥₁
put_idle t x y y' l e before after shaped-then =
    still-sound t t.tree t.contents (set t.transactions x y) (λ cost. with_transaction (book_of t) x y') refl (sound t).contents_long
    (λ cost. ap (with_transaction (book_of t) x) e)
    (λ cost.
    let F = figures_of cost t in
    let lt : x < length t.transactions = omega (arith, (shaped t cost).transactions_long) in
    rows_are t cost ∙ sym (rows_idle F (book_of t) x lt y' (before cost) (after cost)))
    shaped-then

module _ (t : Tally) (x : ℕ) where
  module _ (v : ℕ) where
    module _ (c : Change) (e : change_of t.transactions x (Begin v) ≡ Ok c) where
      begin-checked : (cost : ℕ → ℕ) → answer (figures_of cost t) (book_of t) (begin x v) ≡ and_then (as_volume_of t.tree x v) (λ _. Done t.worst)
      begin-checked cost =
          begin_steps (figures_of cost t) (book_of t) x v ∙ goes_on t.transactions x (Begin v) c (on_begin (figures_of cost t) (book_of t) x v) e
          ∙ volume_check t.tree t.contents t.transactions (Some x) v (Done t.worst)

      pub begin_no_volume : (f : LedgerFault) → as_volume_of t.tree x v ≡ Err f → Did t t (begin x v) (Refused (refusal_of f))
      begin_no_volume f none = refused_did t t (begin x v) f (λ cost. begin-checked cost ∙ ap (λ r. and_then r (λ _. Done t.worst)) none) refl

      module _ (yes-volume : as_volume_of t.tree x v ≡ Ok tt) where
        pub begin-done : (cost : ℕ → ℕ) → answer (figures_of cost t) (book_of t) (begin x v) ≡ Done t.worst
        begin-done cost = begin-checked cost ∙ ap (λ r. and_then r (λ _. Done t.worst)) yes-volume

        pub begin-sound : ∥ Sound t.size t.slop t.worst t.tree t.contents (set t.transactions x c.after) ∥₁
        begin-sound =
            let a = allowed t.transactions x (Begin v) c e in
            put_idle t x c.after (Created v) a.listed (begun x v _ c.after a.after)
            (λ cost d. ap (grant_on (figures_of cost t) d) (begin_ok (figures_of cost t) (book_of t) t.worst x v (begin-done cost)).1)
            (λ cost d. refl)
            (λ cost. shaped-begin (figures_of cost t) (book_of t) (shaped t cost) x v t.worst (begin-done cost))

        pub begin_did : (t' : Tally) → Put t t' x c.after → Did t t' (begin x v) (Done t.worst)
        begin_did t' p =
            let a = allowed t.transactions x (Begin v) c e in
            done_did t t' (begin x v) t.worst begin-done
            (λ cost. put-book t t' x c.after p ∙ ap (with_transaction (book_of t) x) (begun x v _ c.after a.after)) p.same

  -- more writes held
  module _ (n : ℕ) (c : Change) (e : change_of t.transactions x (HoldWrites n) ≡ Ok c) where
    pub writes_done : (cost : ℕ → ℕ) → answer (figures_of cost t) (book_of t) (hold_writes x n) ≡ Done (writes_of c.after * t.worst)
    writes_done cost =
        hold_writes_steps (figures_of cost t) (book_of t) x n ∙ goes_on t.transactions x (HoldWrites n) c (estimated (figures_of cost t) (book_of t) x) e

    writes_state : c.after ≡ Held (volume_of (transaction (book_of t) x)) (writes_of (transaction (book_of t) x) + n) (frees_of (transaction (book_of t) x))
    writes_state = held_writes x n (transaction (book_of t) x) c.after (allowed t.transactions x (HoldWrites n) c e).after

    pub writes_sound : ∥ Sound t.size t.slop t.worst t.tree t.contents (set t.transactions x c.after) ∥₁
    writes_sound =
        put_idle t x c.after _ (allowed t.transactions x (HoldWrites n) c e).listed writes_state
        (λ cost. (hold_writes_ok (figures_of cost t) (book_of t) _ x n (writes_done cost)).4) (λ cost d. refl)
        (λ cost. shaped_hold_writes (figures_of cost t) (book_of t) (shaped t cost) x n _ (writes_done cost))

  -- more frees held
  module _ (n : ℕ) (c : Change) (e : change_of t.transactions x (HoldFrees n) ≡ Ok c) where
    pub frees_done : (cost : ℕ → ℕ) → answer (figures_of cost t) (book_of t) (hold_frees x n) ≡ Done (writes_of c.after * t.worst)
    frees_done cost =
        hold_frees_steps (figures_of cost t) (book_of t) x n ∙ goes_on t.transactions x (HoldFrees n) c (estimated (figures_of cost t) (book_of t) x) e

    frees_state : c.after ≡ Held (volume_of (transaction (book_of t) x)) (writes_of (transaction (book_of t) x)) (frees_of (transaction (book_of t) x) + n)
    frees_state = held_frees x n (transaction (book_of t) x) c.after (allowed t.transactions x (HoldFrees n) c e).after

    pub frees_sound : ∥ Sound t.size t.slop t.worst t.tree t.contents (set t.transactions x c.after) ∥₁
    frees_sound =
        put_idle t x c.after _ (allowed t.transactions x (HoldFrees n) c e).listed frees_state
        (λ cost. (hold_frees_ok (figures_of cost t) (book_of t) _ x n (frees_done cost)).4) (λ cost d. refl)
        (λ cost. shaped_hold_frees (figures_of cost t) (book_of t) (shaped t cost) x n _ (frees_done cost))

  -- a transaction dropped
  module _ (c : Change) (e : change_of t.transactions x Abort ≡ Ok c) where
    before-is : c.before ≡ transaction (book_of t) x
    before-is = (allowed t.transactions x Abort c e).before

    pub abort-done : (cost : ℕ → ℕ) → answer (figures_of cost t) (book_of t) (abort x) ≡ Done (writes_of c.before * t.worst)
    abort-done cost =
        abort_steps (figures_of cost t) (book_of t) x
        ∙ goes_on t.transactions x Abort c (λ y. estimated (figures_of cost t) (book_of t) x (transaction (book_of t) x)) e
        ∙ ap (estimated (figures_of cost t) (book_of t) x) (sym before-is)

    abort_state : c.after ≡ Idle
    abort_state = aborted x (transaction (book_of t) x) c.after (allowed t.transactions x Abort c e).after

    pub abort-sound : ∥ Sound t.size t.slop t.worst t.tree t.contents (set t.transactions x c.after) ∥₁
    abort-sound =
        put_idle t x c.after Idle (allowed t.transactions x Abort c e).listed abort_state
        (λ cost. (abort_ok (figures_of cost t) (book_of t) _ x (abort-done cost)).2) (λ cost d. refl)
        (λ cost. shaped-abort (figures_of cost t) (book_of t) (shaped t cost) x _ (abort-done cost))
