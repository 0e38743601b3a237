use Rattle.std.proofs.Common.{ℕ, Some, set, sym, refl, ap, ◌∙◌}
use Rattle.tally.specs.Joined.{book_in}
use Rattle.tally.specs.Faults.{answer_of}
use Rattle.tally.proofs.Sounds.{unmoved, refused_as, done_did, refused_from}
use Rattle.tally.proofs.Grants.{refused_in, granted_in, assign-refused, assign-done, assign-book, assign-sound}
use Rattle.tally.proofs.Tally.assign.Goals as goal

pub returns-in_err-in_transaction : goal.returns-in_err-in_transaction
returns-in_err-in_transaction c =
    let r = refused_in (Some c.args.t) c.raise.result c.in_err-in_transaction.field-0.0 c.in_err-in_transaction.ensures in
    refused_from answer_of (λ f. refl) _ _ _ c.from_residual-in_err-in_transaction.result _ c.from_residual-in_err-in_transaction.ensures.1
    (refused_as _ _ _ _ _ r.is
    (assign-refused c.args.self.now c.args.t c.in_ok-change.change (sym c.in_ok-change.ensures)
    c.volume_of.result c.estimate-units.result c.volume_of.ensures c.estimate-units.ensures
    _ r.fault (sym c.raise.ensures.answer ∙ r.was) (unmoved c.args.self.now _ refl refl refl (rw r.was at c.raise.ensures.after) refl refl)))

pub invariant_of-self-2 : goal.invariant_of-self-2
invariant_of-self-2 c =
    let r = granted_in (Some c.args.t) c.raise.result c.in_ok-in_transaction.ensures in
    record {
      sized = c.args.self.now.sized;
      sound =
          rw c.from.ensures
          (assign-sound c.args.self.now c.args.t c.in_ok-change.change (sym c.in_ok-change.ensures)
          c.volume_of.result c.estimate-units.result c.volume_of.ensures c.estimate-units.ensures
          (sym c.raise.ensures.answer ∙ r) c.raise.new.self (rw r at c.raise.ensures.after));
    }

pub returns : goal.returns
returns c =
    let r = granted_in (Some c.args.t) c.raise.result c.in_ok-in_transaction.ensures in
    done_did c.args.self.now _ _ c.estimate-units.result
    (assign-done c.args.self.now c.args.t c.in_ok-change.change (sym c.in_ok-change.ensures)
    c.volume_of.result c.estimate-units.result c.volume_of.ensures c.estimate-units.ensures (sym c.raise.ensures.answer ∙ r))
    (λ cost.
    ap (λ (i : ℕ). book_in c.raise.new.self c.args.self.now.contents (set c.args.self.now.transactions i c.in_ok-change.change.after)) c.from.ensures
    ∙ assign-book c.args.self.now c.args.t c.in_ok-change.change (sym c.in_ok-change.ensures)
    c.volume_of.result c.estimate-units.result c.volume_of.ensures c.estimate-units.ensures
    (sym c.raise.ensures.answer ∙ r) c.raise.new.self (rw r at c.raise.ensures.after) cost)
    (record { size = refl; slop = refl; worst = refl })
