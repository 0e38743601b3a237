use Rattle.std.proofs.Common.{ℕ, Some, sym, ap, ◌∙◌, subst, refl}
use Rattle.orders.specs.declared.answer.Answer.TheVariants.{Done}
use Rattle.orders.specs.Meaning.{begin}
use Rattle.tally.specs.Parts.{Did}
use Rattle.tally.specs.Steps.{lifted}
use Rattle.tally.specs.Faults.{answer_of}
use Rattle.tally.proofs.Transacts.{begin_no_volume, begin-sound, begin_did}
use Rattle.tally.proofs.Sounds.{refused_from}
use Rattle.tally.proofs.Tally.begin.Goals as goal

pub returns-in_err-in_transaction : goal.returns-in_err-in_transaction
returns-in_err-in_transaction c =
    refused_from answer_of (λ f. refl) _ _ _ c.from_residual-in_err-in_transaction.result _ c.from_residual-in_err-in_transaction.ensures.1
    (begin_no_volume c.args.self.now c.args.t c.args.volume c.in_ok-change.change (sym c.in_ok-change.ensures)
    c.in_err-in_transaction.field-0.0 (ap (lifted (Some c.args.t)) (sym c.volume.ensures) ∙ sym c.in_err-in_transaction.ensures))

pub put-requires-clause-sound : goal.put-requires-clause-sound
put-requires-clause-sound c =
    begin-sound c.args.self.now c.args.t c.args.volume c.in_ok-change.change (sym c.in_ok-change.ensures)
    (ap (lifted (Some c.args.t)) (sym c.volume.ensures) ∙ sym c.in_ok-in_transaction.ensures)

pub returns : goal.returns
returns c =
    let e = sym c.in_ok-change.ensures in
    subst (λ (k : ℕ). Did c.args.self.now c.put.new.self (begin c.args.t c.args.volume) (Done k)) (sym c.put.ensures.same.worst)
    (begin_did c.args.self.now c.args.t c.args.volume c.in_ok-change.change e
    (ap (lifted (Some c.args.t)) (sym c.volume.ensures) ∙ sym c.in_ok-in_transaction.ensures)
    c.put.new.self c.put.ensures)
