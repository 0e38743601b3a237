use Rattle.std.proofs.Common.{◌≡◌, Result, Ok, Err, MatchResult, IsErrAnd, sym, ap, ◌∙◌, subst, rules}
use Rattle.std.proofs.lemmas.Result.{err_from_is_err_and}
use Rattle.orders.specs.declared.answer.Answer.{Answer}
use Rattle.orders.specs.declared.answer.Answer.TheVariants.{Refused}
use Rattle.orders.specs.Meaning.{meaning}
use Rattle.tally.specs.Faults.{refusal_of}
use Rattle.tally.specs.declared.fault.LedgerFault.{LedgerFault}
use Rattle.ledger.specs.Replies.{answer_of}
use Rattle.ledger.specs.declared.reply.Reply.{Reply}
use Rattle.ledger.specs.declared.reply.Reply.TheVariants.{Done, Told}
use Rattle.runner.specs.Faults.{answer_at, fault_answer}
use Rattle.runner.specs.Steps.{One}
use Rattle.runner.specs.declared.fault.ScriptFault.{ScriptFault}
use Rattle.runner.proofs.Ones.{one}
use Rattle.runner.proofs.run.obey_at.Goals as goal

-- a refusal that becomes one of the script keeps its answer
same_answer : (Q : LedgerFault → ScriptFault → Type 0) → ((e : LedgerFault) (f : ScriptFault) → Q e f → fault_answer f ≡ Refused (refusal_of e)) →
    (r : Result Reply LedgerFault) (s : Result Reply ScriptFault) → MatchResult r (λ x. s ≡ Ok x) (λ e. IsErrAnd s (Q e)) → answer_of r ≡ answer_at s
same_answer Q q (Ok (Done v)) s h = ap answer_at (sym h)
same_answer Q q (Ok (Told f)) s h = ap answer_at (sym h)
same_answer Q q (Err e) s h =
    let p = err_from_is_err_and s h in
    sym (q e p.0 p.2) ∙ ap answer_at (sym p.1)

pub returns-clause-one : goal.returns-clause-one
returns-clause-one g c =
    let o = c.obey.ensures in
    subst (λ (a : Answer). One c.args.ledger.now c.obey.new.self (meaning c.args.order) a)
    (same_answer _ (λ e f q. search rules) _ _ c.map_err.ensures.cases)
    (one c.args.ledger.now c.obey.new.self (meaning c.args.order) _ o.law o.answered o.booked o.figured o.untouched o.lent)
