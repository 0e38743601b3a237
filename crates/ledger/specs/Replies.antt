-- The answer that a result means.
use Rattle.std.specs.Prelude.{Ok, Err, Result}
use Rattle.orders.specs.declared.answer.Answer.{Answer}
use Rattle.orders.specs.declared.answer.Answer.TheVariants.{Refused, Done as an_answer, Told as figures_told}
use Rattle.tally.specs.declared.fault.LedgerFault.{LedgerFault}
use Rattle.tally.specs.Faults.{refusal_of}
use Rattle.ledger.specs.declared.reply.Reply.{Reply}
use Rattle.ledger.specs.declared.reply.Reply.TheVariants.{Done, Told}

abbrev pub answer_of : Result Reply LedgerFault → Answer
answer_of (Ok (Done v)) = an_answer v
answer_of (Ok (Told f)) = figures_told f
answer_of (Err f) = Refused (refusal_of f)

-- The answer that a reply means.
abbrev pub replied : Reply → Answer
replied (Done v) = an_answer v
replied (Told f) = figures_told f
