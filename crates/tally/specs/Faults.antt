-- Every refusal of the ledger in numbers, and the answer that a result means.
use Rattle.std.specs.Prelude.{ℕ, Ok, Err, Result}
use Rattle.orders.specs.declared.answer.Answer.{Answer}
use Rattle.orders.specs.declared.answer.Answer.TheVariants.{Done, Refused, Told}
use Rattle.orders.specs.declared.answer.Figures.{Figures}
use Rattle.orders.specs.declared.answer.Refusal.{Refusal}
use Rattle.orders.specs.declared.answer.Layer.TheVariants.{Transactions}
use Rattle.rules.specs.Book.{state_number}
use Rattle.tree.specs.Faults.{refusal_of as tree_refusal_of}
use Rattle.tally.specs.declared.fault.LedgerFault.{LedgerFault}
use Rattle.tally.specs.declared.fault.LedgerFault.TheVariants.{NoSuchTransaction, WrongState, BadCount, NoneLeft, NoSuchRecord, SizeTooLarge, StillAssigned, InTree}

abbrev pub of_transactions : ℕ → ℕ → ℕ → Refusal
of_transactions number item amount = record { number = number; layer = Transactions; item = item; amount = amount }

-- Number, item and amount of each fault; a refusal of the tree is the tree's own.
abbrev pub refusal_of : LedgerFault → Refusal
refusal_of (NoSuchTransaction t) = of_transactions 5 t 0
refusal_of (WrongState t s) = of_transactions 6 t (state_number s)
refusal_of (BadCount t held) = of_transactions 7 t held
refusal_of (NoneLeft t) = of_transactions 8 t 0
refusal_of (NoSuchRecord t r n) = of_transactions 9 r n
refusal_of (SizeTooLarge t s) = of_transactions 10 s 16
refusal_of (StillAssigned t n) = of_transactions 11 t n
refusal_of (InTree f t) = tree_refusal_of f

abbrev pub answer_of : Result ℕ LedgerFault → Answer
answer_of (Ok v) = Done v
answer_of (Err f) = Refused (refusal_of f)

abbrev pub told_of : Result Figures LedgerFault → Answer
told_of (Ok figures) = Told figures
told_of (Err f) = Refused (refusal_of f)
