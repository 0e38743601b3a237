-- What goes wrong with a script, in numbers and as an answer.
use Rattle.std.specs.Prelude.{◌≡◌, ℕ, min, Some, None, Ok, Err, Option, Result}
use Rattle.orders.specs.declared.answer.Answer.{Answer}
use Rattle.orders.specs.declared.answer.Answer.TheVariants.{Refused, Stopped}
use Rattle.reader.specs.Decode.{number_and_place}
use Rattle.tally.specs.Faults.{refusal_of}
use Rattle.ledger.specs.declared.reply.Reply.{Reply}
use Rattle.ledger.specs.Replies.{replied}
use Rattle.runner.specs.declared.fault.ScriptFault.{ScriptFault}
use Rattle.runner.specs.declared.fault.ScriptFault.TheVariants.{TooLong, Unreadable, NoRoom, Refused as refused_order}

abbrev pub place_or : Option ℕ → ℕ
place_or (Some p) = p
place_or None = 0

-- the number of each fault, and the place of the order's first byte
abbrev pub fault_ground : ScriptFault → ℕ × ℕ
fault_ground TooLong = (1, 0)
fault_ground (Unreadable f) = number_and_place f
fault_ground (NoRoom p) = (4, p)
fault_ground (refused_order f p) = ((refusal_of f).number, place_or p)

-- a place in two bytes; no script is so long that it does not fit
abbrev pub placed : ℕ → ℕ
placed p = min p 65535

-- the answer read off a fault: an order's refusal, or the end of the run
abbrev pub fault_answer : ScriptFault → Answer
fault_answer TooLong = Stopped 1 0
fault_answer (Unreadable f) = Stopped (number_and_place f).0 (placed (number_and_place f).1)
fault_answer (NoRoom p) = Stopped 4 (placed p)
fault_answer (refused_order f p) = Refused (refusal_of f)

-- the answer that the result of an order means
abbrev pub answer_at : Result Reply ScriptFault → Answer
answer_at (Ok r) = replied r
answer_at (Err f) = fault_answer f

-- the place that a refused order has, if it is filled in
abbrev pub place_in : ScriptFault → Option ℕ
place_in TooLong = None
place_in (Unreadable f) = None
place_in (NoRoom p) = None
place_in (refused_order f p) = p

abbrev pub AtPlace : Option ℕ → Result Reply ScriptFault → Type 0
AtPlace p (Ok r) = Unit {0}
AtPlace p (Err f) = place_in f ≡ p

-- a refused order with its place
abbrev pub refused_at : ScriptFault → ℕ → ScriptFault
refused_at TooLong p = TooLong
refused_at (Unreadable f) p = Unreadable f
refused_at (NoRoom q) p = NoRoom q
refused_at (refused_order f q) p = refused_order f (Some p)
