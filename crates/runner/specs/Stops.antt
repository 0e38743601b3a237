-- How a run ends, in numbers and as an answer.
use Rattle.std.specs.Prelude.{ℕ, Result, Ok, Err}
use Rattle.orders.specs.declared.answer.Answer.{Answer}
use Rattle.orders.specs.declared.answer.Answer.TheVariants.{Stopped}
use Rattle.runner.specs.declared.fault.ScriptFault.{ScriptFault}
use Rattle.runner.specs.Faults.{fault_ground, fault_answer, placed}

-- the number that stopped the run, and the place
abbrev pub stop_ground : Result ℕ ScriptFault → ℕ × ℕ
stop_ground (Ok p) = (0, p)
stop_ground (Err f) = fault_ground f

abbrev pub stop_answer : Result ℕ ScriptFault → Answer
stop_answer (Ok p) = Stopped 0 (placed p)
stop_answer (Err f) = fault_answer f
