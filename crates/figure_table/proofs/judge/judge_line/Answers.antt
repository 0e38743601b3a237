-- Bytes that are no text are no figure's.
use Rattle.std.proofs.Common.{rules}
use Rattle.figure_table.proofs.Texts.{utf8_figure}
use Rattle.figure_table.proofs.judge.judge_line.Goals as goal

pub returns-in_default : goal.returns-in_default
returns-in_default c = (search rules, λ f small e. c.in_default.ensures.cases.0 (rw e (utf8_figure f small)))
