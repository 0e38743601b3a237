use Rattle.std.proofs.Common.{count_by}
use Rattle.rules.specs.Holders.{is_deferred}
use Rattle.marks.specs.Sound.{holders_of}
use Rattle.marks.proofs.Returns.{Returning}
use Rattle.marks.proofs.marks.Marks.give_back.Given as goal

abbrev pub invariant-loop-given : goal.invariant-loop-given
invariant-loop-given g l = Returning l.given l.initial.self l.self

abbrev pub decreases-loop-given : goal.decreases-loop-given
decreases-loop-given g l = count_by is_deferred (holders_of l.self)
