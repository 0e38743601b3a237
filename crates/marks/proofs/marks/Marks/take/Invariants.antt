use Rattle.marks.proofs.Takes.{Taking}
use Rattle.marks.proofs.marks.Marks.take.Given as goal

abbrev pub invariant-loop : goal.invariant-loop
invariant-loop g l = Taking l.place.volume l.place.number l.counter l.initial.self l.self
