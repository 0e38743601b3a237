use Rattle.tally.proofs.Turns.{Turning}
use Rattle.tally.proofs.Tally.turn.Given as goal

abbrev pub invariant-loop-d : goal.invariant-loop-d
invariant-loop-d l = Turning l.initial.self l.self l.d l.given
