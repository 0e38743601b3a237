use Rattle.ledger.proofs.Serving.{Sofar}
use Rattle.ledger.proofs.serve.obey_all.Given as goal

abbrev pub invariant-loop-i : goal.invariant-loop-i
invariant-loop-i g l = Sofar l.initial.ledger l.ledger l.orders l.initial.answers l.answers l.i
