use Rattle.std.proofs.Common.{sym}
use Rattle.tally.proofs.Turns.{none_waits, first_waits}
use Rattle.tally.proofs.Tally.none_assigned.Goals as goal

pub returns-in-None : goal.returns-in-None
returns-in-None c = sym (none_waits c.args.self.now.transactions (sym c.in-None.ensures))

pub returns-in-Some : goal.returns-in-Some
returns-in-Some c = rw c.count_assigned.ensures (sym (first_waits c.args.self.now.transactions c.in-Some.lowest (sym c.in-Some.ensures)))
