use Rattle.std.proofs.Common.{sym}
use Rattle.tally.proofs.Transacts.{abort-sound}
use Rattle.tally.proofs.Tally.abort.Goals as goal

pub put-requires-clause-sound : goal.put-requires-clause-sound
put-requires-clause-sound c = abort-sound c.args.self.now c.args.t c.in_ok-change.change (sym c.in_ok-change.ensures)
