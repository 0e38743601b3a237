use Rattle.std.proofs.Common.{sym}
use Rattle.tally.proofs.Transacts.{frees_sound}
use Rattle.tally.proofs.Tally.hold_frees.Goals as goal

pub put-requires-clause-sound : goal.put-requires-clause-sound
put-requires-clause-sound c = frees_sound c.args.self.now c.args.t c.args.count c.in_ok-change.change (sym c.in_ok-change.ensures)
