use Rattle.std.proofs.Common.{sym, arith}
use Rattle.tally.proofs.Turns.{turning_starts, turning_on, turning-fits, turn_did}
use Rattle.tally.proofs.Tally.turn.Goals as goal

pub loop-d-init : goal.loop-d-init
loop-d-init c = turning_starts c.args.self.now

pub overflow_add-given : goal.overflow_add-given
overflow_add-given c =
    omega (
      arith,
      turning-fits c.args.self.now c.loop-d.self c.loop-d.d c.loop-d.given c.loop-d.invariant c.settle-given.new.self c.settle-given.result c.settle-given.ensures,
      c.args.self.now.sized,
    )

pub loop-d-preserved : goal.loop-d-preserved
loop-d-preserved c =
    turning_on c.args.self.now c.loop-d.self c.loop-d.d c.loop-d.given c.loop-d.invariant c.settle-given.new.self c.settle-given.result c.settle-given.ensures

pub returns : goal.returns
returns c =
    turn_did c.args.self.now c.loop-d.self c.loop-d.d c.loop-d.given (sym c.in_ok-none_assigned.ensures) c.loop-d.invariant c.loop-d-test.false
