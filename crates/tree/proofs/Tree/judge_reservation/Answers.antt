use Rattle.std.proofs.Common.{arith}
use Rattle.tree.proofs.Granted.{parent-inside, reserve-fits}
use Rattle.tree.proofs.Tree.judge_reservation.Goals as goal

pub judge-requires : goal.judge-requires
judge-requires c = rw c.reweighing.ensures (record {
  inside = parent-inside c.args.self.now c.args.d c.requires.inside c.requires.below;
  fits = reserve-fits c.args.self.now c.args.d c.args.units c.requires.inside c.requires.below (omega arith);
})
