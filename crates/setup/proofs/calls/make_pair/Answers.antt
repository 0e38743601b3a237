use Rattle.std.proofs.Common.{◌∙◌}
use Rattle.setup.proofs.Runs as runs
use Rattle.setup.proofs.calls.make_pair.Goals as goal

pub make-requires : goal.make-requires
make-requires c = runs.both_few _ _ c.args.first c.args.second c.make-bits.ensures.units c.make-chain.ensures.units c.requires.few

pub returns : goal.returns
returns c = c.make.ensures.units ∙ runs.both_in _ _ c.args.first c.args.second c.make-bits.ensures.units c.make-chain.ensures.units
