use Rattle.std.proofs.Common.{◌∙◌, arith, w32, SFits, rules}
use Rattle.std.proofs.lemmas.Int.{to_z-of_z}
use Rattle.tree.proofs.Granted.{raise_fits}
use Rattle.tree.proofs.Tree.judge_rise.Goals as goal

pub judge-requires : goal.judge-requires
judge-requires c =
    let fit : SFits w32 c.from.result = search rules in
    record {
      inside = c.requires;
      fits = raise_fits c.args.self.now c.args.d c.args.units c.requires _ (to_z-of_z w32 c.from.result fit ∙ c.from.ensures) (omega arith);
    }
