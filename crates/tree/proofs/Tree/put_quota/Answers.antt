use Rattle.std.proofs.Common.{refl}
use Rattle.tree.proofs.Ghosts.{quota-ghosts, edited-rows, edited_kinds, nothing-moved, put_quota}
use Rattle.tree.proofs.Tree.put_quota.Goals as goal

pub invariant_of-self : goal.invariant_of-self
invariant_of-self c =
    quota-ghosts c.args.self.now c.args.d _ c.args.units _ c.deref_mut.ensures.value c.from.ensures c.requires.inside c.requires.below c.requires.enough

pub returns : goal.returns
returns c = let same = nothing-moved _ _ c.deref_mut.ensures.value in record {
  same_room = refl;
  rows_are = edited-rows c.args.self.now _ same c.args.d _ c.from.ensures (put_quota c.args.units);
  kinds_are = edited_kinds c.args.self.now _ same c.args.d _ c.from.ensures (put_quota c.args.units);
}
