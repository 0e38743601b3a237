use Rattle.std.proofs.Common.{◌≡◌, sym, subst, rules}
use Rattle.tree.specs.Parts.{room_of}
use Rattle.tree.proofs.Ghosts.{Ghosts, grown, grown-ghosts}
use Rattle.tree.proofs.Tree.push.Goals as goal

pub invariant_of-self : goal.invariant_of-self
invariant_of-self c =
    let is : c.push.new.self.items ≡ grown c.args.self.now.nodes.items c.args.parent c.args.kind = search rules in
    subst (Ghosts (room_of c.args.self.now)) (sym is) (grown-ghosts c.args.self.now c.args.parent c.args.kind c.requires.inside c.requires.vacant)
