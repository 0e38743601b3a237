use Rattle.std.proofs.Common.{◌≡◌, [], ◌∷◌, sym, subst, rules}
use Rattle.tree.proofs.Settling.{no_node}
use Rattle.tree.proofs.Ghosts.{Ghosts, fresh-ghosts}
use Rattle.tree.proofs.Tree.make.Goals as goal

pub invariant_of-result : goal.invariant_of-result
invariant_of-result c =
    let root : c.push.new.self.items ≡ no_node ∷ [] = search rules in
    subst (Ghosts c.args.room) (sym root) (fresh-ghosts c.args.room (search rules))
