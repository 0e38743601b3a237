-- The loop keeps `Walking`, and each exit reads its answer off it.
use Rattle.std.proofs.Common.{sym, ◌∙◌}
use Rattle.tree.proofs.Walking.{walk-short, walk_on, walk-done}
use Rattle.tree.proofs.Tree.climb.Goals as goal

pub returns-then-short-gt0 : goal.returns-then-short-gt0
returns-then-short-gt0 c =
    walk-short _ _ c.args.self.now.rooted _ _ c.up.invariant c.node-node.result c.node-node.ensures.row c.node-node.ensures.charge _
    c.shortfall-short.ensures c.if-short-gt0.true

pub up-preserved : goal.up-preserved
up-preserved c =
    walk_on _ _ c.args.self.now.rooted _ _ c.up.invariant c.node-node.result c.node-node.ensures.row c.node-node.ensures.charge _
    c.shortfall-short.ensures c.if-short-gt0.false _ (sym c.in-Some.is ∙ c.onward.ensures)

pub returns-in-None : goal.returns-in-None
returns-in-None c =
    walk-done _ _ c.args.self.now.rooted _ _ c.up.invariant c.node-node.result c.node-node.ensures.row c.node-node.ensures.charge _
    c.shortfall-short.ensures c.if-short-gt0.false (sym c.in-None.is ∙ c.onward.ensures)
