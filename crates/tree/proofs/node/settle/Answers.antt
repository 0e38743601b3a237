-- The loop keeps `Coming`, and ends with it at the root.
use Rattle.std.proofs.Common.{◌^◌, ◌<◌, sym, refl, ◌∙◌, arith}
use Rattle.tree.proofs.Settling.{come_fits, come_less, come_on, come_done}
use Rattle.tree.proofs.node.settle.Goals as goal

pub overflow_cast-nodes : goal.overflow_cast-nodes
overflow_cast-nodes c =
    let small : c.charge.result < 2 ^ 16 =
    come_fits _ _ _ _ c.requires.rooted c.up.invariant _ c.from-at.ensures c.requires.fits c.charge.result c.charge.ensures in
    omega arith

pub up-preserved : goal.up-preserved
up-preserved c =
    come_on _ _ _ _ c.requires.rooted c.up.invariant _ c.from-at.ensures c.charge.result c.charge.ensures _ (sym c.in-Some.is ∙ c.onward.ensures)

pub up-smaller : goal.up-smaller
up-smaller c = come_less _ _ _ _ c.requires.rooted c.up.invariant _ c.from-at.ensures _ (sym c.in-Some.is ∙ c.onward.ensures)

pub returns-in-None : goal.returns-in-None
returns-in-None c =
    come_done _ _ _ _ c.requires.rooted c.up.invariant _ c.from-at.ensures c.charge.result c.charge.ensures (sym c.in-None.is ∙ c.onward.ensures)
    c.args.first refl
