use Rattle.charges.specs.Tree.{path}
use Rattle.charges.specs.Keep.{spread}
use Rattle.tree.specs.Nodes.{rows_in, charges_in}
use Rattle.tree.proofs.Settling.{Coming}
use Rattle.tree.proofs.node.settle.Given as goal

abbrev pub invariant-up : goal.invariant-up
invariant-up l =
    Coming l.initial.nodes (spread (rows_in l.initial.nodes) (path (rows_in l.initial.nodes) l.fn.first.dataset) l.fn.first.change (charges_in l.initial.nodes))
    l.arrival l.nodes

abbrev pub decreases-up : goal.decreases-up
decreases-up l = l.arrival.dataset
