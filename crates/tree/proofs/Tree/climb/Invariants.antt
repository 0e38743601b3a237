use Rattle.charges.specs.Walk.{walk}
use Rattle.tree.specs.Parts.{room_of, rows_of}
use Rattle.tree.proofs.Walking.{Walking}
use Rattle.tree.proofs.Tree.climb.Given as goal

abbrev pub invariant-up : goal.invariant-up
invariant-up l = Walking (room_of l.self) (rows_of l.self) (walk (room_of l.self) (rows_of l.self) l.fn.first.dataset l.fn.first.change) l.arrival

abbrev pub decreases-up : goal.decreases-up
decreases-up l = l.arrival.dataset
