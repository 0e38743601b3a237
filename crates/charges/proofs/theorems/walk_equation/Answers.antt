use Rattle.charges.proofs.Walks.{walk_equation}
use Rattle.charges.proofs.theorems.walk_equation.Goals as goal

pub returns : goal.returns
returns c = walk_equation
