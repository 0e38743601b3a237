use Rattle.charges.proofs.Paths.{path_equation}
use Rattle.charges.proofs.theorems.path_equation.Goals as goal

pub returns : goal.returns
returns c = path_equation
