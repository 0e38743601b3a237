use Rattle.charges.proofs.Spreads.{spread_equation}
use Rattle.charges.proofs.theorems.spread_equation.Goals as goal

pub returns : goal.returns
returns c = spread_equation
