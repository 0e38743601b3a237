use Rattle.charges.proofs.Charge.{charge_equation}
use Rattle.charges.proofs.theorems.charge_equation.Goals as goal

pub returns : goal.returns
returns c = charge_equation
