use Rattle.charges.proofs.Bounds.{bound_law}
use Rattle.charges.proofs.theorems.bound_law.Goals as goal

pub returns : goal.returns
returns c = bound_law
