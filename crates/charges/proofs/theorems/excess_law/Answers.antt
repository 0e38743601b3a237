use Rattle.charges.proofs.Rises.{excess-law}
use Rattle.charges.proofs.theorems.excess_law.Goals as goal

pub returns : goal.returns
returns c = excess-law
