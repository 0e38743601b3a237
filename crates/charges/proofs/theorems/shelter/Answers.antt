use Rattle.charges.proofs.Rises.{shelter}
use Rattle.charges.proofs.theorems.shelter.Goals as goal

pub returns : goal.returns
returns c = shelter
