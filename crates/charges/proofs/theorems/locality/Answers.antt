use Rattle.charges.proofs.Moved.{locality}
use Rattle.charges.proofs.theorems.locality.Goals as goal

pub returns : goal.returns
returns c = locality
