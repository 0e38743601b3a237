use Rattle.charges.proofs.Spreads.{keep_law}
use Rattle.charges.proofs.theorems.keep_law.Goals as goal

pub returns : goal.returns
returns c = keep_law
