use Rattle.charges.proofs.Walks.{rise_law}
use Rattle.charges.proofs.theorems.rise_law.Goals as goal

pub returns : goal.returns
returns c = rise_law
