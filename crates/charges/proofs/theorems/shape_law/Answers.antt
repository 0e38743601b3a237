use Rattle.charges.proofs.Edits.{shape-law}
use Rattle.charges.proofs.theorems.shape_law.Goals as goal

pub returns : goal.returns
returns c = shape-law
