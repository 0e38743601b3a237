use Rattle.charges.proofs.Falls.{fall_law}
use Rattle.charges.proofs.theorems.fall_law.Goals as goal

pub returns : goal.returns
returns c = fall_law
