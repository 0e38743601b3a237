use Rattle.charges.proofs.Walks.{reserve-law}
use Rattle.charges.proofs.theorems.reserve_law.Goals as goal

pub returns : goal.returns
returns c = reserve-law
