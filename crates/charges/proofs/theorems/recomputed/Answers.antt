use Rattle.charges.proofs.Walks.{recomputed}
use Rattle.charges.proofs.theorems.recomputed.Goals as goal

pub returns : goal.returns
returns c = recomputed
