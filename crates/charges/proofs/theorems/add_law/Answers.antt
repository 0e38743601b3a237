use Rattle.charges.proofs.News.{add_law}
use Rattle.charges.proofs.theorems.add_law.Goals as goal

pub returns : goal.returns
returns c = add_law
