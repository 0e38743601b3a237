use Rattle.charges.proofs.Falls.{quota-law}
use Rattle.charges.proofs.theorems.quota_law.Goals as goal

pub returns : goal.returns
returns c = quota-law
