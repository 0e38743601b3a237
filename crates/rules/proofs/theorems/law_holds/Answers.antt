use Rattle.rules.proofs.Journals.{law_holds}
use Rattle.rules.proofs.theorems.law_holds.Goals as goal

pub returns : goal.returns
returns c = law_holds
