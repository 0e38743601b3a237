use Rattle.rules.proofs.Journals.{writes_find_units}
use Rattle.rules.proofs.theorems.writes_find_units.Goals as goal

pub returns : goal.returns
returns c = writes_find_units
