use Rattle.marks.proofs.Fresh.{all_in}
use Rattle.marktests.proofs.tests.bitmap.Goals as goal

pub round-requires : goal.round-requires
round-requires g c = all_in _ 9 c.make.ensures.units
