use Rattle.std.proofs.Common.{refl}
use Rattle.charges.specs.Tree.{load, charge, climb}
use Rattle.charges.specs.Walk.{walk_along}
use Rattle.rules.specs.Book.{fresh, rows}
use Rattle.rules.specs.Effects.{emptied_from}
use Rattle.rules.proofs.worked.worked_journals.Goals as goal

pub returns : goal.returns
unfolding load charge climb walk_along fresh rows emptied_from
returns c = refl
