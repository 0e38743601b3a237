use Rattle.std.proofs.Common.{rules}
use Rattle.pooltests.proofs.Lenders.{first_bit}
use Rattle.pooltests.proofs.lender.mark_first.Goals as goal

pub returns : goal.returns
returns c = first_bit _ _ _ _ _ _ _ _ c.in_ok-check.ensures c.make-map.ensures.holds c.make-map.ensures.units c.take.ensures.holds c.take.ensures.took (search rules)
