-- The rows and the whole are rounded up.
use Rattle.std.proofs.Common.{rules, arith}
use Rattle.costs.proofs.Rows.{units_are}
use Rattle.costs.proofs.parity.Parity.units.Goals as goal

pub returns : goal.returns
returns c =
    let round = c.next_multiple_of.ensures in
    let units = units_are c.from-p.result c.from.result c.args.size (omega arith) c.div_ceil-rows.ensures c.parity_sectors.ensures.value round.lower_bound round.upper_bound round.multiple in
    search rules
