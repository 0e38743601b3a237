use Rattle.std.proofs.Common.{arith}
use Rattle.pool.proofs.Turns.{none_clear, first_clear, lowest_in}
use Rattle.pool.proofs.bitmap.Bitmap.first_in.Goals as goal

pub returns-in_err-i : goal.returns-in_err-i
returns-in_err-i c =
    let w = c.args.self.now.mapped in
    rw c.from_residual.ensures (none_clear _ _ _ c.from-from.result c.div_ceil-end.result w c.from-from.ensures (omega (arith, w.room)) (omega arith) c.in_err-i.ensures)

pub returns : goal.returns
returns c =
    let w = c.args.self.now.mapped in
    lowest_in _ _ _ _ c.then_some.ensures (first_clear _ _ _ c.from-from.result c.div_ceil-end.result c.in_ok-i.field-0 c.trailing_ones.result w c.from-from.ensures (omega (arith, w.room)) (omega arith) c.trailing_ones.ensures c.in_ok-i.ensures)
