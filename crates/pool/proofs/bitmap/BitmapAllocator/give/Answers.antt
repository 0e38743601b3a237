use Rattle.std.proofs.Common.{◌<◌, sym, refl, arith}
use Rattle.pool.proofs.Turns.{out_below, bit_in, beside-turned}
use Rattle.pool.proofs.bitmap.BitmapAllocator.give.Goals as goal

pub turn-requires : goal.turn-requires
turn-requires c =
    let h : c.args.unit < c.args.self.now.size = out_below _ _ _ (sym c.if-not-is_out.ensures) in
    omega (arith, c.args.self.now.mapped.room)

pub returns : goal.returns
returns c =
    let t = rw c.from.ensures at c.turn.ensures in
    let b = bit_in _ _ _ _ _ _ c.args.self.now.mapped t c.min-self.ensures (sym c.if-not-is_out.ensures) in
    record { gave = b.1; kept = tt; holds = t; lent = beside-turned _ _ _ _ _ c.args.self.now.mapped.room.2 (out_below _ _ _ (sym c.if-not-is_out.ensures)) t; named = refl }

pub invariant_of-self-2 : goal.invariant_of-self-2
invariant_of-self-2 c =
    let t = rw c.from.ensures at c.turn.ensures in
    record { mapped = (bit_in _ _ _ _ _ _ c.args.self.now.mapped t c.min-self.ensures (sym c.if-not-is_out.ensures)).0 }
