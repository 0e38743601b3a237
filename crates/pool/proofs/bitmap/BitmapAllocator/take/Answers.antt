use Rattle.std.proofs.Common.{refl}
use Rattle.pool.proofs.Turns.{marks-all, bit_out, beside-turned}
use Rattle.pool.proofs.bitmap.BitmapAllocator.take.Goals as goal

pub returns : goal.returns
returns c =
    let found = c.in-Some.ensures in
    let t = rw c.from.ensures at c.turn.ensures in
    let b = bit_out _ _ _ _ _ c.args.self.now.mapped t found.0 found.1 found.2 in
    record { took = b.1; kept = tt; holds = (t, found.2); lent = beside-turned _ _ _ _ _ c.args.self.now.mapped.room.2 found.0 t; named = refl }

pub returns-in_default : goal.returns-in_default
returns-in_default c = record { took = (refl, marks-all _ _ c.in_default.ensures, refl); kept = refl; holds = refl; lent = refl; named = refl }

pub invariant_of-self : goal.invariant_of-self
invariant_of-self c =
    let found = c.in-Some.ensures in
    let t = rw c.from.ensures at c.turn.ensures in
    record { mapped = (bit_out _ _ _ _ _ c.args.self.now.mapped t found.0 found.1 found.2).0 }
