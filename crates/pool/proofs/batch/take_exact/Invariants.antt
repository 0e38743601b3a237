use Rattle.std.proofs.Common.{◌≡◌, take, drop}
use Rattle.pool.specs.Batches.{Takes}
use Rattle.pool.proofs.batch.take_exact.Given as goal

abbrev pub invariant-loop-i : goal.invariant-loop-i
invariant-loop-i g l =
    Takes (g.A.Allocator.units l.initial.pool) (take l.i l.place-items) (g.A.Allocator.units l.pool)
    × (drop l.i l.place-items ≡ drop l.i l.fn.list)
    × (g.A.Allocator.lent l.pool ≡ g.A.Allocator.lent l.initial.pool)
