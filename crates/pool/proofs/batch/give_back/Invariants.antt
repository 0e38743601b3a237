use Rattle.std.proofs.Common.{◌≡◌, take}
use Rattle.pool.specs.Batches.{without}
use Rattle.pool.proofs.batch.give_back.Given as goal

abbrev pub invariant-loop-place : goal.invariant-loop-place
invariant-loop-place g l =
    (g.A.Allocator.units l.pool ≡ without (g.A.Allocator.units l.initial.pool) (take l.place-index l.fn.list))
    × (g.A.Allocator.lent l.pool ≡ g.A.Allocator.lent l.initial.pool)
