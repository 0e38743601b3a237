use Rattle.std.proofs.Common.{◌≡◌, length, refl, ◌∙◌}
use Rattle.pool.proofs.Joins.{took-first, took-second, neither-kept, both_lent}
use Rattle.pool.proofs.Outs.{took-length}
use Rattle.pool.proofs.joined.JoinedAllocator.take.Goals as goal

pub returns-in-Ok : goal.returns-in-Ok
returns-in-Ok g c = record {
  took = took-first _ _ _ _ c.in-Ok.ensures.took;
  kept = tt;
  lent = both_lent _ _ _ _ c.take.ensures.lent refl;
}

pub returns-in_err-unit-clause-kept : goal.returns-in_err-unit-clause-kept
returns-in_err-unit-clause-kept g c = neither-kept _ _ _ c.in_default.ensures.kept c.in_err-unit.ensures.kept

pub returns-clause-took : goal.returns-clause-took
returns-clause-took g c =
    let l : length (g.A.Allocator.units c.take.new.self) ≡ length (g.A.Allocator.units c.args.self.now.first) = took-length _ _ _ c.take.ensures.took in
    took-second _ _ _ _ _ _ _ (c.size-border.ensures ∙ l) c.in_default.ensures.took c.in_ok-unit.ensures.took
