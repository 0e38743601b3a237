use Rattle.std.proofs.Common.{ℕ, List, None, Option, ◌∙◌, subst, arith}
use Rattle.std.proofs.lemmas.List.{take_all, set-get_or}
use Rattle.pool.specs.Batches.{Takes}
use Rattle.pool.proofs.Batches.{taking, refusing}
use Rattle.pool.proofs.batch.take_exact.Goals as goal

pub loop-i-preserved : goal.loop-i-preserved
loop-i-preserved g c =
    let t = taking _ _ _ c.args.list.now c.loop-i.place-items c.loop-i.i _ (omega arith) c.loop-i.invariant.0 c.loop-i.invariant.1 c.in-Ok.ensures.took in
    (t.0, t.1, c.take.ensures.lent ∙ c.loop-i.invariant.2)

pub returns-in-Err : goal.returns-in-Err
returns-in-Err g c =
    let same = set-get_or c.loop-i.place-items c.loop-i.i None in
    record {
      lent = c.give_back.ensures.lent ∙ c.take.ensures.lent ∙ c.loop-i.invariant.2;
      filled = rw same (refusing _ (g.A.Allocator.units c.loop-i.pool) _ _ c.args.list.now c.loop-i.place-items c.give_back.new.list c.loop-i.i _ (omega arith) c.loop-i.auto.place-items c.loop-i.invariant.0 c.loop-i.invariant.1 c.in-Err.ensures.took (rw same at c.give_back.ensures.units) (rw same at c.give_back.ensures.list));
    }

pub returns : goal.returns
returns g c =
    let P : List (Option ℕ) → Type 0 = λ l. Takes (g.A.Allocator.units c.args.pool.now) l (g.A.Allocator.units c.loop-i.pool) in
    record {
      lent = c.loop-i.invariant.2;
      filled = subst P (take_all c.loop-i.i c.loop-i.place-items (omega arith)) c.loop-i.invariant.0;
    }
