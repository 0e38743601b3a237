use Rattle.std.proofs.Common.{◌≡◌, ap, ◌∙◌, ◌<◌, length, get_or, None, rules, arith}
use Rattle.pool.proofs.Batches.{giving, passing}
use Rattle.pool.proofs.batch.give_back.Goals.{in-Some, in_default}
use Rattle.pool.proofs.batch.give_back.Goals as goal

pub loop-place-preserved : goal.loop-place-preserved
loop-place-preserved g c =
    let h : c.loop-place.place-index < length c.args.list.now = omega arith in
    let units = g.A.Allocator.units in
    let lent = g.A.Allocator.lent in
    elim c.match-place.branch [
      | in-Some w ↦ (
        ap units w.pool-is ∙ giving _ _ _ c.args.list.now c.loop-place.place-index _ _ h w.in-Some.is c.loop-place.invariant.0 w.give.ensures.gave,
        ap lent w.pool-is ∙ w.give.ensures.lent ∙ c.loop-place.invariant.1,
      )
      | in_default w ↦
          let x : get_or c.args.list.now c.loop-place.place-index None ≡ None = search rules in (
            ap units w.pool-is ∙ passing _ _ c.args.list.now c.loop-place.place-index h x c.loop-place.invariant.0,
            ap lent w.pool-is ∙ c.loop-place.invariant.1,
          )
    ]
