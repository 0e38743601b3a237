use Rattle.std.proofs.Common.{◌≡◌, ◌*◌, ◌/◌, rules, arith}
use Rattle.pool.proofs.Turns.{cleared_whole, cleared_last}
use Rattle.pool.proofs.bitmap.clear.Goals as goal

pub returns-then-i-size : goal.returns-then-i-size
returns-then-i-size c =
    let w = cleared_whole c.args.memory.now c.fill.new.self c.args.size c.requires (λ k. search rules) (c.fill.ensures.after (λ y e. e)) in
    cleared_last _ _ _ _ c.requires c.if-i-size.true w c.low_cleared.ensures

pub returns-else-i-size : goal.returns-else-i-size
returns-else-i-size c =
    let w = cleared_whole c.args.memory.now c.fill.new.self c.args.size c.requires (λ k. search rules) (c.fill.ensures.after (λ y e. e)) in
    let e : 8 * (c.args.size / 8) ≡ c.args.size = omega (arith, c.if-i-size.false) in
    rw e at w
