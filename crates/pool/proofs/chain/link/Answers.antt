use Rattle.std.proofs.Common.{◌≡◌, length, take, arith}
use Rattle.std.proofs.lemmas.List.{length-take-le}
use Rattle.pool.proofs.Chains.{linking}
use Rattle.pool.proofs.chain.link.Goals as goal

pub returns : goal.returns
returns c =
    let l : length (take c.from.result c.args.links.now) ≡ c.from.result = length-take-le c.from.result c.args.links.now (omega arith) in
    let n : length c.loop-i.entry-items ≡ c.args.size = omega arith in
    rw c.from.ensures (linking c.args.links.now c.loop-i.entry-items c.args.size n (λ k h. c.loop-i.invariant k (omega arith)))
