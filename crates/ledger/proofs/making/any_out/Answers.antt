use Rattle.std.proofs.Common.{◌≡◌, false, get_or, length, ◌∙◌, rules, tests, arith}
use Rattle.std.proofs.lemmas.Iterator.{YieldsList-from_range}
use Rattle.std.proofs.lemmas.Iterator.Search.{any_from_yields_List}
use Rattle.ledger.proofs.Outs.{asked_each}
use Rattle.ledger.proofs.making.any_out.Goals as goal

pub returns : goal.returns
returns g c =
    let us = g.A.Allocator.units c.args.pool.now in
    let long : c.size.result ≡ length us = c.size.ensures in
    any_from_yields_List (λ u. get_or us u false) _ _ _ c.any.ensures.ran (YieldsList-from_range 0 c.size.result (length us) (search rules) (omega arith)) (λ x b q k. search (rules, tests))
    ∙ asked_each us
