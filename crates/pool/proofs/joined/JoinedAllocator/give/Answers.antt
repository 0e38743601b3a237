use Rattle.std.proofs.Common.{refl, rules}
use Rattle.std.proofs.lemmas.Result.{MatchResult-weaker, err_from_is_err_and}
use Rattle.pool.proofs.Joins.{gave_first, gave_second, first-kept, second-kept, both_lent}
use Rattle.pool.proofs.joined.JoinedAllocator.give.Goals as goal

pub returns-in-None : goal.returns-in-None
returns-in-None g c = record {
  gave = gave_first _ _ _ _ _ _ c.size.ensures c.in-None.ensures c.give.ensures.gave;
  kept = first-kept _ _ _ c.give.ensures.kept refl;
  lent = both_lent _ _ _ _ c.give.ensures.lent refl;
}

pub returns-in-Some-clause-gave : goal.returns-in-Some-clause-gave
returns-in-Some-clause-gave g c =
    gave_second _ _ _ _ _ _ _ _ c.size.ensures c.in-Some.ensures c.give-in-Some.ensures.gave
    (MatchResult-weaker c.give-in-Some.result c.map_err.ensures.cases (λ x p. p) (λ f p. search (rules, err_from_is_err_and)))

pub returns-in-Some-clause-kept : goal.returns-in-Some-clause-kept
returns-in-Some-clause-kept g c = second-kept _ _ _ _ refl c.give-in-Some.ensures.kept c.map_err.ensures.variant
