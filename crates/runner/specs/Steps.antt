-- One order of a run.
use Rattle.std.specs.Prelude.{◌≡◌, [], ◌∷◌}
use Rattle.pool.specs.declared.allocator.Allocator.{Ghosts as AllocatorMembers}
use Rattle.costs.specs.declared.policy.CostPolicy.{Ghosts as PolicyMembers}
use Rattle.orders.specs.declared.answer.Answer.{Answer}
use Rattle.orders.specs.Meaning.{Meaning}
use Rattle.rules.specs.Answers.{answer}
use Rattle.rules.specs.Law.{Proper}
use Rattle.rules.specs.Served.{exchange}
use Rattle.ledger.specs.declared.Ledger.{Ledger}
use Rattle.ledger.specs.Parts.{book_of, figures}
use Rattle.ledger.specs.Serves.{Through}

-- From l₀ to l by the order m, which is answered a.
pub record One {A P : Type 0} {gA : AllocatorMembers A} {gP : PolicyMembers P} (l₀ l : Ledger A P gA gP) (m : Meaning) (a : Answer) : Type 0 where
  pub through : Through l₀ l (exchange m a ∷ [])
  pub answered : a ≡ answer (figures l₀) (book_of l₀) m
  pub proper : Proper a
