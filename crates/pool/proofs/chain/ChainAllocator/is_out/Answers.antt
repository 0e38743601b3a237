use Rattle.std.proofs.Common.{rules}
use Rattle.pool.proofs.Chains.{taken_at, taken-past}
use Rattle.pool.proofs.chain.ChainAllocator.is_out.Goals as goal

pub returns-then-unit-self : goal.returns-then-unit-self
returns-then-unit-self c = search (rules, taken_at)

pub returns-else-unit-self : goal.returns-else-unit-self
returns-else-unit-self c = search (rules, taken-past)
