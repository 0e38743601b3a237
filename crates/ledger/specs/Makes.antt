-- What a making is given, and what it makes.
use Rattle.std.specs.Prelude.{◌≡◌, ℕ, Bool, cond, List, length, Ok, Err, Result, nat_lt}
use Rattle.pool.specs.declared.allocator.Allocator.{Ghosts as AllocatorMembers}
use Rattle.pool.specs.Units.{outs}
use Rattle.costs.specs.declared.policy.CostPolicy.{Ghosts as PolicyMembers}
use Rattle.rules.specs.Book.{fresh}
use Rattle.ledger.specs.declared.fault.MakeFault.{MakeFault}
use Rattle.ledger.specs.declared.fault.MakeFault.TheVariants.{SlopTooLarge, UnitOut}
use Rattle.ledger.specs.declared.Ledger.{Ledger}
use Rattle.ledger.specs.Parts.{pool_of, book_of}

abbrev pub any_out : List Bool → Bool
any_out us = nat_lt 0 (outs us)

-- the slop is below the size, and every unit is in; of several faults the lowest number
abbrev pub check_answer : ℕ → List Bool → Result (Unit {0}) MakeFault
check_answer slop us = cond (nat_lt slop (length us)) (cond (any_out us) (Err UnitOut) (Ok tt)) (Err SlopTooLarge)

-- made of this allocator, this policy and this slop
pub record Made {A P : Type 0} {gA : AllocatorMembers A} {gP : PolicyMembers P} (pool : A) (policy : P) (slop : ℕ) (l : Ledger A P gA gP) : Type 0 where
  pub pool_is : pool_of l ≡ pool
  pub policy_is : l.policy ≡ policy
  pub size_is : l.tally.size ≡ length (gA.units pool)
  pub slop_is : l.tally.slop ≡ slop
  pub book_is : book_of l ≡ fresh
