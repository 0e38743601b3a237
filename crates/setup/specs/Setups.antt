-- A run of a script on a new ledger.
use Rattle.std.specs.Prelude.{◌≡◌, ℕ, ◌+◌, ◌<◌, ◌≤◌, Bool, List, [], length, Ok, Err, Result, ◌≢◌}
use Rattle.orders.specs.Layout.{laid}
use Rattle.rules.specs.declared.state.Holder.{Holder}
use Rattle.rules.specs.Figures.{Figures}
use Rattle.rules.specs.Book.{fresh}
use Rattle.rules.specs.Journal.{Entry}
use Rattle.rules.specs.Standing.{Standing}
use Rattle.rules.specs.Served.{bytes_of, book_then, exchanges}
use Rattle.ledger.specs.declared.fault.MakeFault.TheVariants.{SlopTooLarge}
use Rattle.costs.specs.declared.fault.CostFault.TheVariants.{FiguresOutOfRange}
use Rattle.runner.specs.declared.ended.Ended.{Ended}
use Rattle.runner.specs.Runs.{ran, exchanges_in, end_of}
use Rattle.pool.specs.Faults.{ground}
use Rattle.pool.specs.Marks.{Room}
use Rattle.pool.specs.Links.{Space}
use Rattle.setup.specs.declared.fault.SetupFault.{SetupFault}
use Rattle.setup.specs.declared.fault.SetupFault.TheVariants.{Pool, Ledger, Policy}
use Rattle.setup.specs.declared.scheme.Scheme.{Scheme}
use Rattle.setup.specs.Schemes.{SchemeFits, plan}
use Rattle.setup.specs.Faults.{setup_number}

-- The script s was run on a new ledger with the figures F: its end and its answers are those of the rules, and a journal of exactly its orders and answers stands
-- behind a state with that book and the units us.
pub record RunWith (F : Figures) (s out after : List ℕ) (us : List Bool) (e : Ended) : Type 0 where
  pub ended : e ≡ end_of (ran F s (length out) fresh)
  pub within : e.written ≤ length out
  pub bytes : after ≡ laid out 0 (bytes_of (exchanges_in (ran F s (length out) fresh)))
  pub journal : List Entry
  pub holders : List Holder
  pub stands : Standing F (book_then F fresh (exchanges_in (ran F s (length out) fresh))) holders us journal
  pub exactly : exchanges journal ≡ exchanges_in (ran F s (length out) fresh)

-- the same, whichever units are out at the end: what a caller knows who lent memory to an allocator that went into the ledger
pub record Ran (F : Figures) (s out after : List ℕ) (e : Ended) : Type 0 where
  pub units : List Bool
  pub run : RunWith F s out after units e

-- a bitmap of m units and a chain of n fit their memory, and make a pair
pub record PairRoom (bs ls : List ℕ) (m n : ℕ) : Type 0 where
  pub bits : Room bs m
  pub links : Space ls n
  pub few : m + n ≤ 4096

-- two pairs make a pair
pub record NestedRoom (bs ls bs' ls' : List ℕ) (m n m' n' : ℕ) : Type 0 where
  pub first : PairRoom bs ls m n
  pub second : PairRoom bs' ls' m' n'
  pub all_few : m + n + (m' + n') ≤ 4096

-- Why a set-up of n units is refused, where Able says that its sizes and memory will do: the lowest number of several.
abbrev pub Refuses : Type 0 → ℕ → ℕ → Scheme → SetupFault → Type 0
Refuses Able n slop scheme (Pool f) = (ground f ≡ (20, 4, [])) × (Able → ⊥)
Refuses Able n slop scheme (Ledger f) = (f ≡ SlopTooLarge) × Able × (n ≤ slop)
Refuses Able n slop scheme (Policy f) = (f ≡ FiguresOutOfRange) × Able × (slop < n) × (SchemeFits scheme → ⊥)

-- the same of the slop and the policy alone
abbrev pub PlanChecked : ℕ → ℕ → Scheme → Result (Unit {0}) SetupFault → Type 0
PlanChecked n slop scheme (Ok _) = (slop < n) × SchemeFits scheme
PlanChecked n slop scheme (Err f) = Refuses (Unit {0}) n slop scheme f × (setup_number f ≢ 20)

-- What a call answers that runs the script s: the end of the run, or why there was none, and then no answer is written.
abbrev pub Called : Type 0 → ℕ → ℕ → Scheme → List ℕ → List ℕ → List ℕ → Result Ended SetupFault → Type 0
Called Able n slop scheme s out after (Ok e) = Able × (slop < n) × SchemeFits scheme × Ran (plan n slop scheme) s out after e
Called Able n slop scheme s out after (Err f) = Refuses Able n slop scheme f × (after ≡ out)

-- where there was no run, lent memory holds what it held
abbrev pub Unwritten : List ℕ → List ℕ → Result Ended SetupFault → Type 0
Unwritten memory after (Ok e) = Unit {0}
Unwritten memory after (Err f) = after ≡ memory
