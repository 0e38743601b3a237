-- The number of each refusal of a set-up.
use Rattle.std.specs.Prelude.{ℕ}
use Rattle.pool.specs.Faults.{ground as pool_ground}
use Rattle.ledger.specs.Faults.{ground as ledger_ground}
use Rattle.costs.specs.Faults.{refusal_of}
use Rattle.setup.specs.declared.fault.SetupFault.{SetupFault}
use Rattle.setup.specs.declared.fault.SetupFault.TheVariants.{Pool, Ledger, Policy}

abbrev pub setup_number : SetupFault → ℕ
setup_number (Pool f) = (pool_ground f).0
setup_number (Ledger f) = (ledger_ground f).0
setup_number (Policy f) = (refusal_of f).number
