-- What each refusal of a making says.
use Rattle.std.specs.Prelude.{ℕ, List, []}
use Rattle.ledger.specs.declared.fault.MakeFault.{MakeFault}
use Rattle.ledger.specs.declared.fault.MakeFault.TheVariants.{SlopTooLarge, UnitOut}

-- The number of the refusal, its layer, and its values.
abbrev pub ground : MakeFault → ℕ × ℕ × List ℕ
ground SlopTooLarge = (21, 2, [])
ground UnitOut = (22, 2, [])
