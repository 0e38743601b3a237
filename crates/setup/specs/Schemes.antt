-- A cost policy by its figures.
use Rattle.std.specs.Prelude.{ℕ}
use Rattle.costs.specs.Costs.{largest, CopiesFit, ParityFit, copies_cost, parity_cost}
use Rattle.rules.specs.Figures.{Figures}
use Rattle.setup.specs.declared.scheme.Scheme.{Scheme}
use Rattle.setup.specs.declared.scheme.Scheme.TheVariants.{Copies, Parity}

-- the figures are in their range
abbrev pub SchemeFits : Scheme → Type 0
SchemeFits (Copies n) = CopiesFit n
SchemeFits (Parity p w) = ParityFit p w

-- what a write of so many sectors costs
abbrev pub scheme_cost : Scheme → ℕ → ℕ
scheme_cost (Copies n) = copies_cost n
scheme_cost (Parity p w) = parity_cost p w

-- a ledger over so many units, with this slop and policy
abbrev pub plan : ℕ → ℕ → Scheme → Figures
plan units slop scheme = record { size = units; slop = slop; cost = scheme_cost scheme; worst = scheme_cost scheme largest }
