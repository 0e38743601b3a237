-- What the calls of a policy answer, refusals too.
use Rattle.std.specs.Prelude.{◌≡◌, ℕ, ◌<◌, ◌≤◌, Ok, Err, Result}
use Rattle.costs.specs.declared.fault.CostFault.{CostFault}
use Rattle.costs.specs.Costs.{largest}
use Rattle.costs.specs.Faults.{cost_refusal, refusal_of}

-- The cost of a size from 0 to 16; a larger one is refused.
abbrev pub Asked : (ℕ → ℕ) → ℕ → Result ℕ CostFault → Type 0
Asked cost size (Ok units) = (size ≤ largest) × (units ≡ cost size)
Asked cost size (Err fault) = (largest < size) × (refusal_of fault ≡ cost_refusal 10 size largest)

-- Figures are accepted where they fit, and refused exactly where they do not.
abbrev pub Checked : Type 0 → Result (Unit {0}) CostFault → Type 0
Checked Fit (Ok _) = Fit
Checked Fit (Err fault) = (Fit → ⊥) × (refusal_of fault ≡ cost_refusal 23 0 0)
