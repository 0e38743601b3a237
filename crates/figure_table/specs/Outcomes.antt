-- What comes of a question, by the rules.
use Rattle.std.specs.Prelude.{◌≡◌, ℕ, ◌<◌, ◌≤◌, ◌⊎◌, Ok, Err, Result}
use Rattle.costs.specs.Costs.{largest, CopiesFit, copies_cost, ParityFit, parity_cost}
use Rattle.costs.specs.Faults.{cost_refusal, refusal_of}
use Rattle.costs.specs.declared.fault.CostFault.{CostFault}
use Rattle.figure_table.specs.declared.figure.Policy.{Policy}
use Rattle.figure_table.specs.declared.figure.Policy.TheVariants.{Copies, Parity}
use Rattle.figure_table.specs.declared.figure.Question.{Question}
use Rattle.figure_table.specs.declared.figure.Question.TheVariants.{Make, Cost, Worst}
use Rattle.figure_table.specs.declared.figure.Outcome.{Outcome}
use Rattle.figure_table.specs.declared.figure.Outcome.TheVariants.{Accepted, Units, Refused}

abbrev pub Fit : Policy → Type 0
Fit (Copies n) = CopiesFit n
Fit (Parity p w) = ParityFit p w

abbrev pub cost_of : Policy → ℕ → ℕ
cost_of (Copies n) size = copies_cost n size
cost_of (Parity p w) size = parity_cost p w size

-- a fault is the outcome that it is refused with
abbrev pub outcome_of : Result Outcome CostFault → Outcome
outcome_of (Ok o) = o
outcome_of (Err fault) = Refused (refusal_of fault)

-- of a policy that may be made, and whose costs these are
abbrev pub Asked : (ℕ → ℕ) → ℕ → Question → Outcome → Type 0
Asked cost worst Make o = o ≡ Accepted
Asked cost worst (Cost size) o = ((size ≤ largest) × (o ≡ Units (cost size))) ⊎ ((largest < size) × (o ≡ Refused (cost_refusal 10 size largest)))
Asked cost worst Worst o = o ≡ Units worst

-- figures outside their range are refused, whatever is asked; the worst cost is that of sixteen sectors
abbrev pub Answered : Policy → Question → Outcome → Type 0
Answered policy question o = (Fit policy × Asked (cost_of policy) (cost_of policy largest) question o) ⊎ ((Fit policy → ⊥) × (o ≡ Refused (cost_refusal 23 0 0)))
