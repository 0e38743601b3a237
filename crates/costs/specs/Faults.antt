-- Every refusal of a cost policy in numbers.
use Rattle.std.specs.Prelude.{ℕ}
use Rattle.orders.specs.declared.answer.Refusal.{Refusal}
use Rattle.orders.specs.declared.answer.Layer.TheVariants as layer
use Rattle.costs.specs.declared.fault.CostFault.{CostFault}
use Rattle.costs.specs.declared.fault.CostFault.TheVariants.{SizeTooLarge, FiguresOutOfRange}

abbrev pub cost_refusal : ℕ → ℕ → ℕ → Refusal
cost_refusal number item amount = record { number = number; layer = layer.Transactions; item = item; amount = amount }

-- Number, item and amount of each fault; the layer of both is that of the transactions.
abbrev pub refusal_of : CostFault → Refusal
refusal_of (SizeTooLarge size) = cost_refusal 10 size 16
refusal_of FiguresOutOfRange = cost_refusal 23 0 0
