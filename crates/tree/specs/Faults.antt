-- Every refusal of the tree in numbers.
use Rattle.std.specs.Prelude.{ℕ}
use Rattle.orders.specs.declared.answer.Refusal.{Refusal}
use Rattle.orders.specs.declared.answer.Layer.TheVariants as layer
use Rattle.tree.specs.declared.fault.TreeFault.{TreeFault}
use Rattle.tree.specs.declared.fault.TreeFault.TheVariants.{Missing, IsRoot, NotFolder, NotVolume, Full, RecordCount, QuotaTooSmall, ReservationTooLarge, LimitPassed}

abbrev pub tree_refusal : ℕ → ℕ → ℕ → Refusal
tree_refusal number item amount = record { number = number; layer = layer.Tree; item = item; amount = amount }

-- Number, item and amount of each fault; the layer of all is that of the tree.
abbrev pub refusal_of : TreeFault → Refusal
refusal_of (Missing d) = tree_refusal 12 d 0
refusal_of (IsRoot d) = tree_refusal 12 d 0
refusal_of (NotFolder d) = tree_refusal 12 d 0
refusal_of (NotVolume d) = tree_refusal 12 d 0
refusal_of Full = tree_refusal 13 0 64
refusal_of (RecordCount n) = tree_refusal 14 n 0
refusal_of (QuotaTooSmall d s) = tree_refusal 15 d s
refusal_of (ReservationTooLarge d s) = tree_refusal 16 d s
refusal_of (LimitPassed d s) = tree_refusal 17 d s

-- what a walk names, a dataset and its shortfall, as a fault
abbrev pub limit_fault : ℕ × ℕ → TreeFault
limit_fault walked = LimitPassed walked.0 walked.1
