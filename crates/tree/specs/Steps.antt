-- One step of a change on its way up: what it finds at a dataset, and how it goes on.
use Rattle.std.specs.Prelude.{ℕ, cond, Some, None, Option, ◌==◌}
use Rattle.charges.specs.Amounts.{limit_of, excess, passed, changed}
use Rattle.tree.specs.declared.node.Node.{Node}
use Rattle.tree.specs.declared.step.Arrival.{Arrival}

-- by how much the charge with the change passes the dataset's limit
abbrev pub short_of : ℕ → Arrival → Node → ℕ
short_of room arrival node = excess (limit_of room arrival.dataset node.row.quota) (changed node.charge arrival.change)

-- the parent and the change that arrives there; nothing stands above the root
abbrev pub onward_from : Arrival → Node → Option Arrival
onward_from arrival node =
    cond (arrival.dataset == 0) None
    (Some (record { dataset = node.row.parent; change = passed node.charge node.row.reservation arrival.change }))
