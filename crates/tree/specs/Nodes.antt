-- What is kept of the datasets, as the lists that the rules speak of.
use Rattle.std.specs.Prelude.{◌≡◌, ℕ, List, map}
use Rattle.charges.specs.declared.Row.{Row}
use Rattle.charges.specs.Tree.{path}
use Rattle.charges.specs.Keep.{spread}
use Rattle.rules.specs.declared.state.Kind.{Kind}
use Rattle.tree.specs.declared.node.Node.{Node}
use Rattle.tree.specs.declared.step.Arrival.{Arrival}

abbrev pub rows_in : List Node → List Row
rows_in nodes = map (λ node. node.row) nodes

abbrev pub charges_in : List Node → List ℕ
charges_in nodes = map (λ node. node.charge) nodes

abbrev pub kinds_in : List Node → List Kind
kinds_in nodes = map (λ node. node.kind) nodes

-- new is old but for the charges that are kept
pub record SamePlaces (old new : List Node) : Type 0 where
  pub same_rows : rows_in new ≡ rows_in old
  pub same_kinds : kinds_in new ≡ kinds_in old

-- a change put in where it arrives, and spread from there to the root
pub record Settled (old new : List Node) (arrival : Arrival) : Type 0 where
  pub places : SamePlaces old new
  pub charges_are : charges_in new ≡ spread (rows_in old) (path (rows_in old) arrival.dataset) arrival.change (charges_in old)
