-- The walk as a loop meets it: the walk from where it stands answers as the whole one.
use Rattle.std.proofs.Common.{◌≡◌, ℕ, ◌<◌, ◌≤◌, List, length, Some, None, Option, sym, ap, ◌∙◌, subst, arith}
use Rattle.charges.specs.declared.Row.{Row}
use Rattle.charges.specs.Amounts.{limit_of, excess, passed, changed}
use Rattle.charges.specs.Tree.{row, Rooted, charge, limit}
use Rattle.charges.specs.Walk.{walk}
use Rattle.charges.proofs.Walks.{walk-stops, walk-goes_on, walk_ends}
use Rattle.tree.specs.declared.node.Node.{Node}
use Rattle.tree.specs.declared.step.Arrival.{Arrival}
use Rattle.tree.specs.Steps.{short_of, onward_from}
use Rattle.tree.proofs.Settling.{goes_on, stops}

pub record Walking (room : ℕ) (rows : List Row) (answer : Option (ℕ × ℕ)) (at : Arrival) : Type 0 where
  pub inside : at.dataset < length rows
  pub same : walk room rows at.dataset at.change ≡ answer

module _ (room : ℕ) (rows : List Row) (rooted : Rooted rows) (answer : Option (ℕ × ℕ)) (at : Arrival) (come : Walking room rows answer at)
    (node : Node) (is_row : node.row ≡ row rows at.dataset) (is-charge : node.charge ≡ charge rows at.dataset) (s : ℕ) (short : s ≡ short_of room at node) where
  exact : s ≡ excess (limit room rows at.dataset) (changed (charge rows at.dataset) at.change)
  exact =
      short ∙ ap (λ (r : Row). excess (limit_of room at.dataset r.quota) (changed node.charge at.change)) is_row
      ∙ ap (λ y. excess (limit room rows at.dataset) (changed y at.change)) is-charge

  pub walk-short : 0 < s → Some (at.dataset, s) ≡ answer
  walk-short gt = sym (walk-stops room rows rooted at.dataset at.change s come.inside exact gt) ∙ come.same

  none : s ≤ 0 → excess (limit room rows at.dataset) (changed (charge rows at.dataset) at.change) ≡ 0
  none le = sym exact ∙ omega arith

  pub walk_on : s ≤ 0 → (next : Arrival) → Some next ≡ onward_from at node → Walking room rows answer next
  walk_on le next some =
      let on = goes_on at node next some in
      let parent : (row rows at.dataset).parent ≡ next.dataset = ap (λ (q : Row). q.parent) (sym is_row) ∙ sym on.parent_is in
      let change : passed (charge rows at.dataset) (row rows at.dataset).reservation at.change ≡ next.change =
      ap (λ y. passed y (row rows at.dataset).reservation at.change) (sym is-charge)
      ∙ ap (λ (q : Row). passed node.charge q.reservation at.change) (sym is_row) ∙ sym on.change_is in
      let same : walk room rows next.dataset next.change ≡ answer =
      ap (λ q. walk room rows q next.change) (sym parent) ∙ ap (walk room rows (row rows at.dataset).parent) (sym change)
      ∙ sym (walk-goes_on room rows rooted at.dataset at.change on.below come.inside (none le)) ∙ come.same in
      record { inside = omega (arith, rooted at.dataset on.below come.inside, come.inside); same = same }

  pub walk-done : s ≤ 0 → None ≡ onward_from at node → None ≡ answer
  walk-done le end =
      let root = stops at node end in
      let done : walk room rows 0 at.change ≡ None = walk_ends room rows at.change (subst (λ k. excess (limit room rows k) (changed (charge rows k) at.change) ≡ 0) root (none le)) in
      sym done ∙ ap (λ k. walk room rows k at.change) (sym root) ∙ come.same
