use Rattle.std.proofs.Common.{refl}
use Rattle.marks.proofs.Tables.{head_deferred, deferred_fits, none_deferred, rows-set, released}
use Rattle.marks.proofs.table.Table.release.Goals as goal

pub returns-then-unit-self-clause-released : goal.returns-then-unit-self-clause-released
returns-then-unit-self-clause-released c = (none_deferred c.args.self.now c.if-unit-self.true, refl)

pub bounds-self-at : goal.bounds-self-at
bounds-self-at c = deferred_fits c.args.self.now c.from-at.result c.from-at.ensures c.if-unit-self.false

pub bounds-self-at-2 : goal.bounds-self-at-2
bounds-self-at-2 c = deferred_fits c.args.self.now c.from-at.result c.from-at.ensures c.if-unit-self.false

pub invariant_of-self-clause-linked : goal.invariant_of-self-clause-linked
invariant_of-self-clause-linked c = released c.args.self.now c.from-at.result _ refl c.from-at.ensures c.if-unit-self.false

pub returns-clause-released : goal.returns-clause-released
returns-clause-released c =
    let h = head_deferred c.args.self.now c.if-unit-self.false in
    (h.0, h.1, rows-set c.args.self.now c.from-at.result _ _ c.from-at.ensures)
