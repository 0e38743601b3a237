use Rattle.std.proofs.Common.{refl}
use Rattle.marks.proofs.Tables.{head_of, head_fits, none_of, rows-set, shifted}
use Rattle.marks.proofs.table.Table.shift.Goals as goal

pub returns-then-unit-self-clause-shifted : goal.returns-then-unit-self-clause-shifted
returns-then-unit-self-clause-shifted c = (none_of c.args.self.now _ c.args.place.volume c.args.place.number c.index-i.result refl c.index-i.ensures c.args.place.named c.if-unit-self.true, refl)

pub bounds-self-at : goal.bounds-self-at
bounds-self-at c = head_fits c.args.self.now _ c.args.place.volume c.args.place.number c.index-i.result refl c.index-i.ensures c.args.place.named c.from-at.result c.from-at.ensures c.if-unit-self.false

pub bounds-self-at-2 : goal.bounds-self-at-2
bounds-self-at-2 c = head_fits c.args.self.now _ c.args.place.volume c.args.place.number c.index-i.result refl c.index-i.ensures c.args.place.named c.from-at.result c.from-at.ensures c.if-unit-self.false

pub invariant_of-self-clause-linked : goal.invariant_of-self-clause-linked
invariant_of-self-clause-linked c =
    shifted c.args.self.now c.from-at.result _ c.args.place.volume c.args.place.number c.index-i.result _ refl c.from-at.ensures c.index-i.ensures refl c.args.place.named c.if-unit-self.false

pub returns-clause-shifted : goal.returns-clause-shifted
returns-clause-shifted c =
    let o = head_of c.args.self.now _ c.args.place.volume c.args.place.number c.index-i.result refl c.index-i.ensures c.args.place.named c.if-unit-self.false in
    (o.0, o.1, rows-set c.args.self.now c.from-at.result _ _ c.from-at.ensures)
