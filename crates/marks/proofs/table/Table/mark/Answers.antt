use Rattle.marks.proofs.Tables.{marked, rows-set}
use Rattle.marks.proofs.table.Table.mark.Goals as goal

pub invariant_of-self-clause-linked : goal.invariant_of-self-clause-linked
invariant_of-self-clause-linked c =
    marked c.args.self.now c.from.result c.args.unit c.args.place.volume c.args.place.number c.index-i.result c.from.ensures c.index-i.ensures c.requires c.args.place.named

pub returns-clause-rows : goal.returns-clause-rows
returns-clause-rows c = rows-set c.args.self.now c.from.result c.args.unit _ c.from.ensures
