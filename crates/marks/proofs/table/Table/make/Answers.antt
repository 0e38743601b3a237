use Rattle.marks.proofs.Fresh.{fresh, fresh-rows}
use Rattle.marks.proofs.table.Table.make.Goals as goal

pub invariant_of-result-clause-linked : goal.invariant_of-result-clause-linked
invariant_of-result-clause-linked c = fresh c.args.size c.requires

pub returns-clause-rows : goal.returns-clause-rows
returns-clause-rows c = fresh-rows c.args.size c.requires
