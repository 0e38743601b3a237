use Rattle.marks.proofs.Tables.{deferring_none}
use Rattle.marks.proofs.marks.Marks.defer.Goals as goal

pub returns-in_default-clause-holders : goal.returns-in_default-clause-holders
returns-in_default-clause-holders g c = (deferring_none _ _ c.args.self.now.table c.in_default.ensures).0

pub returns-in_default-clause-many : goal.returns-in_default-clause-many
returns-in_default-clause-many g c = (deferring_none _ _ c.args.self.now.table c.in_default.ensures).1
