use Rattle.marks.proofs.Tables.{deferring_more, deferring_end}
use Rattle.marks.proofs.table.Table.defer.Goals as goal

pub loop-moved-preserved : goal.loop-moved-preserved
loop-moved-preserved c =
    let e = c.in-Some.ensures in
    deferring_more c.args.place.volume c.args.place.number c.loop-moved.moved c.in-Some.field-0 c.args.self.now c.loop-moved.self c.shift.new.self c.loop-moved.invariant e.shifted e.sized

pub returns : goal.returns
returns c =
    let e = deferring_end c.args.place.volume c.args.place.number c.loop-moved.moved c.args.self.now c.loop-moved.self c.shift.new.self c.loop-moved.invariant c.in_default.ensures.shifted in
    record { rows = e.0; many = e.1; sized = e.2 }
