use Rattle.marks.proofs.Takes.{taking-start, taking-more}
use Rattle.marks.proofs.marks.Marks.take.Goals as goal

pub loop-init : goal.loop-init
loop-init g c = taking-start c.in-Some.place.volume c.in-Some.place.number c.args.self.now

pub loop-preserved : goal.loop-preserved
loop-preserved g c =
    let e = c.take_one.ensures in
    taking-more c.in-Some.place.volume c.in-Some.place.number c.loop.counter c.take_one.result c.args.self.now c.loop.self c.take_one.new.self c.loop.invariant e.took e.marked e.sized e.lent
