use Rattle.std.proofs.Common.{◌∙◌}
use Rattle.marks.proofs.Returns.{returning_more, returning_end}
use Rattle.marks.proofs.marks.Marks.give_back.Goals as goal

pub loop-given-preserved : goal.loop-given-preserved
loop-given-preserved g c =
    let e = c.in-Some.ensures in
    returning_more c.loop-given.given c.args.self.now c.loop-given.self c.give_one.new.self c.loop-given.invariant e.sized e.lent c.in-Some.field-0 e.gave

pub returns : goal.returns
returns g c =
    let i = c.loop-given.invariant in
    let e = c.in_default.ensures in
    let r = returning_end c.loop-given.given c.args.self.now c.loop-given.self c.give_one.new.self i e.sized e.lent e.gave in
    record { holders = r.0; units = r.1; many = r.2; fewer = r.3; sized = e.sized ∙ i.sized; lent = e.lent ∙ i.lent }
