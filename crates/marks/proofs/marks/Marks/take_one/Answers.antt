use Rattle.marks.proofs.Takes.{not_full}
use Rattle.marks.proofs.marks.Marks.take_one.Goals as goal

pub unreachable-requires : goal.unreachable-requires
unreachable-requires g c = not_full _ _ c.in_default.field-0 c.in_default.ensures.took c.requires
