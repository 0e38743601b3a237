use Rattle.std.proofs.Common.{refl}
use Rattle.tally.proofs.Makes.{fresh-book, fresh-sound}
use Rattle.tally.proofs.Tally.make.Goals as goal

pub invariant_of-result : goal.invariant_of-result
invariant_of-result c = record {
  sized = c.requires;
  sound =
      fresh-sound c.make.result c.room.result c.make.ensures c.empty.result c.empty.ensures c.args.size c.args.slop c.args.worst c.room.ensures;
}

pub returns : goal.returns
returns c = record {
  size_is = refl;
  slop_is = refl;
  worst_is = refl;
  book_is = fresh-book c.make.result c.room.result c.make.ensures c.empty.result c.empty.ensures;
}
