use Rattle.rules.specs.Holders.{count}
use Rattle.rules.specs.declared.state.Holder.TheVariants.{Record}
use Rattle.marks.specs.Tabled.{rows_of}
use Rattle.marks.proofs.Tables.{Deferring}
use Rattle.marks.proofs.table.Table.defer.Given as goal

abbrev pub invariant-loop-moved : goal.invariant-loop-moved
invariant-loop-moved l = Deferring l.fn.place.volume l.fn.place.number l.moved l.initial.self l.self

abbrev pub decreases-loop-moved : goal.decreases-loop-moved
decreases-loop-moved l = count (Record l.fn.place.volume l.fn.place.number) (rows_of l.self)
