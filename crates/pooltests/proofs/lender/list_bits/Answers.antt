use Rattle.std.proofs.Common.{◌≡◌, ◌∙◌, rules}
use Rattle.pool.specs.Marks.{cleared}
use Rattle.pooltests.proofs.Lenders.{one_lent, listing}
use Rattle.pooltests.proofs.lender.list_bits.Goals as goal

pub returns : goal.returns
returns c =
    let old = c.make-bits.result in
    let new = c.take_exact.new.pool in
    let n = c.args.size in
    let t = one_lent new.memory.ghost_name new.size old.memory.ghost_name old.size (cleared new.memory.now new.size) (cleared old.memory.now old.size) c.take_exact.ensures.lent in
    let s : old.size ≡ n = c.make-bits.ensures.fields.0 in
    let k : new.size ≡ n = t.sized ∙ s in
    let same = t.named ∙ c.make-bits.ensures.named in
    listing _ _ old.memory.now new.memory.now _ c.args.list.now c.take_exact.new.list n old.size new.size c.take_exact.result c.take_exact.ensures.filled c.make-bits.ensures.units (search (rules, same)) k t.beside s c.make-bits.ensures.holds
