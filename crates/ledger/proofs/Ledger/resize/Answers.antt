use Rattle.std.proofs.Common.{arith}
use Rattle.std.proofs.lemmas.Result.{err_from_is_err_and}
use Rattle.orders.specs.Meaning.{resize}
use Rattle.ledger.proofs.Laws as laws
use Rattle.ledger.proofs.Moves as moves
use Rattle.ledger.proofs.Ledger.resize.Goals as goal

pub returns-in_err-old : goal.returns-in_err-old
returns-in_err-old g c =
    let p = err_from_is_err_and c.from_residual.result c.from_residual.ensures.1 in
    rw (p.1, p.2)
    (moves.refused c.args.self.now c.resize.new.self (resize c.args.volume c.args.records) _ (omega arith, omega arith) c.in_err-old.ensures.did)

pub invariant_of-self-2 : goal.invariant_of-self-2
invariant_of-self-2 g c =
    let d = c.in_ok-old.ensures in
    let e = c.defer_from.ensures in
    record {
      sound = laws.kept c.args.self.now _ _ _ _ _
          (moves.resizing c.args.self.now c.resize.new.self c.defer_from.new.marks c.args.volume c.args.records _ _ (omega arith, omega arith) d.did d.old
          e.sized e.holders e.kept);
    }

pub returns : goal.returns
returns g c =
    let d = c.in_ok-old.ensures in
    let e = c.defer_from.ensures in
    moves.resizing c.args.self.now c.resize.new.self c.defer_from.new.marks c.args.volume c.args.records _ _ (omega arith, omega arith) d.did d.old
    e.sized e.holders e.kept
