use Rattle.std.proofs.Common.{arith}
use Rattle.std.proofs.lemmas.Result.{err_from_is_err_and}
use Rattle.orders.specs.Meaning.{free}
use Rattle.ledger.proofs.Laws as laws
use Rattle.ledger.proofs.Moves as moves
use Rattle.ledger.proofs.Ledger.free.Goals as goal

pub returns-in_err-volume : goal.returns-in_err-volume
returns-in_err-volume g c =
    let p = err_from_is_err_and c.from_residual.result c.from_residual.ensures.1 in
    rw (p.1, p.2)
    (moves.refused c.args.self.now c.free.new.self (free c.args.t c.args.number) _ (omega arith, omega arith) c.in_err-volume.ensures.did)

pub invariant_of-self-2 : goal.invariant_of-self-2
invariant_of-self-2 g c =
    let d = c.in_ok-volume.ensures in
    let e = c.defer.ensures in
    record {
      sound = laws.kept c.args.self.now _ _ _ _ _
          (moves.freeing c.args.self.now c.free.new.self c.defer.new.self c.args.t c.args.number _ _ (omega arith, omega arith) d.did d.volume e.sized e.holders e.kept);
    }

pub returns : goal.returns
returns g c =
    let d = c.in_ok-volume.ensures in
    let e = c.defer.ensures in
    moves.freeing c.args.self.now c.free.new.self c.defer.new.self c.args.t c.args.number _ _ (omega arith, omega arith) d.did d.volume e.sized e.holders e.kept
