use Rattle.std.proofs.Common.{arith}
use Rattle.std.proofs.lemmas.Result.{err_from_is_err_and}
use Rattle.orders.specs.Meaning.{write}
use Rattle.ledger.proofs.Moves as moves
use Rattle.ledger.proofs.Ledger.write.Goals as goal

pub returns-in_err-volume : goal.returns-in_err-volume
returns-in_err-volume g c =
    let p = err_from_is_err_and c.from_residual.result c.from_residual.ensures.1 in
    rw (p.1, p.2)
    (moves.left_alone c.args.self.now (write c.args.t c.args.number c.args.size) _ (omega arith, omega arith, omega arith) c.in_err-volume.ensures)
