use Rattle.std.proofs.lemmas.Result.{err_from_is_err_and}
use Rattle.orders.specs.Meaning.{turn}
use Rattle.ledger.proofs.Laws as laws
use Rattle.ledger.proofs.Moves as moves
use Rattle.ledger.proofs.Ledger.turn.Goals as goal

pub returns-in_err-units : goal.returns-in_err-units
returns-in_err-units g c =
    let p = err_from_is_err_and c.from_residual.result c.from_residual.ensures.1 in
    rw (p.1, p.2) (moves.refused c.args.self.now c.turn.new.self turn _ tt c.in_err-units.ensures)

pub invariant_of-self-2 : goal.invariant_of-self-2
invariant_of-self-2 g c =
    let e = c.give_back.ensures in
    record {
      sound = laws.kept c.args.self.now _ _ _ _ _
          (moves.turning c.args.self.now c.turn.new.self c.give_back.new.self _ c.in_ok-units.ensures e.sized e.holders e.units e.lent);
    }

pub returns : goal.returns
returns g c =
    let e = c.give_back.ensures in
    moves.turning c.args.self.now c.turn.new.self c.give_back.new.self _ c.in_ok-units.ensures e.sized e.holders e.units e.lent
