use Rattle.std.proofs.Common.{sym, refl, arith}
use Rattle.tally.specs.Faults.{answer_of}
use Rattle.tally.proofs.Sounds.{unmoved, done_did, refused_from}
use Rattle.tally.proofs.Settings.{reserve-refused, reserve-done, reserve-book, reserve-still}
use Rattle.tally.proofs.Tally.reserve.Goals as goal

pub invariant_of-self : goal.invariant_of-self
invariant_of-self c = record {
  sized = c.args.self.now.sized;
  sound =
      reserve-still c.args.self.now c.args.d c.args.units c.set_reservation.new.self c.set_reservation.result c.set_reservation.ensures.answer
      c.set_reservation.ensures.after (omega arith);
}

pub returns-in_err-set_reservation : goal.returns-in_err-set_reservation
returns-in_err-set_reservation c =
    refused_from answer_of (λ f. refl) _ _ _ c.from_residual.result _ c.from_residual.ensures.1
    (reserve-refused c.args.self.now c.args.d c.args.units _ c.in_err-set_reservation.field-0.0 (sym c.in_err-set_reservation.ensures.answer)
    (unmoved c.args.self.now _ refl refl refl c.in_err-set_reservation.ensures.after refl refl))

pub returns : goal.returns
returns c =
    done_did c.args.self.now _ _ c.in_ok-set_reservation.field-0
    (reserve-done c.args.self.now c.args.d c.args.units c.in_ok-set_reservation.field-0 (sym c.in_ok-set_reservation.ensures.answer))
    (reserve-book c.args.self.now c.args.d c.args.units c.in_ok-set_reservation.field-0 (sym c.in_ok-set_reservation.ensures.answer)
    c.set_reservation.new.self c.in_ok-set_reservation.ensures.after)
    (record { size = refl; slop = refl; worst = refl })
