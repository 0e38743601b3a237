use Rattle.std.proofs.Common.{sym, refl, arith}
use Rattle.tally.specs.Faults.{answer_of}
use Rattle.tally.proofs.Sounds.{unmoved, done_did, refused_from}
use Rattle.tally.proofs.Settings.{quota-refused, quota-done, quota-book, quota-still}
use Rattle.tally.proofs.Tally.quota.Goals as goal

pub invariant_of-self : goal.invariant_of-self
invariant_of-self c = record {
  sized = c.args.self.now.sized;
  sound =
      quota-still c.args.self.now c.args.d c.args.units c.set_quota.new.self c.set_quota.result c.set_quota.ensures.answer
      c.set_quota.ensures.after (omega arith);
}

pub returns-in_err-set_quota : goal.returns-in_err-set_quota
returns-in_err-set_quota c =
    refused_from answer_of (λ f. refl) _ _ _ c.from_residual.result _ c.from_residual.ensures.1
    (quota-refused c.args.self.now c.args.d c.args.units _ c.in_err-set_quota.field-0.0 (sym c.in_err-set_quota.ensures.answer)
    (unmoved c.args.self.now _ refl refl refl c.in_err-set_quota.ensures.after refl refl))

pub returns : goal.returns
returns c =
    done_did c.args.self.now _ _ c.in_ok-set_quota.field-0
    (quota-done c.args.self.now c.args.d c.args.units c.in_ok-set_quota.field-0 (sym c.in_ok-set_quota.ensures.answer))
    (quota-book c.args.self.now c.args.d c.args.units c.in_ok-set_quota.field-0 (sym c.in_ok-set_quota.ensures.answer)
    c.set_quota.new.self c.in_ok-set_quota.ensures.after)
    (record { size = refl; slop = refl; worst = refl })
