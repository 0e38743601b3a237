use Rattle.std.proofs.Common.{◌≡◌, ℕ, length, sym, ap, ◌∙◌}
use Rattle.std.proofs.lemmas.List.{length-map}
use Rattle.orders.specs.Meaning.{meaning}
use Rattle.ledger.specs.Serves.{serve_answer}
use Rattle.ledger.proofs.Serving as serving
use Rattle.ledger.proofs.serve.serve.Goals as goal

pub returns : goal.returns
returns g c =
    let us = g.A.Allocator.units c.args.pool in
    let said : c.check_serving.result ≡ serve_answer c.args.slop us (length c.args.orders.now) (length c.args.answers.now) = c.check_serving.ensures in
    let o = c.obey_all.ensures in (
      ap (λ (n : ℕ). serve_answer c.args.slop us n (length c.args.answers.now)) (length-map c.args.orders.now meaning) ∙ (sym said ∙ c.in_default.is),
      serving.all-served c.make-ledger.result c.obey_all.new.ledger c.args.pool c.args.policy c.args.slop c.args.orders.now c.args.answers.now c.obey_all.new.answers
          c.make-ledger.ensures.made c.make-ledger.ensures.stands o.through o.answered,
    )
