use Rattle.std.proofs.Common.{ℕ, set, sym, refl, ap, ◌∙◌, arith}
use Rattle.orders.specs.declared.answer.Answer.TheVariants.{Done}
use Rattle.tally.specs.Joined.{book_in}
use Rattle.tally.specs.Faults.{answer_of}
use Rattle.tally.proofs.Sounds.{unmoved, done_did, refused_from}
use Rattle.tally.proofs.Grows.{folder-refused, folder-done, folder-book, folder-sound}
use Rattle.tally.proofs.Tally.folder.Goals as goal

pub returns-in_err-d : goal.returns-in_err-d
returns-in_err-d c =
    refused_from answer_of (λ f. refl) _ _ _ c.from_residual.result _ c.from_residual.ensures.1
    (folder-refused c.args.self.now c.args.parent c.args.name _ c.in_err-d.field-0.0 (sym c.in_err-d.ensures.answer)
    (unmoved c.args.self.now _ refl refl refl c.in_err-d.ensures.after refl refl))

pub invariant_of-self-2 : goal.invariant_of-self-2
invariant_of-self-2 c = record {
  sized = c.args.self.now.sized;
  sound =
      rw c.from.ensures
      (folder-sound c.args.self.now c.args.parent c.args.name c.in_ok-d.d (sym c.in_ok-d.ensures.answer)
      c.add_folder.new.self c.in_ok-d.ensures.after c.empty.result c.empty.ensures (omega arith));
}

pub returns : goal.returns
returns c =
    done_did c.args.self.now _ _ c.from-2.result
    (λ cost.
    folder-done c.args.self.now c.args.parent c.args.name c.in_ok-d.d (sym c.in_ok-d.ensures.answer) cost
    ∙ ap Done (sym c.from-2.ensures))
    (λ cost.
    ap (λ (i : ℕ). book_in c.add_folder.new.self (set c.args.self.now.contents i c.empty.result) c.args.self.now.transactions) c.from.ensures
    ∙ folder-book c.args.self.now c.args.parent c.args.name c.in_ok-d.d (sym c.in_ok-d.ensures.answer)
    c.add_folder.new.self c.in_ok-d.ensures.after c.empty.result c.empty.ensures cost)
    (record { size = refl; slop = refl; worst = refl })
