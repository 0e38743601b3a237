use Rattle.std.proofs.Common.{ℕ, set, sym, refl, ap, ◌∙◌}
use Rattle.orders.specs.declared.answer.Answer.TheVariants.{Done}
use Rattle.tally.specs.Joined.{book_in}
use Rattle.tally.specs.Parts.{freed_of}
use Rattle.tally.proofs.Sounds.{done_did, refused_from}
use Rattle.tally.proofs.Writes.{free_table, free-refused, free-done, free-inside, free-fits, free-book, free-sound}
use Rattle.tally.proofs.Tally.free.Goals as goal

pub check_record-requires : goal.check_record-requires
check_record-requires c =
    free_table c.args.self.now c.args.t c.args.number c.in_ok-change.change (sym c.in_ok-change.ensures) c.volume_of-volume.result c.volume_of-volume.ensures

pub returns-in_err-check_record-clause-did : goal.returns-in_err-check_record-clause-did
returns-in_err-check_record-clause-did c =
    refused_from freed_of (λ f. refl) _ _ _ c.from_residual-in_err-check_record.result _ c.from_residual-in_err-check_record.ensures.1
    (free-refused c.args.self.now c.args.t c.args.number c.in_ok-change.change (sym c.in_ok-change.ensures) c.volume_of-volume.result c.volume_of-volume.ensures c.in_err-check_record.field-0.0 (sym c.in_err-check_record.ensures))

pub empty_record-units-requires : goal.empty_record-units-requires
empty_record-units-requires c = record {
  inside = rw c.from.ensures (free-inside c.args.self.now c.args.t c.args.number c.in_ok-change.change (sym c.in_ok-change.ensures) c.volume_of-volume.result c.volume_of-volume.ensures (sym c.in_ok-check_record.ensures));
  fits = rw c.from.ensures (free-fits c.args.self.now c.args.t c.args.number c.in_ok-change.change (sym c.in_ok-change.ensures) c.volume_of-volume.result c.volume_of-volume.ensures (sym c.in_ok-check_record.ensures));
}

pub invariant_of-self : goal.invariant_of-self
invariant_of-self c = record {
  sized = c.args.self.now.sized;
  sound =
      rw (c.from.ensures, c.from-2.ensures)
      (free-sound c.args.self.now c.args.t c.args.number c.in_ok-change.change (sym c.in_ok-change.ensures) c.volume_of-volume.result c.volume_of-volume.ensures (sym c.in_ok-check_record.ensures) _ (rw c.from.ensures at c.empty_record-units.ensures.after));
}

pub returns-clause-did : goal.returns-clause-did
returns-clause-did c =
    done_did c.args.self.now _ _ c.empty_record-units.result
    (λ cost.
    free-done c.args.self.now c.args.t c.args.number c.in_ok-change.change (sym c.in_ok-change.ensures) c.volume_of-volume.result c.volume_of-volume.ensures (sym c.in_ok-check_record.ensures) cost
    ∙ ap Done (sym (rw c.from.ensures at c.empty_record-units.ensures.units)))
    (λ cost.
    ap (λ (i : ℕ). book_in c.args.self.now.tree (set c.args.self.now.contents i c.empty_record-units.new.contents) (set c.args.self.now.transactions c.from-2.result c.in_ok-change.change.after)) c.from.ensures
    ∙ ap (λ (i : ℕ). book_in c.args.self.now.tree (set c.args.self.now.contents c.volume_of-volume.result c.empty_record-units.new.contents) (set c.args.self.now.transactions i c.in_ok-change.change.after)) c.from-2.ensures
    ∙ free-book c.args.self.now c.args.t c.args.number c.in_ok-change.change (sym c.in_ok-change.ensures) c.volume_of-volume.result c.volume_of-volume.ensures (sym c.in_ok-check_record.ensures) _ (rw c.from.ensures at c.empty_record-units.ensures.after) cost)
    (record { size = refl; slop = refl; worst = refl })
