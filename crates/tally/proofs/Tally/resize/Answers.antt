use Rattle.std.proofs.Common.{ℕ, set, sym, refl, ap, ◌∙◌}
use Rattle.tally.specs.Joined.{book_in}
use Rattle.tally.specs.Parts.{resized_of}
use Rattle.tally.proofs.Sounds.{done_did, refused_from}
use Rattle.tally.proofs.Cuts.{resize_no_volume, resize-wrong-count, resize-shaped, resize-fits, resize-old, resize-done, resize-book, resize-sound}
use Rattle.tally.proofs.Tally.resize.Goals as goal

pub returns-in_err-volume-clause-did : goal.returns-in_err-volume-clause-did
returns-in_err-volume-clause-did c =
    refused_from resized_of (λ f. refl) _ _ _ c.from_residual.result _ c.from_residual.ensures.1
    (resize_no_volume c.args.self.now c.args.volume c.args.records c.in_err-volume.field-0.0 (sym c.in_err-volume.ensures))

pub returns-in_err-check_records-clause-did : goal.returns-in_err-check_records-clause-did
returns-in_err-check_records-clause-did c =
    refused_from resized_of (λ f. refl) _ _ _ c.from_residual-in_err-check_records.result _ c.from_residual-in_err-check_records.ensures.1
    (resize-wrong-count c.args.self.now c.args.volume c.args.records (sym c.in_ok-volume.ensures) c.in_err-check_records.field-0.0 (sym c.in_err-check_records.ensures))

pub cut-units-requires-clause-shaped : goal.cut-units-requires-clause-shaped
cut-units-requires-clause-shaped c = rw c.from.ensures (resize-shaped c.args.self.now c.args.volume c.args.records (sym c.in_ok-volume.ensures) (sym c.in_ok-check_records.ensures))

pub cut-units-requires-clause-fits : goal.cut-units-requires-clause-fits
cut-units-requires-clause-fits c = rw c.from.ensures (resize-fits c.args.self.now c.args.volume c.args.records (sym c.in_ok-volume.ensures) (sym c.in_ok-check_records.ensures))

pub invariant_of-self : goal.invariant_of-self
invariant_of-self c = record {
  sized = c.args.self.now.sized;
  sound =
      rw c.from.ensures
      (resize-sound c.args.self.now c.args.volume c.args.records (sym c.in_ok-volume.ensures) (sym c.in_ok-check_records.ensures) _ (rw c.from.ensures at c.cut-units.ensures.after));
}

pub returns : goal.returns
returns c = record {
  did =
      done_did c.args.self.now _ _ c.cut-units.result
      (resize-done c.args.self.now c.args.volume c.args.records (sym c.in_ok-volume.ensures) (sym c.in_ok-check_records.ensures) c.cut-units.result (rw c.from.ensures at c.cut-units.ensures.units))
      (λ cost.
      ap (λ (i : ℕ). book_in c.args.self.now.tree (set c.args.self.now.contents i c.cut-units.new.contents) c.args.self.now.transactions) c.from.ensures
      ∙ resize-book c.args.self.now c.args.volume c.args.records (sym c.in_ok-volume.ensures) (sym c.in_ok-check_records.ensures) _ (rw c.from.ensures at c.cut-units.ensures.after) cost)
      (record { size = refl; slop = refl; worst = refl });
  old = rw c.from.ensures (resize-old c.args.self.now c.args.volume c.args.records (sym c.in_ok-volume.ensures) (sym c.in_ok-check_records.ensures));
}
