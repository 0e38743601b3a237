use Rattle.std.proofs.Common.{ℕ, ◌-◌, set, sym, refl, ap, ◌∙◌}
use Rattle.tally.specs.Joined.{book_in}
use Rattle.tally.proofs.Writes.{wrote_lowers, wrote-inside, wrote-fits, wrote-book, wrote-sound}
use Rattle.tally.proofs.Tally.wrote.Goals as goal

pub unreachable-requires-in_default-lower : goal.unreachable-requires-in_default-lower
unreachable-requires-in_default-lower c =
    c.in_default-lower.not-Ok tt (c.lower.ensures.answer ∙ wrote_lowers c.args.self.now c.args.t c.args.number c.args.cost c.requires.ready c.requires.cheap c.in-Ok.change (sym c.in-Ok.ensures) c.volume_of-volume.result c.volume_of-volume.ensures)

pub write_record-requires : goal.write_record-requires
write_record-requires c = record {
  inside = rw c.from.ensures (wrote-inside c.args.self.now c.args.t c.args.number c.args.cost c.requires.ready c.requires.cheap c.in-Ok.change (sym c.in-Ok.ensures) c.volume_of-volume.result c.volume_of-volume.ensures);
  fits = rw c.from.ensures (wrote-fits c.args.self.now c.args.t c.args.number c.args.cost c.requires.ready c.requires.cheap c.in-Ok.change (sym c.in-Ok.ensures) c.volume_of-volume.result c.volume_of-volume.ensures);
}

pub invariant_of-self : goal.invariant_of-self
invariant_of-self c = record {
  sized = c.args.self.now.sized;
  sound =
      rw (c.from.ensures, c.from-2.ensures)
      (wrote-sound c.args.self.now c.args.t c.args.number c.args.cost c.requires.ready c.requires.cheap c.in-Ok.change (sym c.in-Ok.ensures) c.volume_of-volume.result c.volume_of-volume.ensures (c.args.self.now.worst - c.args.cost) refl c.lower.new.self c.in-Ok-lower.ensures.after _ (rw c.from.ensures at c.write_record.ensures));
}

pub returns : goal.returns
returns c = record {
  same = record { size = refl; slop = refl; worst = refl };
  booked =
      λ cost size is.
      ap (λ (i : ℕ). book_in c.lower.new.self (set c.args.self.now.contents i c.write_record.new.contents) (set c.args.self.now.transactions c.from-2.result c.in-Ok.change.after)) c.from.ensures
      ∙ ap (λ (i : ℕ). book_in c.lower.new.self (set c.args.self.now.contents c.volume_of-volume.result c.write_record.new.contents) (set c.args.self.now.transactions i c.in-Ok.change.after)) c.from-2.ensures
      ∙ wrote-book c.args.self.now c.args.t c.args.number c.args.cost c.requires.ready c.requires.cheap c.in-Ok.change (sym c.in-Ok.ensures) c.volume_of-volume.result c.volume_of-volume.ensures (c.args.self.now.worst - c.args.cost) refl c.lower.new.self c.in-Ok-lower.ensures.after _ (rw c.from.ensures at c.write_record.ensures) cost size is;
}
