use Rattle.std.proofs.Common.{ℕ, set, sym, refl, ap, ◌∙◌}
use Rattle.tally.specs.Joined.{book_in}
use Rattle.tally.proofs.Sounds.{done_did}
use Rattle.tally.proofs.Grants.{commit_lowers, commit-done, commit-book, commit-sound}
use Rattle.tally.proofs.Tally.commit.Goals as goal

pub unreachable-requires : goal.unreachable-requires
unreachable-requires c =
    c.in_default.not-Ok tt
    (c.lower.ensures.answer
    ∙ commit_lowers c.args.self.now c.args.t c.in_ok-change.change (sym c.in_ok-change.ensures)
    c.volume_of.result c.estimate-units.result c.volume_of.ensures c.estimate-units.ensures)

pub invariant_of-self : goal.invariant_of-self
invariant_of-self c = record {
  sized = c.args.self.now.sized;
  sound =
      rw c.from.ensures
      (commit-sound c.args.self.now c.args.t c.in_ok-change.change (sym c.in_ok-change.ensures)
      c.volume_of.result c.estimate-units.result c.volume_of.ensures c.estimate-units.ensures
      c.lower.new.self c.in-Ok.ensures.after);
}

pub returns : goal.returns
returns c =
    done_did c.args.self.now _ _ c.estimate-units.result
    (commit-done c.args.self.now c.args.t c.in_ok-change.change (sym c.in_ok-change.ensures)
    c.volume_of.result c.estimate-units.result c.volume_of.ensures c.estimate-units.ensures)
    (λ cost.
    ap (λ (i : ℕ). book_in c.lower.new.self c.args.self.now.contents (set c.args.self.now.transactions i c.in_ok-change.change.after)) c.from.ensures
    ∙ commit-book c.args.self.now c.args.t c.in_ok-change.change (sym c.in_ok-change.ensures)
    c.volume_of.result c.estimate-units.result c.volume_of.ensures c.estimate-units.ensures
    c.lower.new.self c.in-Ok.ensures.after cost)
    (record { size = refl; slop = refl; worst = refl })
