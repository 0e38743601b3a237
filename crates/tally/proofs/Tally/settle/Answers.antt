use Rattle.std.proofs.Common.{List, sym, refl, ap, ◌∙◌}
use Rattle.std.proofs.lemmas.List.{set-get_or}
use Rattle.rules.specs.declared.state.Contents.{Contents}
use Rattle.tree.specs.declared.Tree.{Tree}
use Rattle.tally.specs.Joined.{no_contents, book_in}
use Rattle.tally.specs.Parts.{book_of}
use Rattle.tally.proofs.Turns.{settle-book, settle-sound, settle-units, none-deferred, none-settled, missing_past, there-listed}
use Rattle.tally.proofs.Tally.settle.Goals as goal

pub returns-in-Err : goal.returns-in-Err
returns-in-Err c =
    let past = missing_past c.args.self.now c.args.d c.in-Err.field-0 (sym c.in-Err.ensures.answer) in
    record {
      same = record { size = refl; slop = refl; worst = refl };
      units_are = sym (none-deferred (book_of c.args.self.now) c.args.d past);
      booked =
          ap (λ (x : List Contents). book_in c.lower.new.self x c.args.self.now.transactions)
          (set-get_or c.args.self.now.contents c.from.result no_contents)
          ∙ ap (λ (x : Tree). book_in x c.args.self.now.contents c.args.self.now.transactions) c.in-Err.ensures.after
          ∙ sym (none-settled (book_of c.args.self.now) c.args.d past);
    }

pub invariant_of-self-2 : goal.invariant_of-self-2
invariant_of-self-2 c = record {
  sized = c.args.self.now.sized;
  sound =
      rw (c.from.ensures, c.take.ensures.after)
      (settle-sound c.args.self.now c.args.d (there-listed c.args.self.now c.args.d (sym c.in_default.ensures.answer)) _ refl
      c.lower.new.self (rw c.from.ensures at c.in_default.ensures.after) _ refl);
}

pub returns : goal.returns
returns c =
    let l = there-listed c.args.self.now c.args.d (sym c.in_default.ensures.answer) in
    record {
      same = record { size = refl; slop = refl; worst = refl };
      units_are = rw (c.take.ensures.value, c.from.ensures) (settle-units c.args.self.now c.args.d l _ refl c.lower.new.self (rw c.from.ensures at c.in_default.ensures.after) _ refl);
      booked = rw (c.from.ensures, c.take.ensures.after) (settle-book c.args.self.now c.args.d l _ refl c.lower.new.self (rw c.from.ensures at c.in_default.ensures.after) _ refl);
    }
