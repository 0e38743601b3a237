use Rattle.std.proofs.Common.{◌≡◌, List, ◌++◌, map, length, drop, set, refl, ap, ◌∙◌, subst, arith}
use lib.Seq.{take-length}
use Rattle.orders.specs.declared.order.Order.{Order}
use Rattle.orders.specs.Meaning.{meaning}
use Rattle.rules.specs.Served.{served, answers_of}
use Rattle.ledger.specs.Parts.{book_of, figures}
use Rattle.ledger.specs.Serves.{Through}
use Rattle.ledger.proofs.Serving as serving
use Rattle.ledger.proofs.serve.obey_all.Goals as goal

pub loop-i-preserved : goal.loop-i-preserved
loop-i-preserved g c =
    let o = c.obey.ensures in
    serving.sofar_more c.args.ledger.now c.loop-i.ledger c.obey.new.self c.args.orders.now c.args.answers.now c.loop-i.answers _ c.loop-i.i
    _ _ _ refl c.loop-i-test.true c.requires c.loop-i.invariant o.law o.answered o.booked o.figured o.untouched o.lent
    (ap (set c.loop-i.answers c.loop-i.i) c.answer.ensures)

pub returns : goal.returns
returns g c =
    let l₀ = c.args.ledger.now in
    let os = c.args.orders.now in
    let all : c.loop-i.i ≡ length os = omega arith in
    let s = serving.sofar_all l₀ c.loop-i.ledger os c.args.answers.now c.loop-i.answers c.loop-i.i all c.loop-i.invariant in
    let whole = take-length os in
    record {
      through = subst (λ (ys : List Order). Through l₀ c.loop-i.ledger (served (figures l₀) (book_of l₀) (map meaning ys))) whole s.through;
      answered = s.answered ∙ ap (λ (ys : List Order). answers_of (served (figures l₀) (book_of l₀) (map meaning ys)) ++ drop (length os) c.args.answers.now) whole;
    }
