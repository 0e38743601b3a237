use Rattle.std.proofs.Common.{◌∙◌, arith}
use Rattle.tally.proofs.Cuts.{cut_units, cut_few, cut_resized}
use Rattle.tally.proofs.records.cut.Goals as goal

pub total-units-requires : goal.total-units-requires
total-units-requires c =
    omega (
      arith,
      cut_few c.args.contents.now c.requires.shaped c.args.records c.requires.few c.from.result c.from.ensures c.from-2.result (c.from-2.ensures ∙ c.max-end.ensures),
    )

pub overflow_add-contents : goal.overflow_add-contents
overflow_add-contents c =
    omega (
      arith,
      c.total-units.ensures,
      cut_few c.args.contents.now c.requires.shaped c.args.records c.requires.few c.from.result c.from.ensures c.from-2.result (c.from-2.ensures ∙ c.max-end.ensures),
    )

pub returns-clause-units : goal.returns-clause-units
returns-clause-units c =
    c.total-units.ensures
    ∙ cut_units c.args.contents.now c.requires.shaped c.args.records c.requires.few c.from.result c.from.ensures c.from-2.result (c.from-2.ensures ∙ c.max-end.ensures)

pub returns-clause-after : goal.returns-clause-after
returns-clause-after c =
    cut_resized c.args.contents.now c.requires.shaped c.args.records c.requires.few c.from.result c.from.ensures c.from-2.result (c.from-2.ensures ∙ c.max-end.ensures)
    c.fill.new.self c.total-units.result (c.fill.ensures.after (λ y e. e)) c.total-units.ensures
