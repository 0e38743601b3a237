use Rattle.std.proofs.Common.{refl, sym, ◌∙◌}
use Rattle.tally.specs.Faults.{told_of}
use Rattle.tally.proofs.Sounds.{refused_from}
use Rattle.tally.proofs.Tells.{tell-refused, told_few, told_records, told_units, told_grants, tell_told}
use Rattle.tally.proofs.Tally.tell.Goals as goal

pub returns-in_err-charge : goal.returns-in_err-charge
returns-in_err-charge c =
    refused_from told_of (λ f. refl) _ _ _ c.from_residual.result _ c.from_residual.ensures.1
    (tell-refused c.args.self.now c.args.d c.in_err-charge.field-0.0 (sym c.in_err-charge.ensures))

pub shared_ref_as_front-total : goal.shared_ref_as_front-total
shared_ref_as_front-total c =
    rw c.from-2.ensures (rw c.from.ensures (told_few c.args.self.now c.args.d c.in_ok-charge.charge (sym c.in_ok-charge.ensures)))

pub total-requires : goal.total-requires
total-requires c = rw c.from-2.ensures (rw c.from.ensures (told_units c.args.self.now c.args.d c.in_ok-charge.charge (sym c.in_ok-charge.ensures)))

pub grants-requires : goal.grants-requires
grants-requires c = told_grants c.args.self.now c.args.d c.in_ok-charge.charge (sym c.in_ok-charge.ensures)

pub returns : goal.returns
returns c =
    rw c.from.ensures
    (tell_told c.args.self.now c.args.d c.in_ok-charge.charge (sym c.in_ok-charge.ensures)
    c.total.result c.grants.result
    ((rw c.from.ensures at (rw c.from-2.ensures at c.total.ensures)) ∙ told_records c.args.self.now c.args.d c.in_ok-charge.charge (sym c.in_ok-charge.ensures))
    c.grants.ensures)
