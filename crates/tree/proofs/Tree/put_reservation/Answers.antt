-- The change that is put in brings the kept charges to the edited rows.
use Rattle.std.proofs.Common.{refl}
use Rattle.tree.proofs.Ghosts.{reservation-fits, reservation-ghosts, edited-rows, edited_kinds, settled_from, put_reservation}
use Rattle.tree.proofs.Granted.{reserve-within}
use Rattle.tree.proofs.Tree.put_reservation.Goals as goal

pub settle-requires-clause-fits : goal.settle-requires-clause-fits
settle-requires-clause-fits c =
    rw (c.as_mut_slice-nodes.ensures.value, c.reweighing-arrival.ensures)
    (reservation-fits c.args.self.now c.args.d c.args.units c.requires.inside c.requires.below c.requires.allowed
    (reserve-within c.args.self.now c.args.d c.args.units c.requires.inside c.requires.below c.requires.granted))

pub invariant_of-self : goal.invariant_of-self
invariant_of-self c =
    reservation-ghosts c.args.self.now c.args.d c.args.units c.requires.inside c.requires.below c.requires.allowed
    (reserve-within c.args.self.now c.args.d c.args.units c.requires.inside c.requires.below c.requires.granted)
    _ (settled_from _ _ _ _ _ c.as_mut_slice-nodes.ensures.value c.reweighing-arrival.ensures c.settle.ensures) _ c.from.ensures

pub returns : goal.returns
returns c =
    let settled = settled_from _ _ _ _ _ c.as_mut_slice-nodes.ensures.value refl c.settle.ensures in record {
      same_room = refl;
      rows_are = edited-rows c.args.self.now _ settled.places c.args.d _ c.from.ensures (put_reservation c.args.units);
      kinds_are = edited_kinds c.args.self.now _ settled.places c.args.d _ c.from.ensures (put_reservation c.args.units);
    }
