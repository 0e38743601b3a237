-- The change that is put in brings the kept charges to the edited rows.
use Rattle.std.proofs.Common.{refl, ap, w32, SFits, rules}
use Rattle.std.proofs.lemmas.Int.{to_z-of_z}
use Rattle.tree.specs.declared.step.Arrival.{Arrival}
use Rattle.tree.proofs.Ghosts.{own_arrives, own-fits, own-ghosts, edited-rows, edited_kinds, settled_from, put_own}
use Rattle.tree.proofs.Tree.put_own.Goals as goal

pub settle-requires-clause-fits : goal.settle-requires-clause-fits
settle-requires-clause-fits c =
    let fit : SFits w32 c.moved.result = search rules in
    let arrival = own_arrives c.args.self.now c.args.d c.args.own _ _ _ c.node.ensures.row c.moved.ensures (to_z-of_z w32 c.moved.result fit) in
    rw (c.as_mut_slice-nodes.ensures.value, ap (λ (a : Arrival). a.change) arrival)
    (own-fits c.args.self.now c.args.d c.args.own c.requires.inside c.requires.within)

pub invariant_of-self : goal.invariant_of-self
invariant_of-self c =
    let fit : SFits w32 c.moved.result = search rules in
    let arrival = own_arrives c.args.self.now c.args.d c.args.own _ _ _ c.node.ensures.row c.moved.ensures (to_z-of_z w32 c.moved.result fit) in
    own-ghosts c.args.self.now c.args.d c.args.own c.requires.inside c.requires.within
    _ (settled_from _ _ _ _ _ c.as_mut_slice-nodes.ensures.value arrival c.settle.ensures) _ c.from.ensures

pub returns : goal.returns
returns c =
    let settled = settled_from _ _ _ _ _ c.as_mut_slice-nodes.ensures.value refl c.settle.ensures in record {
      same_room = refl;
      rows_are = edited-rows c.args.self.now _ settled.places c.args.d _ c.from.ensures (put_own c.args.own);
      kinds_are = edited_kinds c.args.self.now _ settled.places c.args.d _ c.from.ensures (put_own c.args.own);
    }
