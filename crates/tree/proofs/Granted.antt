-- What the checks of a call establish for the write that follows.
use Rattle.std.proofs.Common.{◌≡◌, ℕ, ◌+◌, ◌^◌, ◌<◌, ◌≤◌, length, ℤ, pos, Some, None, sym, ap, ◌∙◌, arith}
use Rattle.charges.specs.Tree.{row, WithinLimits, with_own, with_reservation, raised}
use Rattle.charges.specs.Walk.{walk}
use Rattle.charges.proofs.Edits.{own-edited, own-set}
use Rattle.charges.proofs.Walks.{rise_law, reserve-law}
use Rattle.charges.proofs.Falls.{fall_law}
use Rattle.charges.proofs.Rises.{excess-law}
use Rattle.tree.specs.declared.Tree.{Tree}
use Rattle.tree.specs.Parts.{room_of, rows_of, charges_of}
use Rattle.tree.specs.Answers.{reservation_walk}
use Rattle.tree.proofs.Fine.{fine, own_in, fine-own}

module _ (t : Tree) (d units : ℕ) (l : d < length (rows_of t)) where
  pub raise_fits : (k : ℤ) → k ≡ pos units → units < 2 ^ 16 → (e s : ℕ) → walk (room_of t) (rows_of t) d k ≡ Some (e, s) → s < 2 ^ 16
  raise_fits k is small e s named =
      (excess-law.by_own (room_of t) (rows_of t) d units t.rooted t.within l small e s (ap (walk (room_of t) (rows_of t) d) (sym is) ∙ named)).1

  pub raise_within : walk (room_of t) (rows_of t) d (pos units) ≡ None → WithinLimits (room_of t) (raised (rows_of t) d units)
  raise_within granted = (rise_law (room_of t) (rows_of t) d units t.rooted t.within l).none.0 granted

  pub raise_sum : walk (room_of t) (rows_of t) d (pos units) ≡ None → (row (rows_of t) d).own + units < 2 ^ 16
  raise_sum granted =
      let x = (row (rows_of t) d).own + units in
      let new = fine-own (room_of t) (rows_of t) (charges_of t) (fine t) d x l (raise_within granted) in
      omega (arith, own_in (room_of t) (with_own (rows_of t) d x) _ new d (omega (arith, (own-edited (rows_of t) d x l).same_length)), own-set (rows_of t) d x l, t.sized)

pub lower-within : (t : Tree) (d x : ℕ) → d < length (rows_of t) → x ≤ (row (rows_of t) d).own → WithinLimits (room_of t) (with_own (rows_of t) d x)
lower-within t d x l le = fall_law.by_own (room_of t) (rows_of t) d x t.rooted t.within l le

pub parent-inside : (t : Tree) (d : ℕ) → d < length (rows_of t) → 0 < d → (row (rows_of t) d).parent < length (rows_of t)
parent-inside t d l gt = omega (arith, t.rooted d gt l)

module _ (t : Tree) (d units : ℕ) (l : d < length (rows_of t)) (gt : 0 < d) where
  pub reserve-fits : units < 2 ^ 16 → (e s : ℕ) → reservation_walk (room_of t) (rows_of t) d units ≡ Some (e, s) → s < 2 ^ 16
  reserve-fits small e s named = (excess-law.by_reservation (room_of t) (rows_of t) d units t.rooted t.within l gt small e s named).1

  pub reserve-within : reservation_walk (room_of t) (rows_of t) d units ≡ None → WithinLimits (room_of t) (with_reservation (rows_of t) d units)
  reserve-within granted = (reserve-law (room_of t) (rows_of t) d units t.rooted t.within l gt).none.0 granted
