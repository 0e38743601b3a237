-- Locality: an edit of own units or of a reservation moves the charges on the path by the signed rule, and no other.
use Rattle.std.proofs.Common.{◌≡◌, ℕ, ◌<◌, List, length, arith}
use Rattle.std.proofs.lemmas.Int.{ints, clamps}
use Rattle.charges.specs.declared.Row.{Row}
use Rattle.charges.specs.Tree.{row, Rooted, charge, with_own, with_reservation}
use Rattle.charges.specs.Laws.{Passes, OwnMoves, ReservationMoves, Locality}
use Rattle.charges.proofs.Paths.{Reaches, on_reaches, reaches_on}
use Rattle.charges.proofs.Paths.Reaches.{here}
use Rattle.charges.proofs.Edits.{own-edited, own-set, own-reservation, reservation-edited, reservation-set, reservation-own}
use Rattle.charges.proofs.Local.{Moves, moves}

-- where the reservation of d stays, the change of its weight is what the rule passes on
pub signed : (rows rows' : List Row) (v d : ℕ) → Moves rows rows' v → Reaches rows v d → 0 < d → (row rows' d).reservation ≡ (row rows d).reservation →
    Passes rows rows' d
signed rows rows' v d m on gt same = omega (arith, ints, clamps, m.upward d on gt)

own-moves : (rows : List Row) (v x : ℕ) → Rooted rows → v < length rows → OwnMoves rows (with_own rows v x) v x
own-moves rows v x rooted h =
    let m = moves rows (with_own rows v x) v rooted h (own-edited rows v x h) in
    record {
      off_path = λ d l off. m.off_path d l (λ p. off (reaches_on rows rooted v d h p));
      at_dataset = omega (arith, ints, m.at_row, own-set rows v x h);
      upward = λ d on gt. signed rows (with_own rows v x) v d m (on_reaches v d on) gt (own-reservation rows v x h d);
    }

reservation-moves : (rows : List Row) (v x : ℕ) → Rooted rows → v < length rows → ReservationMoves rows (with_reservation rows v x) v x
reservation-moves rows v x rooted h =
    let edit = reservation-edited rows v x h in
    let m = moves rows (with_reservation rows v x) v rooted h edit in
    let same : charge (with_reservation rows v x) v ≡ charge rows v = omega (arith, m.at_row, reservation-own rows v x h v) in
    record {
      off_path = λ d l off. m.off_path d l (λ p. off (reaches_on rows rooted v d h p));
      at_dataset = same;
      at_parent = λ gt. omega (arith, ints, m.upward v here gt, reservation-set rows v x h);
      upward = λ d on ne gt. signed rows (with_reservation rows v x) v d m (on_reaches v d on) gt (edit.same_reservation d ne);
    }

pub locality : Locality
locality = record { by_own = own-moves; by_reservation = reservation-moves }
