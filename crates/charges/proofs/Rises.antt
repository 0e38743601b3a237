-- How far a rise goes: it never grows on its way up, an unspent reservation that covers it stops it, and an excess is at most the rise.
use Rattle.std.proofs.Common.{◌≡◌, ℕ, ◌+◌, ◌<◌, ◌≤◌, List, ◌∷◌, length, pos, Some, sym, ap, ◌∙◌, inl, inr, arith}
use Rattle.std.proofs.ByRecursion.{has_append_right}
use Rattle.std.proofs.lemmas.Bool.{cases_lt}
use Rattle.charges.specs.declared.Row.{Row}
use Rattle.charges.specs.Amounts.{limit_of, excess, reweighed}
use Rattle.charges.specs.Tree.{row, Rooted, charge, unspent, limit, Within, WithinLimits, Reserved, path, with_reservation, raised}
use Rattle.charges.specs.Walk.{walk, Nearest}
use Rattle.charges.specs.Laws.{Sheltered, Shelter, ExcessLaw}
use Rattle.charges.proofs.Limits.{less_excess, excess_rise, reserved-within}
use Rattle.charges.proofs.Paths.{Reaches, path_le, path_ind, path_trans, has_first, on_reaches}
use Rattle.charges.proofs.Paths.Reaches.{here, up}
use Rattle.charges.proofs.Edits.{own-edited, own-set, own-quota, own-reservation, reservation-edited, reservation-set, reservation-own, reservation-quota}
use Rattle.charges.proofs.Local.{Moves, moves}
use Rattle.charges.proofs.Walks.{rise_law, reserve-law}

-- a rise never grows on its way up
pub no_more : (rows rows' : List Row) (v start c : ℕ) → Rooted rows → start < length rows → Moves rows rows' v → Reaches rows v start →
    ((k : ℕ) → k ≤ start → (row rows' k).reservation ≡ (row rows k).reservation) → charge rows' start ≤ charge rows start + c →
    (e : ℕ) → Reaches rows start e → charge rows' e ≤ charge rows e + c
no_more rows rows' v start c rooted l m from same base e p =
    path_ind rows start (λ k. charge rows' k ≤ charge rows k + c)
    (λ k on gt le. omega (arith, m.upward k (path_trans from on) gt, same k (path_le rows rooted start k l on))) start e here base p

-- nor does it become a fall
pub no_less : (rows rows' : List Row) (v start : ℕ) → Rooted rows → start < length rows → Moves rows rows' v → Reaches rows v start →
    ((k : ℕ) → k ≤ start → (row rows' k).reservation ≡ (row rows k).reservation) → charge rows start ≤ charge rows' start →
    (e : ℕ) → Reaches rows start e → charge rows e ≤ charge rows' e
no_less rows rows' v start rooted l m from same base e p =
    path_ind rows start (λ k. charge rows k ≤ charge rows' k)
    (λ k on gt le. omega (arith, m.upward k (path_trans from on) gt, same k (path_le rows rooted start k l on))) start e here base p

-- the dataset that is named is on the path
nearest_on : (room : ℕ) (rows rows' : List Row) (v d s : ℕ) → Nearest room rows' (path rows v) d s → Reaches rows v d
nearest_on room rows rows' v d s n =
    on_reaches v d (rw n.order (has_append_right n.before (d ∷ n.above) d (has_first d n.above)))

nearest_excess : (room : ℕ) (rows rows' : List Row) (ds : List ℕ) (d s c : ℕ) → WithinLimits room rows → d < length rows →
    ((k : ℕ) → (row rows' k).quota ≡ (row rows k).quota) → charge rows' d ≤ charge rows d + c → Nearest room rows' ds d s → s ≤ c
nearest_excess room rows rows' ds d s c within l quotas le n =
    let same : limit room rows' d ≡ limit room rows d = ap (limit_of room d) (quotas d) in
    let exact : excess (limit room rows d) (charge rows' d) ≡ s = ap (λ x. excess x (charge rows' d)) (sym same) ∙ n.exact in
    omega (arith, excess_rise (limit room rows d) (charge rows d) (charge rows' d) c le (within d l))

module _ (room : ℕ) (rows : List Row) (v c : ℕ) (rooted : Rooted rows) (within : WithinLimits room rows) (h : v < length rows) where
  own-moves : Moves rows (raised rows v c) v
  own-moves = moves rows (raised rows v c) v rooted h (own-edited rows v ((row rows v).own + c) h)

  own_same : (k : ℕ) → (row (raised rows v c) k).reservation ≡ (row rows k).reservation
  own_same = own-reservation rows v ((row rows v).own + c) h

  own-start : charge (raised rows v c) v ≡ charge rows v + c
  own-start = omega (arith, own-moves.at_row, own-set rows v ((row rows v).own + c) h)

  pub own_no_more : (e : ℕ) → Reaches rows v e → charge (raised rows v c) e ≤ charge rows e + c
  own_no_more = no_more rows (raised rows v c) v v c rooted h own-moves here (λ k l. own_same k) (omega (arith, own-start))

  pub own_no_less : (e : ℕ) → Reaches rows v e → charge rows e ≤ charge (raised rows v c) e
  own_no_less = no_less rows (raised rows v c) v v rooted h own-moves here (λ k l. own_same k) (omega (arith, own-start))

  own-excess : (d s : ℕ) → walk room rows v (pos c) ≡ Some (d, s) → s ≤ c
  own-excess d s named =
      let n = ((rise_law room rows v c rooted within h).some d s).0 named in
      let on = nearest_on room rows (raised rows v c) v d s n in
      nearest_excess room rows (raised rows v c) (path rows v) d s c within (omega (arith, path_le rows rooted v d h on))
      (own-quota rows v ((row rows v).own + c) h) (own_no_more d on) n

reservation-excess : (room : ℕ) (rows : List Row) (v x : ℕ) → Rooted rows → WithinLimits room rows → v < length rows → 0 < v → (d s : ℕ) →
    walk room rows (row rows v).parent (reweighed (charge rows v) (row rows v).reservation x) ≡ Some (d, s) → s ≤ x
reservation-excess room rows v x rooted within h gt d s named =
    let rows' = with_reservation rows v x in
    let q = (row rows v).parent in
    let below : q < v = rooted v gt h in
    let edit = reservation-edited rows v x h in
    let m = moves rows rows' v rooted h edit in
    let start : charge rows' q ≤ charge rows q + x =
    omega (arith, m.upward v here gt, m.at_row, reservation-own rows v x h v, reservation-set rows v x h) in
    let n = ((reserve-law room rows v x rooted within h gt).some d s).0 named in
    let on = nearest_on room rows rows' q d s n in
    let risen = no_more rows rows' v q x rooted (omega arith) m (up gt here) (λ k l. edit.same_reservation k (omega arith)) start d on in
    nearest_excess room rows rows' (path rows q) d s x within (omega (arith, path_le rows rooted q d (omega arith) on)) (reservation-quota rows v x h) risen n

pub excess-law : ExcessLaw
excess-law = record {
  by_own = λ room rows v c rooted within h small d s named.
      let le : s ≤ c = own-excess room rows v c rooted within h d s named in (le, omega arith);
  by_reservation = λ room rows v x rooted within h gt small d s named.
      let le : s ≤ x = reservation-excess room rows v x rooted within h gt d s named in (le, omega arith);
}

module _ (room : ℕ) (rows : List Row) (v c : ℕ) (rooted : Rooted rows) (within : WithinLimits room rows) (reserved : Reserved rows) (h : v < length rows)
    (d : ℕ) (on : Reaches rows v d) (covers : c ≤ unspent rows d) where
  unmoved : 0 < d → (e : ℕ) → Reaches rows (row rows d).parent e → charge (raised rows v c) e ≡ charge rows e
  unmoved gt e p =
      let m = own-moves room rows v c rooted within h in
      let low = own_no_less room rows v c rooted within h d on in
      let high = own_no_more room rows v c rooted within h d on in
      path_ind rows (row rows d).parent (λ k. charge (raised rows v c) k ≡ charge rows k)
      (λ k on-k gt-k same. omega (arith, m.upward k (path_trans on (up gt on-k)) gt-k, own_same room rows v c rooted within h k))
      (row rows d).parent e here (omega (arith, m.upward d on gt, own_same room rows v c rooted within h d)) p

  kept-within : (e : ℕ) → e < length rows → excess (limit room rows e) (charge (raised rows v c) e) ≡ 0 → Within room (raised rows v c) e
  kept-within e l w = rw (own-quota rows v ((row rows v).own + c) h e) w

  low : (e : ℕ) → Reaches rows d e → e < length rows
  low e p = omega (arith, path_le rows rooted v e h (path_trans on p))

  at_d : excess (limit room rows d) (charge (raised rows v c) d) ≡ 0
  at_d =
      let high = own_no_more room rows v c rooted within h d on in
      let l : d < length rows = low d here in
      elim (cases_lt 0 c) [
        | inl some ↦
            let gt : 0 < d = elim (cases_lt 0 d) [
              | inl gt ↦ gt
              | inr root ↦ let is-root : d ≡ 0 = omega arith in absurd (omega (arith, rw is-root at covers, reserved.root_none))
            ] in
            reserved-within room rows d (charge (raised rows v c) d) reserved l gt (omega arith)
        | inr none ↦ less_excess (limit room rows d) (charge (raised rows v c) d) (charge rows d) (omega arith) (within d l)
      ]

  all_above : (e : ℕ) → Reaches rows d e → excess (limit room rows e) (charge (raised rows v c) e) ≡ 0
  all_above e here = at_d
  all_above e (up gt p) = ap (excess (limit room rows e)) (unmoved gt e p) ∙ within e (low e (up gt p))

  pub sheltered : Sheltered room rows v c d
  sheltered = record {
    same_above = λ gt e on-e. unmoved gt e (on_reaches (row rows d).parent e on-e);
    not_named = λ e s on-e named.
        let p = on_reaches d e on-e in
        let n = ((rise_law room rows v c rooted within h).some e s).0 named in
        omega (arith, n.passes, n.exact, kept-within e (low e p) (all_above e p));
  }

pub shelter : Shelter
shelter room rows v c rooted within reserved h d on covers = sheltered room rows v c rooted within reserved h d (on_reaches v d on) covers
