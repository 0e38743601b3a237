-- A fall passes no limit, and a quota set anew moves no charge.
use Rattle.std.proofs.Common.{◌≡◌, ℕ, ◌<◌, ◌≤◌, ◌≢◌, List, length, inl, inr, arith}
use Rattle.std.proofs.lemmas.Bool.{cases_eq}
use Rattle.charges.specs.declared.Row.{Row}
use Rattle.charges.specs.Tree.{row, Rooted, charge, limit, WithinLimits, with_own, with_reservation, with_quota}
use Rattle.charges.specs.Laws.{FallLaw, QuotaLaw}
use Rattle.charges.proofs.Limits.{less_excess, excess-quota, excess-none}
use Rattle.charges.proofs.Paths.{path_ind, path_cases}
use Rattle.charges.proofs.Paths.Reaches.{here}
use Rattle.charges.proofs.Edits.{Edited, own-edited, own-set, own-reservation, own-quota, reservation-edited, reservation-set, reservation-own, reservation-quota, quota-edited, quota-set, quota-elsewhere, quota-own, quota-reservation}
use Rattle.charges.proofs.Local.{moves}

module _ (rows rows' : List Row) (v : ℕ) (rooted : Rooted rows) (h : v < length rows) (edit : Edited rows rows' v) where
  -- no charge rises where neither the own units nor the reservation do
  falls : (row rows' v).own ≤ (row rows v).own → (row rows' v).reservation ≤ (row rows v).reservation → (d : ℕ) → d < length rows → charge rows' d ≤ charge rows d
  falls less-own less-reservation d l =
      let m = moves rows rows' v rooted h edit in
      let reservation-le : (k : ℕ) → (row rows' k).reservation ≤ (row rows k).reservation =
      λ k. elim (cases_eq k v) [ inl e ↦ rw e less-reservation | inr ne ↦ omega (arith, edit.same_reservation k ne) ] in
      elim (path_cases rows rooted v d h) [
        | inl p ↦
            path_ind rows v (λ k. charge rows' k ≤ charge rows k) (λ k on gt le. omega (arith, m.upward k on gt, reservation-le k)) v d here
            (omega (arith, m.at_row)) p
        | inr off ↦ omega (arith, m.off_path d l off)
      ]

  fall_within : (room : ℕ) → WithinLimits room rows → ((k : ℕ) → (row rows' k).quota ≡ (row rows k).quota) →
      (row rows' v).own ≤ (row rows v).own → (row rows' v).reservation ≤ (row rows v).reservation → WithinLimits room rows'
  fall_within room within quotas less-own less-reservation d l =
      let lt : d < length rows = omega (arith, edit.same_length) in
      rw (quotas d) (less_excess (limit room rows d) (charge rows' d) (charge rows d) (falls less-own less-reservation d lt) (within d lt))

  -- nothing moves where both stay
  stays : (row rows' v).own ≡ (row rows v).own → ((k : ℕ) → (row rows' k).reservation ≡ (row rows k).reservation) → (d : ℕ) → d < length rows → charge rows' d ≡ charge rows d
  stays same_own same_reservation d l =
      let m = moves rows rows' v rooted h edit in
      elim (path_cases rows rooted v d h) [
        | inl p ↦
            path_ind rows v (λ k. charge rows' k ≡ charge rows k) (λ k on gt same. omega (arith, m.upward k on gt, same_reservation k)) v d here
            (omega (arith, m.at_row)) p
        | inr off ↦ m.off_path d l off
      ]

pub fall_law : FallLaw
fall_law = record {
  by_own = λ room rows v x rooted within h le.
      fall_within rows (with_own rows v x) v rooted h (own-edited rows v x h) room within (own-quota rows v x h)
      (omega (arith, own-set rows v x h)) (omega (arith, own-reservation rows v x h v));
  by_reservation = λ room rows v x rooted within h le.
      fall_within rows (with_reservation rows v x) v rooted h (reservation-edited rows v x h) room within (reservation-quota rows v x h)
      (omega (arith, reservation-own rows v x h v)) (omega (arith, reservation-set rows v x h));
}

pub quota-charge : (rows : List Row) (v x : ℕ) → Rooted rows → v < length rows → (d : ℕ) → d < length rows → charge (with_quota rows v x) d ≡ charge rows d
quota-charge rows v x rooted h = stays rows (with_quota rows v x) v rooted h (quota-edited rows v x h) (quota-own rows v x h v) (quota-reservation rows v x h)

quota-within : (room : ℕ) (rows : List Row) (v x : ℕ) → Rooted rows → v < length rows → 0 < v → WithinLimits room rows → (x ≢ 0 → charge rows v ≤ x) →
    WithinLimits room (with_quota rows v x)
quota-within room rows v x rooted h gt within fits d l =
    let lt : d < length rows = omega (arith, (quota-edited rows v x h).same_length) in
    elim (cases_eq d v) [
      | inl e ↦ rw (e, quota-set rows v x h, quota-charge rows v x rooted h v h) (elim (cases_eq x 0) [
        | inl none ↦ excess-none room v x (charge rows v) gt none
        | inr some ↦ omega (arith, excess-quota room v x (charge rows v) gt some, fits some)
      ])
      | inr ne ↦ rw (quota-elsewhere rows v x h d ne, quota-charge rows v x rooted h d lt) (within d lt)
    ]

pub quota-law : QuotaLaw
quota-law rows v x rooted h gt = record {
  same_charge = quota-charge rows v x rooted h;
  still_within = λ room within fits. quota-within room rows v x rooted h gt within fits;
}
