-- A new dataset with nothing in it adds to no charge.
use Rattle.std.proofs.Common.{◌≡◌, ℕ, suc, ◌+◌, ◌<◌, Bool, true, false, cond, eqb, List, [], ◌∷◌, ◌++◌, length, drop, refl, inl, inr, arith}
use Rattle.std.proofs.lemmas.List.{length_push, get_or_push, get_or_append_left, drop-append-le, drop_all}
use Rattle.std.proofs.lemmas.Bool.{cases_lt}
use Rattle.charges.specs.declared.Row.{Row}
use Rattle.charges.specs.Amounts.{weight_of}
use Rattle.charges.specs.Tree.{blank, Rooted, load, charge, limit, WithinLimits}
use Rattle.charges.specs.Laws.{AddLaw}
use Rattle.charges.proofs.Limits.{nothing-within}

cond-none : (b : Bool) (x : ℕ) → x ≡ 0 → cond b x 0 ≡ 0
cond-none true x e = e
cond-none false x e = refl

module _ (new : Row) (no-reservation : new.reservation ≡ 0) (no_own : new.own ≡ 0) where
  load-new : (i : ℕ) (rows : List Row) (p : ℕ) → load i (rows ++ new ∷ []) p ≡ load i rows p
  unfolding load
  load-new i [] p = omega (arith, cond-none (eqb new.parent p) (weight_of (new.own + 0) new.reservation) (omega arith))
  load-new i (r ∷ rows) p = rw (load-new (suc i) rows i, load-new (suc i) rows p)

  pub charge-new : (rows : List Row) (d : ℕ) → d < length rows → charge (rows ++ new ∷ []) d ≡ charge rows d
  unfolding charge
  charge-new rows d l = rw (get_or_append_left rows (new ∷ []) blank d l, drop-append-le (suc d) rows (new ∷ []) l, load-new (suc d) (drop (suc d) rows) d)

  pub charge-last : (rows : List Row) → charge (rows ++ new ∷ []) (length rows) ≡ 0
  unfolding charge load
  charge-last rows =
      rw (get_or_push rows new blank (length rows) refl, drop_all (suc (length rows)) (rows ++ new ∷ []) (omega (arith, length_push rows new))) (omega arith)

  within_new : (rows : List Row) (room : ℕ) → WithinLimits room rows → WithinLimits room (rows ++ new ∷ [])
  within_new rows room within d l = elim (cases_lt d (length rows)) [
    | inl d< ↦ rw (get_or_append_left rows (new ∷ []) blank d d<, charge-new rows d d<) (within d d<)
    | inr ≤d ↦
        let last : d ≡ length rows = omega (arith, length_push rows new) in
        nothing-within (limit room (rows ++ new ∷ []) d) (charge (rows ++ new ∷ []) d) (rw last (charge-last rows))
  ]

rooted-new : (rows : List Row) (new : Row) → Rooted rows → new.parent < length rows → Rooted (rows ++ new ∷ [])
rooted-new rows new rooted parent k gt l = elim (cases_lt k (length rows)) [
  | inl k< ↦ rw (get_or_append_left rows (new ∷ []) blank k k<) (rooted k gt k<)
  | inr ≤k ↦
      let last : k ≡ length rows = omega (arith, length_push rows new) in
      rw (last, get_or_push rows new blank (length rows) refl) parent
]

pub add_law : AddLaw
add_law rows new rooted parent no-reservation no_own = record {
  rooted = rooted-new rows new rooted parent;
  same_charge = charge-new new no-reservation no_own rows;
  new_charge = charge-last new no-reservation no_own rows;
  still_within = λ room within. within_new new no-reservation no_own rows room within;
}
