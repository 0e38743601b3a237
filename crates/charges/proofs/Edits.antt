-- Rows with one of them set anew: what the edit leaves, and that the paths stay.
use Rattle.std.proofs.Common.{◌≡◌, ℕ, zero, suc, ◌<◌, ◌≢◌, List, length, set, refl, ap, ◌∙◌, inl, inr, arith}
use Rattle.std.proofs.lemmas.List.{length-set, get_or-set_same, get_or-set_other}
use Rattle.std.proofs.lemmas.Bool.{cases_eq}
use Rattle.charges.specs.declared.Row.{Row}
use Rattle.charges.specs.Tree.{blank, row, Rooted, climb, path, with_own, with_reservation, with_quota}
use Rattle.charges.specs.Laws.{SameShape, ShapeLaw}
use Rattle.charges.proofs.Paths.{Reaches}
use Rattle.charges.proofs.Paths.Reaches.{here, up}

-- rows' is rows with the own units, the reservation or the quota of v changed, up or down
pub record Edited (rows rows' : List Row) (v : ℕ) : Type 0 where
  pub same_length : length rows' ≡ length rows
  pub same_parent : (k : ℕ) → (row rows' k).parent ≡ (row rows k).parent
  pub same_own : (k : ℕ) → k ≢ v → (row rows' k).own ≡ (row rows k).own
  pub same_reservation : (k : ℕ) → k ≢ v → (row rows' k).reservation ≡ (row rows k).reservation

module _ (rows : List Row) (v : ℕ) (r : Row) (h : v < length rows) where
  elsewhere : (k : ℕ) → k ≢ v → row (set rows v r) k ≡ row rows k
  elsewhere k ne = get_or-set_other rows v k r blank ne

  at_v : (f : Row → ℕ) → f (row (set rows v r) v) ≡ f r
  at_v f = ap f (get_or-set_same rows v r blank h)

  -- a field that is set to what it was
  kept : (f : Row → ℕ) → f r ≡ f (row rows v) → (k : ℕ) → f (row (set rows v r) k) ≡ f (row rows k)
  kept f same k = elim (cases_eq k v) [ inl e ↦ rw e (at_v f ∙ same) | inr ne ↦ ap f (elsewhere k ne) ]

  set-edited : r.parent ≡ (row rows v).parent → Edited rows (set rows v r) v
  set-edited same_parent = record {
    same_length = length-set rows v r;
    same_parent = kept (λ r. r.parent) same_parent;
    same_own = λ k ne. ap (λ (r : Row). r.own) (elsewhere k ne);
    same_reservation = λ k ne. ap (λ (r : Row). r.reservation) (elsewhere k ne);
  }

module _ (rows : List Row) (v x : ℕ) (h : v < length rows) where
  pub own-edited : Edited rows (with_own rows v x) v
  own-edited = set-edited rows v _ h refl

  pub own-set : (row (with_own rows v x) v).own ≡ x
  own-set = at_v rows v _ h (λ r. r.own)

  pub own-reservation : (k : ℕ) → (row (with_own rows v x) k).reservation ≡ (row rows k).reservation
  own-reservation = kept rows v _ h (λ r. r.reservation) refl

  pub own-quota : (k : ℕ) → (row (with_own rows v x) k).quota ≡ (row rows k).quota
  own-quota = kept rows v _ h (λ r. r.quota) refl

  pub reservation-edited : Edited rows (with_reservation rows v x) v
  reservation-edited = set-edited rows v _ h refl

  pub reservation-set : (row (with_reservation rows v x) v).reservation ≡ x
  reservation-set = at_v rows v _ h (λ r. r.reservation)

  pub reservation-own : (k : ℕ) → (row (with_reservation rows v x) k).own ≡ (row rows k).own
  reservation-own = kept rows v _ h (λ r. r.own) refl

  pub reservation-quota : (k : ℕ) → (row (with_reservation rows v x) k).quota ≡ (row rows k).quota
  reservation-quota = kept rows v _ h (λ r. r.quota) refl

  pub quota-edited : Edited rows (with_quota rows v x) v
  quota-edited = set-edited rows v _ h refl

  pub quota-set : (row (with_quota rows v x) v).quota ≡ x
  quota-set = at_v rows v _ h (λ r. r.quota)

  pub quota-elsewhere : (k : ℕ) → k ≢ v → (row (with_quota rows v x) k).quota ≡ (row rows k).quota
  quota-elsewhere k ne = ap (λ (r : Row). r.quota) (elsewhere rows v _ h k ne)

  pub quota-own : (k : ℕ) → (row (with_quota rows v x) k).own ≡ (row rows k).own
  quota-own = kept rows v _ h (λ r. r.own) refl

  pub quota-reservation : (k : ℕ) → (row (with_quota rows v x) k).reservation ≡ (row rows k).reservation
  quota-reservation = kept rows v _ h (λ r. r.reservation) refl

module _ (rows rows' : List Row) (v : ℕ) (edit : Edited rows rows' v) where
  pub rooted' : Rooted rows → Rooted rows'
  rooted' rooted k gt l = omega (arith, edit.same_parent k, edit.same_length, rooted k gt (omega (arith, edit.same_length)))

  pub reaches-kept : {d e : ℕ} → Reaches rows d e → Reaches rows' d e
  reaches-kept here = here
  reaches-kept (up {d = d} gt p) = up gt (rw (edit.same_parent d) (reaches-kept p))

  climb-kept : (fuel d : ℕ) → climb rows' fuel d ≡ climb rows fuel d
  unfolding climb
  climb-kept zero d = refl
  climb-kept (suc fuel) zero = refl
  climb-kept (suc fuel) (suc d) = rw (edit.same_parent (suc d), climb-kept fuel (row rows (suc d)).parent)

  pub path-kept : (d : ℕ) → path rows' d ≡ path rows d
  path-kept d = climb-kept d d

shape : (rows rows' : List Row) (v : ℕ) → Edited rows rows' v → SameShape rows rows'
shape rows rows' v edit = record { same_length = edit.same_length; still_rooted = rooted' rows rows' v edit; same_path = path-kept rows rows' v edit }

pub shape-law : ShapeLaw
shape-law = record {
  by_own = λ rows v x h. shape rows (with_own rows v x) v (own-edited rows v x h);
  by_reservation = λ rows v x h. shape rows (with_reservation rows v x) v (reservation-edited rows v x h);
  by_quota = λ rows v x h. shape rows (with_quota rows v x) v (quota-edited rows v x h);
}
