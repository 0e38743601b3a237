-- What holds of the datasets' rows and kept charges, and that each call keeps it.
use Rattle.std.proofs.Common.{◌≡◌, ℕ, ◌^◌, ◌<◌, ◌≤◌, ◌≢◌, List, [], ◌∷◌, ◌++◌, length, get_or, pos, ◌-ℤ◌, sym, ap, ◌∙◌, inl, inr, arith}
use Rattle.std.proofs.lemmas.List.{get_or_past, length-map, length_push, get_or_push, get_or_append_left}
use Rattle.std.proofs.lemmas.Bool.{cases_eq, cases_lt}
use Rattle.charges.specs.declared.Row.{Row}
use Rattle.charges.specs.Amounts.{reweighed}
use Rattle.charges.specs.Tree.{blank, row, Rooted, charge, WithinLimits, path, with_own, with_reservation, with_quota}
use Rattle.charges.specs.Keep.{Keeps, spread}
use Rattle.charges.proofs.Edits.{shape-law, own-reservation, own-quota, reservation-edited, reservation-set, reservation-quota, quota-set, quota-elsewhere, quota-reservation}
use Rattle.charges.proofs.Charge.{charge_equation}
use Rattle.charges.proofs.Bounds.{bound_law}
use Rattle.charges.proofs.Limits.{limit-law}
use Rattle.charges.proofs.Falls.{quota-law}
use Rattle.charges.proofs.News.{add_law}
use Rattle.charges.proofs.Spreads.{keep_law}
use Rattle.tree.specs.Fields.{InQuotas}
use Rattle.tree.specs.declared.Tree.{Tree}
use Rattle.tree.specs.Parts.{room_of, rows_of, charges_of, kinds_of}

pub record Fine (room : ℕ) (rows : List Row) (kept : List ℕ) : Type 0 where
  pub rooted : Rooted rows
  pub keeps : Keeps rows kept
  pub within : WithinLimits room rows
  pub reserved : InQuotas rows
  pub root_reservation : (row rows 0).reservation ≡ 0
  pub root_quota : (row rows 0).quota ≡ 0

-- how many datasets there are
pub count : (t : Tree) → length (rows_of t) ≡ length t.nodes.items
count t = length-map t.nodes.items (λ node. node.row)

pub kept-count : (t : Tree) → length (charges_of t) ≡ length (rows_of t)
kept-count t = length-map t.nodes.items (λ node. node.charge) ∙ sym (count t)

pub kind-count : (t : Tree) → length (kinds_of t) ≡ length (rows_of t)
kind-count t = length-map t.nodes.items (λ node. node.kind) ∙ sym (count t)

pub fine : (t : Tree) → Fine (room_of t) (rows_of t) (charges_of t)
fine t = record {
  rooted = t.rooted;
  keeps = record { as_long = kept-count t; right = t.kept };
  within = t.within;
  reserved = t.reserved;
  root_reservation = t.root.0;
  root_quota = t.root.1;
}

module _ (room : ℕ) (rows : List Row) (kept : List ℕ) (f : Fine room rows kept) where
  pub charge_in_lem : (d : ℕ) → d < length rows → charge rows d ≤ room
  charge_in_lem d l =
      omega (arith, (bound_law rows f.rooted f.root_reservation).charges d l, (limit-law room rows).root.0 (f.within 0 (omega arith)))

  pub own_in : (d : ℕ) → d < length rows → (row rows d).own ≤ room
  own_in d l = omega (arith, charge_equation rows f.rooted d l, charge_in_lem d l)

  pub kept_small : room < 2 ^ 16 → (d : ℕ) → get_or kept d 0 < 2 ^ 16
  kept_small small d = elim (cases_lt d (length rows)) [
    | inl l ↦ omega (arith, f.keeps.right d l, charge_in_lem d l)
    | inr past ↦ omega (arith, get_or_past kept d 0 (omega (arith, f.keeps.as_long)))
  ]

  -- own units set anew
  pub fine-own : (v x : ℕ) → v < length rows → WithinLimits room (with_own rows v x) →
      Fine room (with_own rows v x) (spread rows (path rows v) (pos x -ℤ pos (row rows v).own) kept)
  fine-own v x l within = record {
    rooted = (shape-law.by_own rows v x l).still_rooted f.rooted;
    keeps = keep_law.by_own rows kept v x f.rooted l f.keeps;
    within = within;
    reserved = λ d ld some.
        rw (own-reservation rows v x l d, own-quota rows v x l d)
        (f.reserved d (omega (arith, (shape-law.by_own rows v x l).same_length)) (λ none. some (own-quota rows v x l d ∙ none)));
    root_reservation = own-reservation rows v x l 0 ∙ f.root_reservation;
    root_quota = own-quota rows v x l 0 ∙ f.root_quota;
  }

  -- a reservation set anew
  pub fine-reservation : (v x : ℕ) → v < length rows → 0 < v → ((row rows v).quota ≢ 0 → x ≤ (row rows v).quota) → WithinLimits room (with_reservation rows v x) →
      Fine room (with_reservation rows v x) (spread rows (path rows (row rows v).parent) (reweighed (get_or kept v 0) (row rows v).reservation x) kept)
  fine-reservation v x l gt allowed within = record {
    rooted = (shape-law.by_reservation rows v x l).still_rooted f.rooted;
    keeps = keep_law.by_reservation rows kept v x f.rooted l gt f.keeps;
    within = within;
    reserved = λ d ld some.
        let lt : d < length rows = omega (arith, (shape-law.by_reservation rows v x l).same_length) in
        let had : (row rows d).quota ≢ 0 = λ none. some (reservation-quota rows v x l d ∙ none) in
        elim (cases_eq d v) [
          | inl e ↦ rw (e, reservation-set rows v x l, reservation-quota rows v x l v) (allowed (rw e at had))
          | inr ne ↦ rw ((reservation-edited rows v x l).same_reservation d ne, reservation-quota rows v x l d) (f.reserved d lt had)
        ];
    root_reservation = (reservation-edited rows v x l).same_reservation 0 (omega arith) ∙ f.root_reservation;
    root_quota = reservation-quota rows v x l 0 ∙ f.root_quota;
  }

  -- a quota set anew
  pub fine-quota : (v x : ℕ) → v < length rows → 0 < v → (x ≢ 0 → (charge rows v ≤ x) × ((row rows v).reservation ≤ x)) → Fine room (with_quota rows v x) kept
  fine-quota v x l gt enough = record {
    rooted = (shape-law.by_quota rows v x l).still_rooted f.rooted;
    keeps = keep_law.by_quota rows kept v x f.rooted l gt f.keeps;
    within = (quota-law rows v x f.rooted l gt).still_within room f.within (λ some. (enough some).0);
    reserved = λ d ld some.
        let lt : d < length rows = omega (arith, (shape-law.by_quota rows v x l).same_length) in
        elim (cases_eq d v) [
          | inl e ↦
              let had : x ≢ 0 = λ none. some (rw e (quota-set rows v x l ∙ none)) in
              rw (e, quota-reservation rows v x l v, quota-set rows v x l) (enough had).1
          | inr ne ↦
              rw (quota-reservation rows v x l d, quota-elsewhere rows v x l d ne)
              (f.reserved d lt (λ none. some (quota-elsewhere rows v x l d ne ∙ none)))
        ];
    root_reservation = quota-reservation rows v x l 0 ∙ f.root_reservation;
    root_quota = quota-elsewhere rows v x l 0 (omega arith) ∙ f.root_quota;
  }

  -- a new dataset
  pub fine-new : (new : Row) → 0 < length rows → new.parent < length rows → new.quota ≡ 0 → new.reservation ≡ 0 → new.own ≡ 0 → Fine room (rows ++ new ∷ []) (kept ++ 0 ∷ [])
  fine-new new some parent no_quota no-reservation no_own = record {
    rooted = (add_law rows new f.rooted parent no-reservation no_own).rooted;
    keeps = keep_law.by_new rows kept new f.rooted parent no-reservation no_own f.keeps;
    within = (add_law rows new f.rooted parent no-reservation no_own).still_within room f.within;
    reserved = λ d l has. elim (cases_lt d (length rows)) [
      | inl lt ↦
          let same = get_or_append_left rows (new ∷ []) blank d lt in
          rw same (f.reserved d lt (λ none. has (ap (λ (r : Row). r.quota) same ∙ none)))
      | inr past ↦
          let last : d ≡ length rows = omega (arith, length_push rows new) in
          let same = get_or_push rows new blank d (sym last) in
          absurd (has (ap (λ (r : Row). r.quota) same ∙ no_quota))
    ];
    root_reservation = ap (λ (r : Row). r.reservation) (get_or_append_left rows (new ∷ []) blank 0 some) ∙ f.root_reservation;
    root_quota = ap (λ (r : Row). r.quota) (get_or_append_left rows (new ∷ []) blank 0 some) ∙ f.root_quota;
  }
