-- The walk, which goes by changes, answers what the charges computed from nothing say.
use Rattle.std.proofs.Common.{◌≡◌, ℕ, zero, suc, ◌+◌, ◌<◌, ◌≤◌, List, [], ◌∷◌, ◌++◌, length, ℤ, pos, ◌+ℤ◌, ◌-ℤ◌, Some, None, Option, sym, refl, ap, ◌∙◌, inl, inr, le_refl, arith}
use Rattle.std.proofs.ByRecursion.{all-has}
use Rattle.std.proofs.lemmas.Int.{ints, clamps}
use Rattle.std.proofs.lemmas.Bool.{cases_eq}
use Rattle.std.specs.List.{AllByRecursion}
use Rattle.charges.specs.declared.Row.{Row}
use Rattle.charges.specs.Amounts.{limit_of, excess, passed, reweighed, changed}
use Rattle.charges.specs.Tree.{row, Rooted, charge, limit, Within, WithinLimits, climb, path, with_own, with_reservation, raised}
use Rattle.charges.specs.Walk.{or_else, walk_along, walk, first_past, Nearest}
use Rattle.charges.specs.Laws.{WalkEquation, Recomputed, Judged, RiseLaw, ReserveLaw}
use Rattle.charges.proofs.Amounts.{changed_to}
use Rattle.charges.proofs.Paths.{Reaches, path-up, path_end, path_le, path_cases, off-start, all_from_has, on_reaches, reaches_on}
use Rattle.charges.proofs.Paths.Reaches.{here, up}
use Rattle.charges.proofs.Local.{Moves, moves}
use Rattle.charges.proofs.Edits.{Edited, own-edited, own-set, own-reservation, own-quota, reservation-edited, reservation-set, reservation-own, reservation-quota}

-- the walk comes to d with the change that its charge makes, and from d on no reservation is edited
pub record Come (rows rows' : List Row) (v d : ℕ) (c : ℤ) : Type 0 where
  pub on_path : Reaches rows v d
  pub arrives : pos (charge rows d) +ℤ c ≡ pos (charge rows' d)
  pub reserve : (k : ℕ) → k ≤ d → (row rows' k).reservation ≡ (row rows k).reservation

pub next : (rows rows' : List Row) (v : ℕ) → Rooted rows → v < length rows → Moves rows rows' v → (d : ℕ) (c : ℤ) → Come rows rows' v d c → 0 < d →
    Come rows rows' v (row rows d).parent (passed (charge rows d) (row rows d).reservation c)
next rows rows' v rooted h m d c come gt =
    let le : d ≤ v = path_le rows rooted v d h come.on_path in
    let below : (row rows d).parent < d = rooted d gt (omega arith) in
    record {
      on_path = path_end come.on_path gt;
      arrives = omega (arith, ints, clamps, m.upward d come.on_path gt, come.reserve d (le_refl d), come.arrives);
      reserve = λ k l. come.reserve k (omega arith);
    }

module _ (room : ℕ) (rows rows' : List Row) (v : ℕ) (rooted : Rooted rows) (h : v < length rows) (m : Moves rows rows' v)
    (quotas : (k : ℕ) → (row rows' k).quota ≡ (row rows k).quota) where
  limit-kept : (d : ℕ) → limit room rows' d ≡ limit room rows d
  limit-kept d = ap (limit_of room d) (quotas d)

  same-excess : (d : ℕ) (c : ℤ) → Come rows rows' v d c → excess (limit room rows d) (changed (charge rows d) c) ≡ excess (limit room rows' d) (charge rows' d)
  same-excess d c come = rw (limit-kept d, changed_to (charge rows d) (charge rows' d) c come.arrives)

  pub walked : (fuel d : ℕ) (c : ℤ) → Come rows rows' v d c → walk_along room rows (climb rows fuel d) c ≡ first_past room rows' (climb rows fuel d)
  unfolding climb walk_along first_past
  walked zero d c come = ap (λ s. or_else d s None) (same-excess d c come)
  walked (suc fuel) zero c come = ap (λ s. or_else zero s None) (same-excess zero c come)
  walked (suc fuel) (suc d) c come =
      rw (same-excess (suc d) c come, walked fuel (row rows (suc d)).parent (passed (charge rows (suc d)) (row rows (suc d)).reservation c) (next rows rows' v rooted h m (suc d) c come (omega arith)))

-- from the dataset whose own units are edited
pub own_come : (rows : List Row) (v x : ℕ) → Rooted rows → v < length rows → Come rows (with_own rows v x) v v (pos x -ℤ pos (row rows v).own)
own_come rows v x rooted h = record {
  on_path = here;
  arrives = omega (arith, ints, (moves rows (with_own rows v x) v rooted h (own-edited rows v x h)).at_row, own-set rows v x h);
  reserve = λ k l. own-reservation rows v x h k;
}

-- from the parent of the dataset whose reservation is edited
pub reservation_come : (rows : List Row) (v x : ℕ) → Rooted rows → v < length rows → 0 < v →
    Come rows (with_reservation rows v x) v (row rows v).parent (reweighed (charge rows v) (row rows v).reservation x)
reservation_come rows v x rooted h gt =
    let edit = reservation-edited rows v x h in
    let m = moves rows (with_reservation rows v x) v rooted h edit in
    let below : (row rows v).parent < v = rooted v gt h in
    record {
      on_path = up gt here;
      arrives = omega (arith, ints, m.at_row, m.upward v here gt, reservation-own rows v x h v, reservation-set rows v x h);
      reserve = λ k l. edit.same_reservation k (omega arith);
    }

pub recomputed : Recomputed
recomputed = record {
  by_own = λ room rows v x rooted h.
      walked room rows (with_own rows v x) v rooted h (moves rows (with_own rows v x) v rooted h (own-edited rows v x h)) (own-quota rows v x h) v v _ (own_come rows v x rooted h);
  by_reservation = λ room rows v x rooted h gt.
      walked room rows (with_reservation rows v x) v rooted h (moves rows (with_reservation rows v x) v rooted h (reservation-edited rows v x h))
      (reservation-quota rows v x h) _ _ _ (reservation_come rows v x rooted h gt);
}

-- what the search along a list answers
module _ (room : ℕ) (rows : List Row) where
  first-within : (ds : List ℕ) → first_past room rows ds ≡ None → AllByRecursion (Within room rows) ds
  unfolding first_past
  first-within [] e = tt
  first-within (d ∷ ds) e = go (excess (limit room rows d) (charge rows d)) refl e (first-within ds)
    where
      go : (s : ℕ) → excess (limit room rows d) (charge rows d) ≡ s → or_else d s (first_past room rows ds) ≡ None →
          (first_past room rows ds ≡ None → AllByRecursion (Within room rows) ds) → Within room rows d × AllByRecursion (Within room rows) ds
      go zero is e rest = (is, rest e)
      go (suc s) is e rest = let z : ◌≡◌ {A = ℕ} 0 1 = cc in absurd (omega arith)

  within_first : (ds : List ℕ) → AllByRecursion (Within room rows) ds → first_past room rows ds ≡ None
  unfolding first_past
  within_first [] all = refl
  within_first (d ∷ ds) all = ap (λ s. or_else d s (first_past room rows ds)) all.0 ∙ within_first ds all.1

  first_nearest : (ds : List ℕ) (e s : ℕ) → first_past room rows ds ≡ Some (e, s) → Nearest room rows ds e s
  unfolding first_past
  first_nearest [] e s eq = let z : ◌≡◌ {A = ℕ} 0 1 = cc in absurd (omega arith)
  first_nearest (d ∷ ds) e s eq = go (excess (limit room rows d) (charge rows d)) refl eq (first_nearest ds e s)
    where
      go : (x : ℕ) → excess (limit room rows d) (charge rows d) ≡ x → or_else d x (first_past room rows ds) ≡ Some (e, s) →
          (first_past room rows ds ≡ Some (e, s) → Nearest room rows ds e s) → Nearest room rows (d ∷ ds) e s
      go zero is eq rest =
          let n = rest eq in
          record { before = d ∷ n.before; above = n.above; order = ap (λ l. d ∷ l) n.order; all_within = (is, n.all_within); passes = n.passes; exact = n.exact }
      go (suc x) is eq rest =
          let same : ◌≡◌ {A = ℕ × ℕ} (d, suc x) (e, s) = cc in
          let same-d : d ≡ e = ap (λ (p : ℕ × ℕ). p.0) same in
          let same_s : suc x ≡ s = ap (λ (p : ℕ × ℕ). p.1) same in
          record { before = []; above = ds; order = ap (λ k. k ∷ ds) same-d; all_within = tt; passes = omega arith; exact = rw (← same-d, ← same_s) is }

  split_first : (before above : List ℕ) (d s : ℕ) → AllByRecursion (Within room rows) before → 0 < s → excess (limit room rows d) (charge rows d) ≡ s →
      first_past room rows (before ++ d ∷ above) ≡ Some (d, s)
  unfolding first_past
  split_first [] above d zero all gt exact = absurd (omega arith)
  split_first [] above d (suc s) all gt exact = ap (λ x. or_else d x (first_past room rows above)) exact
  split_first (k ∷ before) above d s all gt exact =
      ap (λ x. or_else k x (first_past room rows (before ++ d ∷ above))) all.0 ∙ split_first before above d s all.1 gt exact

  nearest_first : (ds : List ℕ) (d s : ℕ) → Nearest room rows ds d s → first_past room rows ds ≡ Some (d, s)
  nearest_first ds d s n = ap (first_past room rows) n.order ∙ split_first n.before n.above d s n.all_within n.passes n.exact

-- a walk along the path from a dataset at or above v, for an edit of v that leaves all other charges as they were
module _ (room : ℕ) (rows rows' : List Row) (v start : ℕ) (rooted : Rooted rows) (within : WithinLimits room rows) (h : v < length rows)
    (edit : Edited rows rows' v) (quotas : (k : ℕ) → (row rows' k).quota ≡ (row rows k).quota) (on : Reaches rows v start)
    (others : (d : ℕ) → d < length rows → (Reaches rows start d → ⊥) → charge rows' d ≡ charge rows d) where
  off-within : (d : ℕ) → d < length rows → (Reaches rows start d → ⊥) → Within room rows' d
  off-within d l off = rw (quotas d, others d l off) (within d l)

  low : start < length rows
  low = omega (arith, path_le rows rooted v start h on)

  all_within : first_past room rows' (path rows start) ≡ None → WithinLimits room rows'
  all_within e d l =
      let lt : d < length rows = omega (arith, edit.same_length) in
      elim (path_cases rows rooted start d low) [
        | inl p ↦ all-has (Within room rows') (path rows start) d (first-within room rows' (path rows start) e) (reaches_on rows rooted start d low p)
        | inr off ↦ off-within d lt off
      ]

  path-within : WithinLimits room rows' → first_past room rows' (path rows start) ≡ None
  path-within all =
      within_first room rows' (path rows start)
      (all_from_has (Within room rows') (path rows start)
      (λ d has. all d (omega (arith, edit.same_length, path_le rows rooted start d low (on_reaches start d has), low))))

  pub judged : (answer : Option (ℕ × ℕ)) → answer ≡ first_past room rows' (path rows start) → Judged room rows' (path rows start) answer
  judged answer e = record {
    none = (λ none. all_within (sym e ∙ none), λ all. e ∙ path-within all);
    some = λ d s. (λ named. first_nearest room rows' (path rows start) d s (sym e ∙ named), λ n. e ∙ nearest_first room rows' (path rows start) d s n);
  }

-- a rise of c is the own units set to c more
pub rise_walk : (room : ℕ) (rows : List Row) (v c : ℕ) → Rooted rows → v < length rows → walk room rows v (pos c) ≡ first_past room (raised rows v c) (path rows v)
rise_walk room rows v c rooted h =
    let same : pos c ≡ pos ((row rows v).own + c) -ℤ pos (row rows v).own = omega (arith, ints) in
    ap (walk room rows v) same ∙ recomputed.by_own room rows v ((row rows v).own + c) rooted h

pub rise_law : RiseLaw
rise_law room rows v c rooted within h =
    let x = (row rows v).own + c in
    let edit = own-edited rows v x h in
    judged room rows (raised rows v c) v v rooted within h edit (own-quota rows v x h) here (moves rows (raised rows v c) v rooted h edit).off_path _
    (rise_walk room rows v c rooted h)

-- all but the datasets from the parent up keep their charges when a reservation is set
reservation-others : (rows : List Row) (v x : ℕ) → Rooted rows → v < length rows → 0 < v → (d : ℕ) → d < length rows →
    (Reaches rows (row rows v).parent d → ⊥) → charge (with_reservation rows v x) d ≡ charge rows d
reservation-others rows v x rooted h gt d l off =
    let m = moves rows (with_reservation rows v x) v rooted h (reservation-edited rows v x h) in
    elim (cases_eq d v) [
      | inl e ↦ rw e (omega (arith, m.at_row, reservation-own rows v x h v))
      | inr ne ↦ m.off_path d l (off-start rows v d ne off)
    ]

pub reserve-law : ReserveLaw
reserve-law room rows v x rooted within h gt =
    judged room rows (with_reservation rows v x) v (row rows v).parent rooted within h (reservation-edited rows v x h) (reservation-quota rows v x h)
    (up gt here) (reservation-others rows v x rooted h gt) _ (recomputed.by_reservation room rows v x rooted h gt)

walk-root : (room : ℕ) (rows : List Row) (c : ℤ) → walk room rows 0 c ≡ or_else 0 (excess (limit room rows 0) (changed (charge rows 0) c)) None
unfolding climb walk_along
walk-root room rows c = refl

walk_up : (room : ℕ) (rows : List Row) → Rooted rows → (d : ℕ) (c : ℤ) → 0 < d → d < length rows →
    walk room rows d c ≡ or_else d (excess (limit room rows d) (changed (charge rows d) c))
    (walk room rows (row rows d).parent (passed (charge rows d) (row rows d).reservation c))
unfolding walk_along
walk_up room rows rooted d c gt l = ap (λ ds. walk_along room rows ds c) (path-up rows rooted d gt l)

pub walk_equation : WalkEquation
walk_equation = record { root = walk-root; upward = walk_up }

-- For a loop that walks: it stops at an excess, goes on from the parent without one, and ends at the root.
pub walk-stops : (room : ℕ) (rows : List Row) → Rooted rows → (d : ℕ) (c : ℤ) (s : ℕ) → d < length rows →
    s ≡ excess (limit room rows d) (changed (charge rows d) c) → 0 < s → walk room rows d c ≡ Some (d, s)
walk-stops room rows rooted d c zero l e gt = absurd (omega arith)
walk-stops room rows rooted zero c (suc s) l e gt = walk-root room rows c ∙ ap (λ x. or_else 0 x None) (sym e)
walk-stops room rows rooted (suc d) c (suc s) l e gt = walk_up room rows rooted (suc d) c (omega arith) l ∙ ap (λ x. or_else (suc d) x (walk room rows (row rows (suc d)).parent (passed (charge rows (suc d)) (row rows (suc d)).reservation c))) (sym e)

pub walk-goes_on : (room : ℕ) (rows : List Row) → Rooted rows → (d : ℕ) (c : ℤ) → 0 < d → d < length rows →
    excess (limit room rows d) (changed (charge rows d) c) ≡ 0 →
    walk room rows d c ≡ walk room rows (row rows d).parent (passed (charge rows d) (row rows d).reservation c)
walk-goes_on room rows rooted d c gt l e = walk_up room rows rooted d c gt l ∙ ap (λ x. or_else d x (walk room rows (row rows d).parent (passed (charge rows d) (row rows d).reservation c))) e

pub walk_ends : (room : ℕ) (rows : List Row) (c : ℤ) → excess (limit room rows 0) (changed (charge rows 0) c) ≡ 0 → walk room rows 0 c ≡ None
walk_ends room rows c e = walk-root room rows c ∙ ap (λ x. or_else 0 x None) e
