-- The kept charges, with a change spread along the path, are the charges computed from nothing.
use Rattle.std.proofs.Common.{◌≡◌, ℕ, zero, suc, ◌+◌, ◌<◌, ◌≤◌, List, [], ◌∷◌, ◌++◌, length, get_or, set, ℤ, sym, refl, ap, ◌∙◌, subst, inl, inr, le_refl, arith}
use Rattle.std.proofs.lemmas.List.{length-set, get_or-set_same, get_or-set_other, length_push, get_or_push, get_or_append_left}
use Rattle.std.proofs.lemmas.Bool.{cases_lt, cases_eq}
use Rattle.charges.specs.declared.Row.{Row}
use Rattle.charges.specs.Amounts.{passed, changed}
use Rattle.charges.specs.Tree.{row, Rooted, charge, climb, path, with_own, with_reservation, with_quota}
use Rattle.charges.specs.Keep.{Keeps, spread, SpreadEquation, KeepLaw}
use Rattle.charges.proofs.Amounts.{changed_to}
use Rattle.charges.proofs.Paths.{path-up, path_le, path-next, off-start}
use Rattle.charges.proofs.Edits.{Edited, own-edited, reservation-edited, reservation-own, quota-edited}
use Rattle.charges.proofs.Local.{Moves, moves}
use Rattle.charges.proofs.Walks.{Come, next, own_come, reservation_come}
use Rattle.charges.proofs.Falls.{quota-charge}
use Rattle.charges.proofs.News.{charge-new, charge-last}

-- the change comes to d of the path: all behind d have their new charges, d and those before it their old ones
pub record Half (rows rows' : List Row) (d : ℕ) (kept : List ℕ) : Type 0 where
  pub as_long : length kept ≡ length rows
  pub behind : (e : ℕ) → e < length rows → d < e → get_or kept e 0 ≡ charge rows' e
  pub ahead : (e : ℕ) → e ≤ d → get_or kept e 0 ≡ charge rows e

-- one step of the spread, at the charge that is kept there
pub spread-step : (P : List ℕ → Type 0) (rows : List Row) (d : ℕ) (above : List ℕ) (c : ℤ) (kept : List ℕ) (x : ℕ) → get_or kept d 0 ≡ x →
    P (spread rows above (passed x (row rows d).reservation c) (set kept d (changed x c))) → P (spread rows (d ∷ above) c kept)
unfolding spread
spread-step P rows d above c kept x e p =
    subst (λ y. P (spread rows above (passed y (row rows d).reservation c) (set kept d (changed y c)))) (sym e) p

module _ (rows rows' : List Row) (v : ℕ) (rooted : Rooted rows) (h : v < length rows) (edit : Edited rows rows' v) where
  m : Moves rows rows' v
  m = moves rows rows' v rooted h edit

  -- with d written all from d on have their new charges
  written : (d : ℕ) (c : ℤ) (kept : List ℕ) → Come rows rows' v d c → Half rows rows' d kept → (e : ℕ) → e < length rows → d ≤ e →
      get_or (set kept d (changed (charge rows d) c)) e 0 ≡ charge rows' e
  written d c kept come half e l le = elim (cases_eq e d) [
    | inl e≡d ↦
        rw e≡d (get_or-set_same kept d (changed (charge rows d) c) 0 (omega (arith, half.as_long))
        ∙ changed_to (charge rows d) (charge rows' d) c come.arrives)
    | inr ne ↦ get_or-set_other kept d e (changed (charge rows d) c) 0 ne ∙ half.behind e l (omega arith)
  ]

  pub done : (c : ℤ) (kept : List ℕ) → Come rows rows' v 0 c → Half rows rows' 0 kept → Keeps rows' (set kept 0 (changed (charge rows 0) c))
  done c kept come half = record {
    as_long = length-set kept 0 (changed (charge rows 0) c) ∙ half.as_long ∙ sym edit.same_length;
    right = λ e l. written 0 c kept come half e (omega (arith, edit.same_length)) (omega arith);
  }

  pub onward : (d : ℕ) (c : ℤ) (kept : List ℕ) → Come rows rows' v d c → Half rows rows' d kept → 0 < d →
      Half rows rows' (row rows d).parent (set kept d (changed (charge rows d) c))
  onward d c kept come half gt =
      let le : d ≤ v = path_le rows rooted v d h come.on_path in
      let below : (row rows d).parent < d = rooted d gt (omega arith) in
      record {
        as_long = length-set kept d (changed (charge rows d) c) ∙ half.as_long;
        behind = λ e l lt. elim (cases_lt e d) [
          | inl e<d ↦
              get_or-set_other kept d e (changed (charge rows d) c) 0 (omega arith) ∙ half.ahead e (omega arith)
              ∙ sym (m.off_path e l (λ p. omega (arith, path-next rows rooted v d e h come.on_path p e<d)))
          | inr d≤e ↦ written d c kept come half e l d≤e
        ];
        ahead = λ e e≤. get_or-set_other kept d e (changed (charge rows d) c) 0 (omega arith) ∙ half.ahead e (omega arith);
      }

  spreads : (fuel d : ℕ) (c : ℤ) (kept : List ℕ) → d ≤ fuel → Come rows rows' v d c → Half rows rows' d kept →
      Keeps rows' (spread rows (climb rows fuel d) c kept)
  unfolding climb spread
  spreads zero zero c kept le come half = rw (half.ahead 0 (le_refl 0)) (done c kept come half)
  spreads zero (suc d) c kept le come half = absurd (omega arith)
  spreads (suc fuel) zero c kept le come half = rw (half.ahead 0 (le_refl 0)) (done c kept come half)
  spreads (suc fuel) (suc d) c kept le come half =
      let gt : 0 < suc d = omega arith in
      let low : suc d ≤ v = path_le rows rooted v (suc d) h come.on_path in
      let below : (row rows (suc d)).parent < suc d = rooted (suc d) gt (omega arith) in
      spread-step (Keeps rows') rows (suc d) (climb rows fuel (row rows (suc d)).parent) c kept (charge rows (suc d)) (half.ahead (suc d) (le_refl (suc d)))
      (spreads fuel (row rows (suc d)).parent (passed (charge rows (suc d)) (row rows (suc d)).reservation c) (set kept (suc d) (changed (charge rows (suc d)) c)) (omega arith)
      (next rows rows' v rooted h m (suc d) c come gt) (onward (suc d) c kept come half gt))

pub own_half : (rows : List Row) (kept : List ℕ) (v x : ℕ) → Rooted rows → v < length rows → Keeps rows kept →
    Half rows (with_own rows v x) v kept
own_half rows kept v x rooted h keeps =
    let mv = m rows (with_own rows v x) v rooted h (own-edited rows v x h) in
    record {
      as_long = keeps.as_long;
      behind = λ e l lt. keeps.right e l ∙ sym (mv.off_path e l (λ p. omega (arith, path_le rows rooted v e h p)));
      ahead = λ e le. keeps.right e (omega arith);
    }

pub reservation_half : (rows : List Row) (kept : List ℕ) (v x : ℕ) → Rooted rows → v < length rows → 0 < v → Keeps rows kept →
    Half rows (with_reservation rows v x) (row rows v).parent kept
reservation_half rows kept v x rooted h gt keeps =
    let mv = m rows (with_reservation rows v x) v rooted h (reservation-edited rows v x h) in
    let below : (row rows v).parent < v = rooted v gt h in
    let same : charge (with_reservation rows v x) v ≡ charge rows v = omega (arith, mv.at_row, reservation-own rows v x h v) in
    record {
      as_long = keeps.as_long;
      behind = λ e l lt. keeps.right e l ∙ sym (elim (cases_eq e v) [
        | inl e≡v ↦ rw e≡v same
        | inr ne ↦ mv.off_path e l (off-start rows v e ne (λ p. omega (arith, path_le rows rooted (row rows v).parent e (omega arith) p)))
      ]);
      ahead = λ e le. keeps.right e (omega arith);
    }

keep_quota : (rows : List Row) (kept : List ℕ) (v x : ℕ) → Rooted rows → v < length rows → Keeps rows kept → Keeps (with_quota rows v x) kept
keep_quota rows kept v x rooted h keeps =
    let edit = quota-edited rows v x h in
    record {
      as_long = keeps.as_long ∙ sym edit.same_length;
      right = λ d l.
          let lt : d < length rows = omega (arith, edit.same_length) in
          keeps.right d lt ∙ sym (quota-charge rows v x rooted h d lt);
    }

keep_new : (rows : List Row) (kept : List ℕ) (new : Row) → new.reservation ≡ 0 → new.own ≡ 0 → Keeps rows kept → Keeps (rows ++ new ∷ []) (kept ++ 0 ∷ [])
keep_new rows kept new no-reservation no_own keeps = record {
  as_long = length_push kept 0 ∙ ap (λ n. n + 1) keeps.as_long ∙ sym (length_push rows new);
  right = λ d l. elim (cases_lt d (length rows)) [
    | inl d< ↦
        get_or_append_left kept (0 ∷ []) 0 d (omega (arith, keeps.as_long)) ∙ keeps.right d d< ∙ sym (charge-new new no-reservation no_own rows d d<)
    | inr ≤d ↦
        let last : d ≡ length rows = omega (arith, length_push rows new) in
        rw last (get_or_push kept 0 0 (length rows) keeps.as_long ∙ sym (charge-last new no-reservation no_own rows))
  ];
}

pub keep_law : KeepLaw
keep_law = record {
  by_own = λ rows kept v x rooted h keeps.
      spreads rows (with_own rows v x) v rooted h (own-edited rows v x h) v v _ kept (le_refl v)
      (own_come rows v x rooted h) (own_half rows kept v x rooted h keeps);
  by_reservation = λ rows kept v x rooted h gt keeps.
      rw (keeps.right v h) (spreads rows (with_reservation rows v x) v rooted h (reservation-edited rows v x h) _ _ _ kept (le_refl _)
      (reservation_come rows v x rooted h gt) (reservation_half rows kept v x rooted h gt keeps));
  by_quota = λ rows kept v x rooted h gt keeps. keep_quota rows kept v x rooted h keeps;
  by_new = λ rows kept new rooted parent no-reservation no_own keeps. keep_new rows kept new no-reservation no_own keeps;
}

spread-root : (rows : List Row) (c : ℤ) (kept : List ℕ) → spread rows (path rows 0) c kept ≡ set kept 0 (changed (get_or kept 0 0) c)
unfolding climb spread
spread-root rows c kept = refl

spread-up : (rows : List Row) → Rooted rows → (d : ℕ) (c : ℤ) (kept : List ℕ) → 0 < d → d < length rows →
    spread rows (path rows d) c kept
    ≡ spread rows (path rows (row rows d).parent) (passed (get_or kept d 0) (row rows d).reservation c) (set kept d (changed (get_or kept d 0) c))
unfolding spread
spread-up rows rooted d c kept gt l = ap (λ ds. spread rows ds c kept) (path-up rows rooted d gt l)

pub spread_equation : SpreadEquation
spread_equation = record { root = spread-root; upward = spread-up }
