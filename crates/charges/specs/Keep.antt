-- Charges kept beside the rows, one for each, and how they follow an edit and a new dataset.
use Rattle.std.specs.Prelude.{◌≡◌, ℕ, ◌<◌, List, [], ◌∷◌, ◌++◌, length, ℤ, pos, ◌-ℤ◌, slice_index, slice_set}
use Rattle.charges.specs.declared.Row.{Row}
use Rattle.charges.specs.Amounts.{passed, changed, reweighed}
use Rattle.charges.specs.Tree.{row, Rooted, charge, path, with_own, with_reservation, with_quota}

-- the kept charges are those that the rows give
pub record Keeps (rows : List Row) (kept : List ℕ) : Type 0 where
  pub as_long : length kept ≡ length rows
  pub right : (d : ℕ) → d < length rows → slice_index kept d ≡ charge rows d

-- The kept charges with a change put in along a path: c arrives at its first dataset, and each passes on its own by the change rule.
unfoldable pub spread : List Row → List ℕ → ℤ → List ℕ → List ℕ
spread rows [] c kept = kept
spread rows (d ∷ above) c kept =
    spread rows above (passed (slice_index kept d) (row rows d).reservation c) (slice_set kept d (changed (slice_index kept d) c))

-- a change is put in at the dataset, then spread from its parent as it is passed on, up to the root
pub record SpreadEquation : Type 0 where
  pub root : (rows : List Row) (c : ℤ) (kept : List ℕ) → spread rows (path rows 0) c kept ≡ slice_set kept 0 (changed (slice_index kept 0) c)
  pub upward : (rows : List Row) → Rooted rows → (d : ℕ) (c : ℤ) (kept : List ℕ) → 0 < d → d < length rows →
      spread rows (path rows d) c kept
      ≡ spread rows (path rows (row rows d).parent) (passed (slice_index kept d) (row rows d).reservation c) (slice_set kept d (changed (slice_index kept d) c))

pub record KeepLaw : Type 0 where
  -- own units set to x, more or fewer
  pub by_own : (rows : List Row) (kept : List ℕ) (v x : ℕ) → Rooted rows → v < length rows → Keeps rows kept →
      Keeps (with_own rows v x) (spread rows (path rows v) (pos x -ℤ pos (row rows v).own) kept)
  -- a reservation set to x, more or less, from the parent up
  pub by_reservation : (rows : List Row) (kept : List ℕ) (v x : ℕ) → Rooted rows → v < length rows → 0 < v → Keeps rows kept →
      Keeps (with_reservation rows v x)
      (spread rows (path rows (row rows v).parent) (reweighed (slice_index kept v) (row rows v).reservation x) kept)
  pub by_quota : (rows : List Row) (kept : List ℕ) (v x : ℕ) → Rooted rows → v < length rows → 0 < v → Keeps rows kept →
      Keeps (with_quota rows v x) kept
  -- a new dataset with nothing in it
  pub by_new : (rows : List Row) (kept : List ℕ) (new : Row) → Rooted rows → new.parent < length rows → new.reservation ≡ 0 → new.own ≡ 0 →
      Keeps rows kept → Keeps (rows ++ new ∷ []) (kept ++ 0 ∷ [])
