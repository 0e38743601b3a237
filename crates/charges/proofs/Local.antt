-- An edit of a row changes only the charges on its path, each by the change of the weight below it.
use Rattle.std.proofs.Common.{◌≡◌, ℕ, zero, suc, ◌+◌, ◌<◌, ◌≤◌, Bool, true, false, cond, ◌≢◌, List, length, refl, arith}
use Rattle.std.proofs.lemmas.Bool.{eqb-true, eq-eqb, cond-true}
use Rattle.charges.specs.declared.Row.{Row}
use Rattle.charges.specs.Tree.{row, Rooted, charge, weight}
use Rattle.charges.proofs.Charge.{share, charge-law}
use Rattle.charges.proofs.Sums.{sum_to, sum_same, sum_but_one}
use Rattle.charges.proofs.Paths.{Reaches, path_end, path_le, only_child}
use Rattle.charges.proofs.Paths.Reaches.{here}
use Rattle.charges.proofs.Edits as edits
use Rattle.charges.proofs.Edits.{Edited}

-- What an edit of v does to the charges: nothing off the path from v, and on the path each dataset's change of weight is its parent's change of charge.
pub record Moves (rows rows' : List Row) (v : ℕ) : Type 0 where
  pub off_path : (d : ℕ) → d < length rows → (Reaches rows v d → ⊥) → charge rows' d ≡ charge rows d
  pub at_row : charge rows' v + (row rows v).own ≡ charge rows v + (row rows' v).own
  pub upward : (d : ℕ) → Reaches rows v d → 0 < d → charge rows' (row rows d).parent + weight rows d ≡ charge rows (row rows d).parent + weight rows' d

cond_same : (b : Bool) (x y : ℕ) → (b ≡ true → x ≡ y) → cond b x 0 ≡ cond b y 0
cond_same true x y same = same refl
cond_same false x y same = refl

pub share-child : (rows : List Row) (d p : ℕ) → 0 < d → (row rows d).parent ≡ p → share rows p d ≡ weight rows d
share-child rows zero p pos e = omega arith
share-child rows (suc d) p pos e = cond-true _ _ _ (eq-eqb _ _ e)

module _ (rows rows' : List Row) (v : ℕ) (rooted : Rooted rows) (h : v < length rows) (edit : Edited rows rows' v) where
  rooted' : Rooted rows'
  rooted' = edits.rooted' rows rows' v edit rooted

  -- the charge after the edit, with the rows counted as before
  charge_law' : (d : ℕ) → d < length rows → charge rows' d ≡ (row rows' d).own + sum_to (length rows) (share rows' d)
  charge_law' d l = rw edit.same_length at (charge-law rows' rooted' d (omega (arith, edit.same_length)))

  share-same : (p k : ℕ) → (0 < k → (row rows k).parent ≡ p → weight rows k ≡ weight rows' k) → share rows p k ≡ share rows' p k
  share-same p zero same = refl
  share-same p (suc k) same = rw (edit.same_parent (suc k)) (cond_same _ _ _ (λ e. same (omega arith) (eqb-true _ _ e)))

  not_v : (k : ℕ) → (Reaches rows v k → ⊥) → k ≢ v
  not_v k off e = off (rw e here)

  weight-same : (k : ℕ) → (Reaches rows v k → ⊥) → charge rows' k ≡ charge rows k → weight rows k ≡ weight rows' k
  weight-same k off e = omega (arith, edit.same_reservation k (not_v k off))

  off_path : (m d : ℕ) → length rows ≤ d + m → d < length rows → (Reaches rows v d → ⊥) → charge rows' d ≡ charge rows d
  off_path zero d le l off = omega arith
  off_path (suc m) d le l off =
      let child : (k : ℕ) → k < length rows → 0 < k → (row rows k).parent ≡ d → weight rows k ≡ weight rows' k =
      λ k lk pos e.
      let off-k : Reaches rows v k → ⊥ = λ p. off (rw e at (path_end p pos)) in
      weight-same k off-k (off_path m k (omega (arith, rooted k pos lk)) lk off-k) in
      omega (
        arith,
        charge-law rows rooted d l,
        charge_law' d l,
        edit.same_own d (not_v d off),
        sum_same (length rows) (share rows d) (share rows' d) (λ k lk. share-same d k (child k lk)),
      )

  off : (d : ℕ) → d < length rows → (Reaches rows v d → ⊥) → charge rows' d ≡ charge rows d
  off d l = off_path (length rows) d (omega arith) l

  at_row : charge rows' v + (row rows v).own ≡ charge rows v + (row rows' v).own
  at_row =
      let child : (k : ℕ) → k < length rows → 0 < k → (row rows k).parent ≡ v → weight rows k ≡ weight rows' k =
      λ k lk pos e.
      let off-k : Reaches rows v k → ⊥ = λ p. omega (arith, path_le rows rooted v k h p, rooted k pos lk) in
      weight-same k off-k (off k lk off-k) in
      omega (
        arith,
        charge-law rows rooted v h,
        charge_law' v h,
        sum_same (length rows) (share rows v) (share rows' v) (λ k lk. share-same v k (child k lk)),
      )

  upward : (d : ℕ) → Reaches rows v d → 0 < d → charge rows' (row rows d).parent + weight rows d ≡ charge rows (row rows d).parent + weight rows' d
  upward d p pos =
      let q : ℕ = (row rows d).parent in
      let le : d ≤ v = path_le rows rooted v d h p in
      let below : (row rows d).parent < d = rooted d pos (omega arith) in
      let other : (k : ℕ) → k < length rows → k ≢ d → 0 < k → (row rows k).parent ≡ q → weight rows k ≡ weight rows' k =
      λ k lk ne pos-k e.
      let off-k : Reaches rows v k → ⊥ = λ pk. ne (only_child rows rooted v k d h pk p pos-k pos e) in
      weight-same k off-k (off k lk off-k) in
      omega (
        arith,
        charge-law rows rooted q (omega arith),
        charge_law' q (omega arith),
        edit.same_own q (omega arith),
        sum_but_one (length rows) (share rows q) (share rows' q) d (omega arith) (λ k lk ne. share-same q k (other k lk ne)),
        share-child rows d q pos refl,
        share-child rows' d q pos (edit.same_parent d),
      )

pub moves : (rows rows' : List Row) (v : ℕ) → Rooted rows → v < length rows → Edited rows rows' v → Moves rows rows' v
moves rows rows' v rooted h edit =
    record { off_path = off rows rows' v rooted h edit; at_row = at_row rows rows' v rooted h edit; upward = upward rows rows' v rooted h edit }
