-- How large the figures of a book can be: the room bounds them all.
use Rattle.std.proofs.Common.{◌≡◌, ℕ, suc, ◌+◌, ◌<◌, ◌≤◌, List, [], ◌∷◌, length, ap, mul-le-mul, arith}
use Rattle.std.proofs.lemmas.Bool.{cond_both}
use Rattle.charges.specs.declared.Row.{Row}
use Rattle.charges.specs.Tree.{blank, row}
use Rattle.charges.specs.Laws.{Bounded}
use Rattle.charges.proofs.Sums.{sum_to, sum_le, sum_list}
use Rattle.charges.proofs.Charge.{charge-law}
use Rattle.charges.proofs.Limits.{limit-law}
use Rattle.charges.proofs.Bounds.{bound_law}
use Rattle.rules.specs.declared.state.Transaction.{Transaction}
use Rattle.rules.specs.Figures.{Figures, Sane, room}
use Rattle.rules.specs.Book.{Dataset, Book, empty, new, dataset, made, record_units, deferred, all_deferred, is_assigned, estimate, unspent_grants, own, rows, charge, weight}
use Rattle.rules.specs.declared.state.Kind.TheVariants.{Folder}
use Rattle.rules.specs.Answers.{first_assigned}
use Rattle.rules.specs.Invariant.{Shaped}
use Rattle.rules.proofs.Rows.{rows-length, rows_at, rows-rooted, rows-reserved}

-- no more than 64 writes, each of no more than 64 units
pub estimate_le : (F : Figures) (w : ℕ) → Sane F → w ≤ 64 → estimate F w ≤ 4096
estimate_le F w sane few = mul-le-mul {n₁ = w} {m₁ = F.worst} {n₂ = 64} {m₂ = 64} few sane.bounded.small

pub first_le : (t : ℕ) (xs : List Transaction) → first_assigned t xs ≤ t + length xs
first_le t [] = omega arith
first_le t (x ∷ xs) =
    cond_both (is_assigned x) t (first_assigned (suc t) xs) (λ k. k ≤ t + suc (length xs)) (λ e. omega arith) (λ e. omega (arith, first_le (suc t) xs))

module _ (F : Figures) (b : Book) (shaped : Shaped F b) where
  pub bounded : Bounded (rows F b)
  bounded = bound_law (rows F b) (rows-rooted F b shaped) (rows-reserved F b shaped).root_none

  pub root-within : charge F b 0 ≤ room F
  root-within = (limit-law (room F) (rows F b)).root.0 (shaped.within 0 (omega (arith, rows-length F b, shaped.some)))

module _ (F : Figures) (b : Book) (sane : Sane F) (shaped : Shaped F b) where
  root_le : charge F b 0 ≤ 4096
  root_le = omega (arith, root-within F b shaped, sane.few)

  pub charge_le : (d : ℕ) → d < made b → charge F b d ≤ 4096
  charge_le d l = omega (arith, root_le, (bounded F b shaped).charges d (omega (arith, rows-length F b)))

  pub weight_le : (d : ℕ) → d < made b → weight F b d ≤ 4096
  weight_le d l = omega (arith, root_le, (bounded F b shaped).weights d (omega (arith, rows-length F b)))

  pub own_le : (d : ℕ) → d < made b → own F b d ≤ 4096
  own_le d l =
      let at_row : (row (rows F b) d).own ≡ own F b d = ap (λ (r : Row). r.own) (rows_at F b d l) in
      let is = charge-law (rows F b) (rows-rooted F b shaped) d (omega (arith, rows-length F b)) in
      omega (arith, charge_le d l)

  pub record-units_le : (d : ℕ) → d < made b → record_units b d ≤ 4096
  record-units_le d l = omega (arith, own_le d l)

  pub deferred_le : (d : ℕ) → d < made b → deferred b d ≤ 4096
  deferred_le d l = omega (arith, own_le d l)

  pub grants_le : (d : ℕ) → d < made b → unspent_grants F b d ≤ 4096
  grants_le d l = omega (arith, own_le d l)

  pub all-deferred_le : all_deferred b ≤ 4096
  all-deferred_le =
      let each : (k : ℕ) → k < made b → (dataset b k).contents.deferred ≤ (row (rows F b) k).own =
      λ k l. omega (arith, ap (λ (r : Row). r.own) (rows_at F b k l)) in
      omega (
        arith,
        root_le,
        (bounded F b shaped).own_units,
        sum_list (λ (r : Row). r.own) (rows F b) blank,
        sum_list (λ (d : Dataset). d.contents.deferred) b.datasets (new 0 Folder (empty [] 0)),
        sum_le (made b) (λ k. (dataset b k).contents.deferred) (λ k. (row (rows F b) k).own) each,
        ap (λ n. sum_to n (λ k. (row (rows F b) k).own)) (rows-length F b),
      )
