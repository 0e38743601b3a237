-- The tree's rows do not depend on what a write costs, only on the worst that it may cost.
use Rattle.std.proofs.Common.{◌≡◌, ℕ, ◌-◌, List, [], ◌∷◌, sum_by, sym, refl, ap, ◌∙◌, subst, arith}
use Rattle.std.proofs.lemmas.List.Sums.{sum_by-cons}
use Rattle.charges.specs.declared.Row.{Row}
use Rattle.charges.specs.Tree.{WithinLimits}
use Rattle.rules.specs.declared.state.Transaction.{Transaction}
use Rattle.rules.specs.declared.state.Transaction.TheVariants.{Idle, Created, Held, Assigned}
use Rattle.rules.specs.Figures.{Figures}
use Rattle.rules.specs.Book.{Book, dataset, grant_on, own, rows}
use Rattle.rules.specs.Invariant.{Shaped}
use Rattle.rules.proofs.Rows.{rows_is, rows-length, rows_at}
use Rattle.rules.proofs.Edits.{formed, shaped-within}
use Rattle.tally.specs.Joined.{figures_in}
use Rattle.tally.specs.Grants.{grant_by}

grant_by_lem : (F : Figures) (v : ℕ) (x : Transaction) → grant_by F.worst v x ≡ grant_on F v x
grant_by_lem F v Idle = refl
grant_by_lem F v (Created u) = refl
grant_by_lem F v (Held u w f) = refl
grant_by_lem F v (Assigned u w f) = refl

pub grants_by : (F : Figures) (v : ℕ) (xs : List Transaction) → sum_by (grant_by F.worst v) xs ≡ sum_by (grant_on F v) xs
grants_by F v [] = refl
grants_by F v (x ∷ xs) =
    omega (arith, sum_by-cons (grant_by F.worst v) x xs, sum_by-cons (grant_on F v) x xs, grant_by_lem F v x, grants_by F v xs)

module _ (size slop worst : ℕ) (cost cost' : ℕ → ℕ) (b : Book) where
  pub own-cost : (d : ℕ) → own (figures_in size slop worst cost) b d ≡ own (figures_in size slop worst cost') b d
  own-cost d =
      omega (
        arith,
        grants_by (figures_in size slop worst cost) d b.transactions,
        grants_by (figures_in size slop worst cost') d b.transactions,
      )

  pub rows-cost : rows (figures_in size slop worst cost) b ≡ rows (figures_in size slop worst cost') b
  rows-cost =
      let F = figures_in size slop worst cost in
      let F' = figures_in size slop worst cost' in
      rows_is F b (rows F' b) (rows-length F' b)
      (λ d l.
      rows_at F' b d l
      ∙ ap (λ (n : ℕ). record { parent = (dataset b d).parent; quota = (dataset b d).quota; reservation = (dataset b d).reservation; own = n }) (sym (own-cost d)))

  pub shaped-cost : Shaped (figures_in size slop worst cost) b → Shaped (figures_in size slop worst cost') b
  shaped-cost s =
      shaped-within (figures_in size slop worst cost') b (formed (figures_in size slop worst cost) b s)
      (subst (λ (rs : List Row). WithinLimits (size - slop) rs) rows-cost s.within)
