-- Own units are few: all charges stay within the room.
use Rattle.std.proofs.Common.{◌≡◌, ℕ, ◌+◌, ◌<◌, ◌≤◌, length, get_or, sym, ap, ◌∙◌, arith}
use Rattle.std.proofs.lemmas.List.Sums.{get_or-le-sum_by}
use Rattle.charges.specs.Tree.{charge}
use Rattle.charges.proofs.Bounds.{bound_law}
use Rattle.charges.proofs.Charge.{charge_equation}
use Rattle.charges.proofs.Limits.{limit-law}
use Rattle.rules.specs.declared.state.Contents.{Contents}
use Rattle.rules.specs.Figures.{room}
use Rattle.rules.specs.Book.{Dataset, dataset, made, own, rows}
use Rattle.rules.proofs.Rows.{row-own, in_rows, rows-rooted, rows-reserved, held_by}
use Rattle.tree.specs.Parts.{rows_of}
use Rattle.tally.specs.declared.Tally.{Tally}
use Rattle.tally.specs.Joined.{contents_at}
use Rattle.tally.specs.Parts.{book_of, figures_of}
use Rattle.tally.proofs.Sounds.{made-is, dataset-is, shaped}

module _ (t : Tally) (cost : ℕ → ℕ) (d : ℕ) (l : d < made (book_of t)) where
  pub charge-few : charge (rows (figures_of cost t) (book_of t)) d ≤ t.size
  charge-few =
      let F = figures_of cost t in
      let b = book_of t in
      let s = shaped t cost in
      let rs = rows F b in
      let there : 0 < length rs = omega (arith, in_rows F b d l) in
      omega (
        arith,
        (bound_law rs (rows-rooted F b s) (rows-reserved F b s).root_none).charges d (in_rows F b d l),
        (limit-law (room F) rs).root.0 (s.within 0 there),
      )

  pub own-few : own (figures_of cost t) (book_of t) d ≤ t.size
  own-few =
      let F = figures_of cost t in
      let b = book_of t in
      omega (arith, charge-few, row-own F b d l, charge_equation (rows F b) (rows-rooted F b (shaped t cost)) d (in_rows F b d l))

module _ (t : Tally) (v : ℕ) (l : v < length (rows_of t.tree)) where
  pub contents-is : (dataset (book_of t) v).contents ≡ contents_at t.contents v
  contents-is = ap (λ (x : Dataset). x.contents) (dataset-is t.tree t.contents t.transactions v l)

  pub units_long : length (contents_at t.contents v).units ≡ 64
  units_long = ap (λ (c : Contents). length c.units) (sym contents-is) ∙ ((shaped t (λ s. 0)).datasets v).contents.units_long

  pub held-few : held_by (contents_at t.contents v) ≤ t.size
  held-few =
      let lt : v < made (book_of t) = omega (arith, made-is t.tree t.contents t.transactions) in
      omega (arith, own-few t (λ s. 0) v lt, ap held_by contents-is)

  pub record-few : (r : ℕ) → r < 64 → (contents_at t.contents v).deferred + get_or (contents_at t.contents v).units r 0 ≤ t.size
  record-few r lr =
      omega (arith, held-few, get_or-le-sum_by (λ (x : ℕ). x) (contents_at t.contents v).units r 0 (omega (arith, units_long)))
