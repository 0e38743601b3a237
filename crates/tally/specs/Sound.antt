-- What holds of the fields of every tally, whatever a write costs.
use Rattle.std.specs.Prelude.{◌≡◌, ℕ, ◌-◌, ◌<◌, ◌≤◌, List, length}
use Rattle.rules.specs.declared.state.Contents.{Contents}
use Rattle.rules.specs.declared.state.Transaction.{Transaction}
use Rattle.charges.specs.Tree.{row}
use Rattle.rules.specs.Book.{own}
use Rattle.rules.specs.Invariant.{Shaped}
use Rattle.tree.specs.declared.Tree.{Tree}
use Rattle.tree.specs.Parts.{rows_of, room_of}
use Rattle.tally.specs.Joined.{book_in, figures_in}

-- the figures that a making has checked
abbrev pub Sized : ℕ → ℕ → ℕ → Type 0
Sized size slop worst = (1 ≤ size) × (size ≤ 4096) × (slop < size) × (worst ≤ 64)

pub record Sound (size slop worst : ℕ) (tree : Tree) (contents : List Contents) (transactions : List Transaction) : Type 0 where
  pub room_is : room_of tree ≡ size - slop
  pub contents_long : length contents ≡ 64
  -- the own units in the tree are those that follow from the book
  pub own_are : (cost : ℕ → ℕ) (d : ℕ) → d < length (rows_of tree) →
      (row (rows_of tree) d).own ≡ own (figures_in size slop worst cost) (book_in tree contents transactions) d
  pub shaped : (cost : ℕ → ℕ) → Shaped (figures_in size slop worst cost) (book_in tree contents transactions)
