-- The book of a ledger, put together from the parts that keep it: the tree's rows and kinds, what the datasets hold, and the transactions.
use Rattle.std.specs.Prelude.{ℕ, List, [], map, length, slice_index_or}
use Rattle.std.specs.List.{range_with_len}
use Rattle.charges.specs.declared.Row.{Row}
use Rattle.charges.specs.Tree.{row}
use Rattle.rules.specs.declared.state.Kind.{Kind}
use Rattle.rules.specs.declared.state.Contents.{Contents}
use Rattle.rules.specs.declared.state.Transaction.{Transaction}
use Rattle.rules.specs.Figures.{Figures}
use Rattle.rules.specs.Book.{Dataset, Book}
use Rattle.tree.specs.declared.Tree.{Tree}
use Rattle.tree.specs.Parts.{rows_of, kinds_of}
use Rattle.tree.specs.Answers.{kind_in}

-- what nothing holds
abbrev pub no_contents : Contents
no_contents = record { name = []; records = 0; units = []; deferred = 0 }

abbrev pub contents_at : List Contents → ℕ → Contents
contents_at contents d = slice_index_or contents d no_contents

abbrev pub dataset_at : List Row → List Kind → List Contents → ℕ → Dataset
dataset_at rows kinds contents d =
    record {
      parent = (row rows d).parent;
      quota = (row rows d).quota;
      reservation = (row rows d).reservation;
      kind = kind_in kinds d;
      contents = contents_at contents d;
    }

-- a dataset for each row
unfoldable pub datasets_in : List Row → List Kind → List Contents → List Dataset
datasets_in rows kinds contents = map (dataset_at rows kinds contents) (range_with_len 0 (length rows))

abbrev pub book_in : Tree → List Contents → List Transaction → Book
book_in tree contents transactions = record { datasets = datasets_in (rows_of tree) (kinds_of tree) contents; transactions = transactions }

abbrev pub figures_in : ℕ → ℕ → ℕ → (ℕ → ℕ) → Figures
figures_in size slop worst cost = record { size = size; slop = slop; cost = cost; worst = worst }
