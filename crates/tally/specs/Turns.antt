-- The steps of a turn.
use Rattle.std.specs.Prelude.{◌≡◌, ℕ, zero, suc, cond, List, Ok, Err, count_by, Result, ◌==◌}
use Rattle.rules.specs.declared.state.Transaction.{Transaction}
use Rattle.rules.specs.Book.{Dataset, Book, dataset, deferred, is_assigned}
use Rattle.rules.specs.Answers.{first_assigned}
use Rattle.rules.specs.Effects.{settled, holding, with_dataset}
use Rattle.tally.specs.declared.Tally.{Tally}
use Rattle.tally.specs.declared.fault.LedgerFault.{LedgerFault}
use Rattle.tally.specs.declared.fault.LedgerFault.TheVariants.{StillAssigned}
use Rattle.tally.specs.Parts.{book_of, Same}

-- no transaction is assigned
abbrev pub turn_or : List Transaction → Result (Unit {0}) LedgerFault
turn_or ts = cond (count_by is_assigned ts == 0) (Ok tt) (Err (StillAssigned (first_assigned 0 ts) (count_by is_assigned ts)))

-- nothing deferred of a dataset any more
abbrev pub settled_dataset : Dataset → Dataset
settled_dataset x = holding x (settled x.contents)

-- of dataset d alone
abbrev pub settled_at : ℕ → Book → Book
settled_at d b = with_dataset b d (settled_dataset (dataset b d))

-- of the first n datasets
unfoldable pub settled_to : ℕ → Book → Book
settled_to zero b = b
settled_to (suc n) b = settled_at n (settled_to n b)

pub record Settled (t t' : Tally) (d units : ℕ) : Type 0 where
  pub same : Same t t'
  pub units_are : units ≡ deferred (book_of t) d
  pub booked : book_of t' ≡ settled_at d (book_of t)
