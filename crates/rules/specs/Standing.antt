-- When a journal stands behind a state: it leads to that state, and it is lawful.
use Rattle.std.specs.Prelude.{◌≡◌, Bool, List}
use Rattle.orders.specs.declared.answer.Answer.{Answer}
use Rattle.orders.specs.Meaning.{Meaning}
use Rattle.rules.specs.declared.state.Holder.{Holder}
use Rattle.rules.specs.Figures.{Figures}
use Rattle.rules.specs.Book.{Book}
use Rattle.rules.specs.Journal.{Entry, replay, out_after, Chained}
use Rattle.rules.specs.Law.{Lawful}

abbrev pub entry : Meaning → Answer → List Bool → List Bool → Entry
entry m a us vs = record { order = m; answer = a; before = us; after = vs }

pub record Standing (F : Figures) (b : Book) (hs : List Holder) (us : List Bool) (j : List Entry) : Type 0 where
  -- each order found the units as the one before left them, the first found all in, and they are now as the last left them
  pub chained : Chained F j
  pub units_now : out_after F j ≡ us
  -- the replay is the book and the holders
  pub book_now : (replay F j).book ≡ b
  pub holders_now : (replay F j).holders ≡ hs
  pub lawful : Lawful F j
