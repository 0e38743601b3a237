-- Journals, and their replay, which takes nothing from what a ledger keeps.
use Rattle.std.specs.Prelude.{◌≡◌, Bool, false, List, [], ◌∷◌, replicate}
use Rattle.orders.specs.declared.answer.Answer.{Answer}
use Rattle.orders.specs.declared.answer.Answer.TheVariants.{Done, Refused, Told, Stopped}
use Rattle.orders.specs.Meaning.{Meaning}
use Rattle.rules.specs.declared.state.Holder.{Holder}
use Rattle.rules.specs.declared.state.Holder.TheVariants.{Nobody}
use Rattle.rules.specs.Figures.{Figures}
use Rattle.rules.specs.Book.{Book, fresh}
use Rattle.rules.specs.Effects.{next}
use Rattle.rules.specs.Marks.{mark}

-- an order, what it was answered, and the units out before and after it
pub record Entry : Type 0 where
  pub order : Meaning
  pub answer : Answer
  pub before : List Bool
  pub after : List Bool

-- the datasets and transactions, and the holder of each unit
pub record State : Type 0 where
  pub book : Book
  pub holders : List Holder

-- how every ledger begins
abbrev pub start : Figures → State
start F = record { book = fresh; holders = replicate F.size Nobody }

-- an accepted order has its effect, a refused one none
abbrev pub book_after : Figures → Book → Meaning → Answer → Book
book_after F b m (Done v) = next F b m
book_after F b m (Refused f) = b
book_after F b m (Told f) = next F b m
book_after F b m (Stopped n p) = b

abbrev pub holders_after : Book → Meaning → Answer → List Bool → List Bool → List Holder → List Holder
holders_after b m (Done v) us vs hs = mark b m us vs hs
holders_after b m (Refused f) us vs hs = hs
holders_after b m (Told f) us vs hs = mark b m us vs hs
holders_after b m (Stopped n p) us vs hs = hs

-- A journal has its newest entry first. Its replay is the state that it leads to.
abbrev pub replay : Figures → List Entry → State
replay F [] = start F
replay F (e ∷ older) =
    record {
      book = book_after F (replay F older).book e.order e.answer;
      holders = holders_after (replay F older).book e.order e.answer e.before e.after (replay F older).holders;
    }

-- the units out at a journal's end: none at first
abbrev pub out_after : Figures → List Entry → List Bool
out_after F [] = replicate F.size false
out_after F (e ∷ older) = e.after

-- each order finds the units as the one before it left them
abbrev pub Chained : Figures → List Entry → Type 0
Chained F [] = Unit {0}
Chained F (e ∷ older) = (e.before ≡ out_after F older) × Chained F older
