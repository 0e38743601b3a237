-- Orders obeyed one after the other, and what a journal tells of them.
use Rattle.std.specs.Prelude.{ℕ, List, [], ◌∷◌, ◌++◌}
use Rattle.orders.specs.declared.answer.Answer.{Answer}
use Rattle.orders.specs.Meaning.{Meaning}
use Rattle.orders.specs.Layout.{answer_bytes}
use Rattle.rules.specs.Figures.{Figures}
use Rattle.rules.specs.Book.{Book}
use Rattle.rules.specs.Answers.{answer}
use Rattle.rules.specs.Journal.{Entry, book_after}

-- an order and what it was answered
pub record Exchange : Type 0 where
  pub order : Meaning
  pub answer : Answer

abbrev pub exchange : Meaning → Answer → Exchange
exchange m a = record { order = m; answer = a }

-- each order with its answer by the rules, the first to a ledger with this book
abbrev pub served : Figures → Book → List Meaning → List Exchange
served F b [] = []
served F b (m ∷ ms) = exchange m (answer F b m) ∷ served F (book_after F b m (answer F b m)) ms

-- the book that exchanges lead to
abbrev pub book_then : Figures → Book → List Exchange → Book
book_then F b [] = b
book_then F b (x ∷ xs) = book_then F (book_after F b x.order x.answer) xs

abbrev pub answers_of : List Exchange → List Answer
answers_of [] = []
answers_of (x ∷ xs) = x.answer ∷ answers_of xs

-- the bytes of the answers, one after the other
abbrev pub bytes_of : List Exchange → List ℕ
bytes_of [] = []
bytes_of (x ∷ xs) = answer_bytes x.answer ++ bytes_of xs

-- the exchanges of a journal, the oldest first
abbrev pub exchanges : List Entry → List Exchange
exchanges [] = []
exchanges (e ∷ older) = exchanges older ++ exchange e.order e.answer ∷ []
