-- What a script does to a book and what it is answered, by the rules alone.
use Rattle.std.specs.Prelude.{ℕ, zero, suc, ◌+◌, cond, List, [], ◌∷◌, length, nat_lt, Result, Ok, Err}
use Rattle.orders.specs.Layout.{answer_bytes}
use Rattle.reader.specs.Decode.{decode, order, fault, finished}
use Rattle.rules.specs.Figures.{Figures}
use Rattle.rules.specs.Book.{Book}
use Rattle.rules.specs.Answers.{answer}
use Rattle.rules.specs.Journal.{book_after}
use Rattle.rules.specs.Served.{Exchange, exchange, bytes_of}
use Rattle.runner.specs.declared.ended.Ended.{Ended}
use Rattle.runner.specs.declared.fault.ScriptFault.{ScriptFault}
use Rattle.runner.specs.declared.fault.ScriptFault.TheVariants.{TooLong, Unreadable, NoRoom}

-- a run: orders with their answers, and how it stops
pub data Ran : Type 0 where
  more : Exchange → Ran → Ran
  ends : Result ℕ ScriptFault → Ran

-- At most n orders of the script s from the place p on, with w answer bytes of the room used. The order there is read first; then 17 bytes of room are wanted.
unfoldable pub ran_from : ℕ → Figures → List ℕ → ℕ → Book → ℕ → ℕ → Ran
ran_from zero F s room b p w = ends (Ok p)
ran_from (suc n) F s room b p w =
    elim (decode s p) [
      | order m name q ↦
          cond (nat_lt room (w + 17)) (ends (Err (NoRoom p)))
          (more (exchange m (answer F b m)) (ran_from n F s room (book_after F b m (answer F b m)) q (w + length (answer_bytes (answer F b m)))))
      | fault f ↦ ends (Err (Unreadable f))
      | finished ↦ ends (Ok p)
    ]

-- The whole script. Each order has at least a byte, so there are no more orders than bytes.
abbrev pub ran : Figures → List ℕ → ℕ → Book → Ran
ran F s room b = cond (nat_lt 4096 (length s)) (ends (Err TooLong)) (ran_from (length s + 1) F s room b 0 0)

abbrev pub exchanges_in : Ran → List Exchange
exchanges_in (more x r) = x ∷ exchanges_in r
exchanges_in (ends s) = []

abbrev pub stop_of : Ran → Result ℕ ScriptFault
stop_of (more x r) = stop_of r
stop_of (ends s) = s

-- how a run stopped, how many orders it answered, and how many bytes it wrote
abbrev pub ended_with : Result ℕ ScriptFault → ℕ → ℕ → Ended
ended_with z n w = record { stop = z; answered = n; written = w }

-- what a run returns
abbrev pub end_of : Ran → Ended
end_of r = record { stop = stop_of r; answered = length (exchanges_in r); written = length (bytes_of (exchanges_in r)) }
