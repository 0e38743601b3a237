-- What a tally is to its callers: its figures and its book; and what a call did.
use Rattle.std.specs.Prelude.{◌≡◌, ℕ, ◌<◌, Ok, Err, Result, slice_set}
use Rattle.orders.specs.declared.answer.Answer.{Answer}
use Rattle.orders.specs.declared.answer.Answer.TheVariants.{Done, Refused, Told, Stopped}
use Rattle.orders.specs.Meaning.{Meaning, write}
use Rattle.rules.specs.declared.state.Transaction.{Transaction}
use Rattle.rules.specs.declared.state.Transaction.TheVariants.{Assigned}
use Rattle.rules.specs.Figures.{Figures}
use Rattle.rules.specs.Book.{Book, fresh, transaction, records, volume_of, writes_of, frees_of}
use Rattle.rules.specs.Answers.{answer}
use Rattle.rules.specs.Effects.{next}
use Rattle.rules.specs.Journal.{book_after}
use Rattle.tally.specs.declared.Tally.{Tally}
use Rattle.tally.specs.declared.fault.LedgerFault.{LedgerFault}
use Rattle.tally.specs.declared.records.Freed.{Freed}
use Rattle.tally.specs.declared.records.Resized.{Resized}
use Rattle.tally.specs.Faults.{refusal_of}
use Rattle.tally.specs.Joined.{book_in, figures_in}

abbrev pub book_of : Tally → Book
book_of t = book_in t.tree t.contents t.transactions

-- with what a write costs, which a tally does not know
abbrev pub figures_of : (ℕ → ℕ) → Tally → Figures
figures_of cost t = figures_in t.size t.slop t.worst cost

-- made with the same figures
pub record Same (t t' : Tally) : Type 0 where
  pub size : t'.size ≡ t.size
  pub slop : t'.slop ≡ t.slop
  pub worst : t'.worst ≡ t.worst

-- a refusal leaves the whole tally as it was
abbrev pub Left : Tally → Tally → Answer → Type 0
Left t t' (Done v) = Unit {0}
Left t t' (Refused f) = t' ≡ t
Left t t' (Told f) = t' ≡ t
Left t t' (Stopped n p) = t' ≡ t

-- From t to t' by an order that is answered a: the answer and the effect are those of the rules, whatever a write costs.
pub record Did (t t' : Tally) (m : Meaning) (a : Answer) : Type 0 where
  pub answered : (cost : ℕ → ℕ) → a ≡ answer (figures_of cost t) (book_of t) m
  pub booked : (cost : ℕ → ℕ) → book_of t' ≡ book_after (figures_of cost t) (book_of t) m a
  pub same : Same t t'
  pub left : Left t t' a

-- only transaction x is set anew
pub record Put (t t' : Tally) (x : ℕ) (state : Transaction) : Type 0 where
  pub same : Same t t'
  pub tree : t'.tree ≡ t.tree
  pub contents : t'.contents ≡ t.contents
  pub transactions : t'.transactions ≡ slice_set t.transactions x state

-- how every tally begins
pub record Fresh (size slop worst : ℕ) (t : Tally) : Type 0 where
  pub size_is : t.size ≡ size
  pub slop_is : t.slop ≡ slop
  pub worst_is : t.worst ≡ worst
  pub book_is : book_of t ≡ fresh

-- the units that were deferred
abbrev pub freed_of : Result Freed LedgerFault → Answer
freed_of (Ok freed) = Done freed.units
freed_of (Err f) = Refused (refusal_of f)

abbrev pub resized_of : Result Resized LedgerFault → Answer
resized_of (Ok resized) = Done resized.units
resized_of (Err f) = Refused (refusal_of f)

-- the volume of a record that was emptied
abbrev pub OnVolume : Tally → ℕ → Result Freed LedgerFault → Type 0
OnVolume t x (Ok freed) = freed.volume ≡ volume_of (transaction (book_of t) x)
OnVolume t x (Err f) = Unit {0}

-- transaction x is assigned and has a write left, and its volume has record r
pub record Writable (t : Tally) (x r : ℕ) : Type 0 where
  pub listed : x < 32
  pub assigned : transaction (book_of t) x
      ≡ Assigned (volume_of (transaction (book_of t) x)) (writes_of (transaction (book_of t) x)) (frees_of (transaction (book_of t) x))
  pub some_left : 0 < writes_of (transaction (book_of t) x)
  pub below_end : r < records (book_of t) (volume_of (transaction (book_of t) x))

-- a write of s sectors that is accepted with its cost, on volume v
pub record Accepts (t : Tally) (x r s v : ℕ) : Type 0 where
  pub answered : (cost : ℕ → ℕ) → answer (figures_of cost t) (book_of t) (write x r s) ≡ Done (cost s)
  pub writable : Writable t x r
  pub volume_is : v ≡ volume_of (transaction (book_of t) x)

-- what a write is answered, whatever it costs
abbrev pub Checked : Tally → ℕ → ℕ → ℕ → Result ℕ LedgerFault → Type 0
Checked t x r s (Ok v) = Accepts t x r s v
Checked t x r s (Err f) = (cost : ℕ → ℕ) → answer (figures_of cost t) (book_of t) (write x r s) ≡ Refused (refusal_of f)

-- the effect of a write that cost n, of whatever size that was
pub record Wrote (t t' : Tally) (x r n : ℕ) : Type 0 where
  pub same : Same t t'
  pub booked : (cost : ℕ → ℕ) (s : ℕ) → cost s ≡ n → book_of t' ≡ next (figures_of cost t) (book_of t) (write x r s)

-- how many records the volume had
abbrev pub HadRecords : Tally → ℕ → Result Resized LedgerFault → Type 0
HadRecords t v (Ok resized) = resized.old ≡ records (book_of t) v
HadRecords t v (Err f) = Unit {0}
