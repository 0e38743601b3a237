-- What many orders do, one after the other.
use Rattle.std.specs.Prelude.{◌≡◌, ℕ, Bool, cond, List, [], ◌∷◌, ◌++◌, length, drop, Ok, Err, Result, nat_le}
use Rattle.pool.specs.declared.allocator.Allocator.{Ghosts as AllocatorMembers}
use Rattle.costs.specs.declared.policy.CostPolicy.{Ghosts as PolicyMembers}
use Rattle.orders.specs.declared.answer.Answer.{Answer}
use Rattle.orders.specs.declared.answer.Answer.TheVariants.{Done, Refused, Told, Stopped}
use Rattle.orders.specs.Meaning.{Meaning}
use Rattle.rules.specs.Figures.{Figures}
use Rattle.rules.specs.Book.{fresh}
use Rattle.rules.specs.Journal.{Entry}
use Rattle.rules.specs.Served.{Exchange, served, book_then, answers_of, exchanges}
use Rattle.ledger.specs.declared.Ledger.{Ledger}
use Rattle.ledger.specs.declared.fault.MakeFault.{MakeFault}
use Rattle.ledger.specs.declared.fault.ServeFault.{ServeFault}
use Rattle.ledger.specs.declared.fault.ServeFault.TheVariants.{NotMade, FewPlaces}
use Rattle.ledger.specs.declared.serve.Unserved.{Unserved}
use Rattle.ledger.specs.Parts.{book_of, lent_of, figures, Stands, Sound}
use Rattle.ledger.specs.Makes.{check_answer}

-- an answer that says that nothing was changed
abbrev pub Changeless : Answer → Type 0
Changeless (Done v) = ⊥
Changeless (Refused f) = Unit {0}
Changeless (Told f) = Unit {0}
Changeless (Stopped n p) = Unit {0}

abbrev pub AllChangeless : List Exchange → Type 0
AllChangeless [] = Unit {0}
AllChangeless (x ∷ xs) = Changeless x.answer × AllChangeless xs

-- From l₀ to l by these exchanges.
pub record Through {A P : Type 0} {gA : AllocatorMembers A} {gP : PolicyMembers P} (l₀ l : Ledger A P gA gP) (xs : List Exchange) : Type 0 where
  pub figured : figures l ≡ figures l₀
  -- the book is the one that the exchanges lead to
  pub booked : book_of l ≡ book_then (figures l₀) (book_of l₀) xs
  -- every journal that stood stands with exactly these exchanges more
  pub law : (F : Figures) (j : List Entry) → Stands F l₀ j → (k : List Entry) × (Stands F l (k ++ j) × (exchanges k ≡ xs))
  -- refusals and tells leave the whole ledger
  pub untouched : AllChangeless xs → l ≡ l₀
  pub lent : lent_of l ≡ lent_of l₀

-- the figures of a ledger over these units, with this slop and policy
abbrev pub planned : {P : Type 0} → PolicyMembers P → List Bool → P → ℕ → Figures
planned gP us policy slop = record { size = length us; slop = slop; cost = gP.cost policy; worst = gP.worst policy }

-- whether n orders are served, with m places for answers; of several faults the first
abbrev pub made_or : Result (Unit {0}) MakeFault → Result (Unit {0}) ServeFault → Result (Unit {0}) ServeFault
made_or (Ok _) others = others
made_or (Err f) others = Err (NotMade f)

abbrev pub serve_answer : ℕ → List Bool → ℕ → ℕ → Result (Unit {0}) ServeFault
serve_answer slop us n m = made_or (check_answer slop us) (cond (nat_le n m) (Ok tt) (Err FewPlaces))

-- All orders ms were obeyed, and the answers stand in the first places: the rest of the places is as it was.
pub record AllServed {A P : Type 0} {gA : AllocatorMembers A} {gP : PolicyMembers P} (F : Figures) (ms : List Meaning) (places after : List Answer) (l : Ledger A P gA gP) : Type 0 where
  pub sound : Sound l
  pub figured : figures l ≡ F
  pub answered : after ≡ answers_of (served F fresh ms) ++ drop (length ms) places
  pub booked : book_of l ≡ book_then F fresh (served F fresh ms)
  -- a journal of exactly these orders and answers stands
  pub journal : List Entry
  pub stands : Stands F l journal
  pub exactly : exchanges journal ≡ served F fresh ms

module _ {A P : Type 0} {gA : AllocatorMembers A} {gP : PolicyMembers P} where
  -- What serving gives: a ledger, or the allocator and the policy as they were and nothing written.
  abbrev pub Serves : A → P → ℕ → List Meaning → List Answer → List Answer → Result (Ledger A P gA gP) (Unserved A P) → Type 0
  Serves pool policy slop ms places after (Ok l) =
      (serve_answer slop (gA.units pool) (length ms) (length places) ≡ Ok tt) × AllServed (planned gP (gA.units pool) policy slop) ms places after l
  Serves pool policy slop ms places after (Err u) =
      (serve_answer slop (gA.units pool) (length ms) (length places) ≡ Err u.fault) × (u.pool ≡ pool) × (u.policy ≡ policy) × (after ≡ places)
