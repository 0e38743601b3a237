-- What a ledger means, which journals stand behind it, when it is sound, and what an order does to it.
use Rattle.std.specs.Prelude.{◌≡◌, ℕ, Bool, List}
use Rattle.pool.specs.declared.allocator.Allocator.{Ghosts as AllocatorMembers}
use Rattle.costs.specs.declared.policy.CostPolicy.{Ghosts as PolicyMembers}
use Rattle.orders.specs.declared.answer.Answer.{Answer}
use Rattle.orders.specs.declared.answer.Answer.TheVariants.{Done, Refused, Told, Stopped}
use Rattle.orders.specs.Meaning.{Meaning, folder, volume, quota, reserve, resize, begin, hold_writes, hold_frees, assign, abort, write, free, commit, turn, tell}
use Rattle.rules.specs.declared.state.Holder.{Holder}
use Rattle.rules.specs.Figures.{Figures}
use Rattle.rules.specs.Book.{Book}
use Rattle.rules.specs.Answers.{answer}
use Rattle.rules.specs.Journal.{Entry, book_after, holders_after}
use Rattle.rules.specs.Theorems.{Moved, Fits}
use Rattle.marks.specs.declared.marks.Marks.{Marks}
use Rattle.marks.specs.Sound.{pool_of as pool_in, holders_of as holders_in, size_of}
use Rattle.tally.specs.declared.Tally.{Tally}
use Rattle.tally.specs.Parts.{book_of as book_in, Same}
use Rattle.ledger.specs.declared.Ledger.{Ledger}
use Rattle.ledger.specs.Joined.{figures_in, StandsIn, SoundIn}

-- gA and gP are the members of the allocator and of the policy: a ledger's type has them.
module _ {A P : Type 0} {gA : AllocatorMembers A} {gP : PolicyMembers P} where
  -- the datasets and transactions
  abbrev pub book_of : Ledger A P gA gP → Book
  book_of l = book_in l.tally

  -- the holder of each unit
  abbrev pub holders_of : Ledger A P gA gP → List Holder
  holders_of l = holders_in l.marks

  abbrev pub pool_of : Ledger A P gA gP → A
  pool_of l = pool_in l.marks

  -- whether each unit is out
  abbrev pub units_of : Ledger A P gA gP → List Bool
  units_of l = gA.units (pool_of l)

  -- the allocator's lent memory
  abbrev pub lent_of : Ledger A P gA gP → List (ℕ × ℕ × List ℕ)
  lent_of l = gA.lent (pool_of l)

  -- its pool's size, its slop, and its policy's cost and worst cost
  abbrev pub figures : Ledger A P gA gP → Figures
  figures l = figures_in gP l.tally l.policy

  -- A journal stands behind a ledger whose figures are F: it leads to the ledger's book, holders and units, and it is lawful.
  abbrev pub Stands : Figures → Ledger A P gA gP → List Entry → Type 0
  Stands F l j = StandsIn gA gP F l.tally l.marks l.policy j

  abbrev pub Sound : Ledger A P gA gP → Type 0
  Sound l = SoundIn gA gP l.tally l.marks l.policy

-- a refused order leaves the whole of what there was, and so does tell
abbrev pub Untouched : {X : Type 0} → X → X → Answer → Type 0
Untouched old new (Done v) = Unit {0}
Untouched old new (Refused f) = new ≡ old
Untouched old new (Told f) = new ≡ old
Untouched old new (Stopped n p) = new ≡ old

-- only a write and a turn change the allocator
abbrev pub PoolKept : {A : Type 0} → Meaning → A → A → Type 0
PoolKept (folder p n) old new = new ≡ old
PoolKept (volume p r n) old new = new ≡ old
PoolKept (quota d u) old new = new ≡ old
PoolKept (reserve d u) old new = new ≡ old
PoolKept (resize v n) old new = new ≡ old
PoolKept (begin t v) old new = new ≡ old
PoolKept (hold_writes t n) old new = new ≡ old
PoolKept (hold_frees t n) old new = new ≡ old
PoolKept (assign t) old new = new ≡ old
PoolKept (abort t) old new = new ≡ old
PoolKept (write t r s) old new = Unit {0}
PoolKept (free t r) old new = new ≡ old
PoolKept (commit t) old new = new ≡ old
PoolKept turn old new = Unit {0}
PoolKept (tell d) old new = new ≡ old

-- From l to these parts by an order that is answered a.
pub record DidTo {A P : Type 0} {gA : AllocatorMembers A} {gP : PolicyMembers P} (l : Ledger A P gA gP) (tally : Tally) (marks : Marks A gA) (policy : P) (m : Meaning) (a : Answer) : Type 0 where
  pub fits : Fits m
  pub policy_same : policy ≡ l.policy
  pub same : Same l.tally tally
  pub size_same : size_of marks ≡ size_of l.marks
  -- the answer is that of the rules, and so is the effect on the book and on the holders
  pub answered : a ≡ answer (figures l) (book_of l) m
  pub booked : book_in tally ≡ book_after (figures l) (book_of l) m a
  pub marked : holders_in marks ≡ holders_after (book_of l) m a (units_of l) (gA.units (pool_in marks)) (holders_of l)
  -- the units changed only as the order may change them
  pub moved : Moved (figures l) m a (holders_of l) (units_of l) (gA.units (pool_in marks))
  pub tally_left : Untouched l.tally tally a
  pub marks_left : Untouched l.marks marks a
  pub pool_kept : PoolKept m (pool_of l) (pool_in marks)
  pub lent : gA.lent (pool_in marks) ≡ lent_of l

-- from l to l'
abbrev pub Did : {A P : Type 0} {gA : AllocatorMembers A} {gP : PolicyMembers P} → Ledger A P gA gP → Ledger A P gA gP → Meaning → Answer → Type 0
Did l l' m a = DidTo l l'.tally l'.marks l'.policy m a
