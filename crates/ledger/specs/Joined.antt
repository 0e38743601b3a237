-- What a tally, the marks of a pool and a cost policy mean together, which journals stand behind them, and when they are sound.
-- A ledger's ghost field says the last, so no ledger is named here.
use Rattle.std.specs.Prelude.{◌≡◌, List}
use Rattle.pool.specs.declared.allocator.Allocator.{Ghosts as AllocatorMembers}
use Rattle.costs.specs.declared.policy.CostPolicy.{Ghosts as PolicyMembers}
use Rattle.rules.specs.Figures.{Figures, Sane}
use Rattle.rules.specs.Journal.{Entry}
use Rattle.rules.specs.Invariant.{Fair}
use Rattle.rules.specs.Standing.{Standing}
use Rattle.marks.specs.declared.marks.Marks.{Marks}
use Rattle.marks.specs.Sound.{Sound as MarksSound, pool_of as pool_in, holders_of as holders_in, size_of}
use Rattle.tally.specs.declared.Tally.{Tally}
use Rattle.tally.specs.Parts.{book_of as book_in}

-- the pool's size, the slop, and the policy's cost and worst cost
abbrev pub figures_in : {P : Type 0} → PolicyMembers P → Tally → P → Figures
figures_in gP tally policy = record { size = tally.size; slop = tally.slop; cost = gP.cost policy; worst = gP.worst policy }

-- A journal stands behind parts whose figures are F: it leads to the book, the holders and the units, and it is lawful.
pub record StandsIn {A P : Type 0} (gA : AllocatorMembers A) (gP : PolicyMembers P) (F : Figures) (tally : Tally) (marks : Marks A gA) (policy : P) (j : List Entry) : Type 0 where
  pub figured : F ≡ figures_in gP tally policy
  pub standing : Standing F (book_in tally) (holders_in marks) (gA.units (pool_in marks)) j

pub record SoundIn {A P : Type 0} (gA : AllocatorMembers A) (gP : PolicyMembers P) (tally : Tally) (marks : Marks A gA) (policy : P) : Type 0 where
  pub marks_sound : MarksSound gA.units marks
  pub worst_is : tally.worst ≡ gP.worst policy
  pub size_is : tally.size ≡ size_of marks
  pub sane : Sane (figures_in gP tally policy)
  pub fair : Fair (figures_in gP tally policy) (book_in tally) (holders_in marks) (gA.units (pool_in marks))
  -- some journal stands
  pub journal : List Entry
  pub stands : StandsIn gA gP (figures_in gP tally policy) tally marks policy journal
