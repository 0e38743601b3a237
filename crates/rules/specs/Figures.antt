-- The figures that a ledger is made with.
use Rattle.std.specs.Prelude.{ℕ, ◌<◌, ◌≤◌}
use Rattle.costs.specs.Costs.{Bounded}
use Rattle.charges.specs.Amounts.{room_of}

pub record Figures : Type 0 where
  -- the units of the pool
  pub size : ℕ
  -- the units kept back
  pub slop : ℕ
  -- the cost in units of a write of so many sectors, and the most that a write costs
  pub cost : ℕ → ℕ
  pub worst : ℕ

-- the units that may be charged: the limit of the root
abbrev pub room : Figures → ℕ
room F = room_of F.size F.slop

-- what a making has checked
pub record Sane (F : Figures) : Type 0 where
  pub some : 1 ≤ F.size
  pub few : F.size ≤ 4096
  pub kept_back : F.slop < F.size
  pub bounded : Bounded F.cost F.worst
