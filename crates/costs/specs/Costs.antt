-- What a write of so many sectors costs in units.
use Rattle.std.specs.Prelude.{◌≡◌, ℕ, ◌+◌, ◌-◌, ◌*◌, ◌/◌, ◌<◌, ◌≤◌}

-- a record's sectors: the largest size of a write
abbrev pub largest : ℕ
largest = 16

-- What generic code may count on, of any policy: a write of nothing costs nothing, any other at least one unit and at most the
-- worst, and the worst is small.
pub record Bounded (cost : ℕ → ℕ) (worst : ℕ) : Type 0 where
  pub nothing : cost 0 ≡ 0
  pub something : (size : ℕ) → 1 ≤ size → size ≤ largest → 1 ≤ cost size
  pub within : (size : ℕ) → size ≤ largest → cost size ≤ worst
  pub small : worst ≤ 64

-- a divided by b, rounded up
abbrev pub ceiling_div : ℕ → ℕ → ℕ
ceiling_div a b = (a + (b - 1)) / b

-- the least multiple of m that is not below a
abbrev pub rounded_up : ℕ → ℕ → ℕ
rounded_up a m = ceiling_div a m * m

-- n copies of each sector
abbrev pub CopiesFit : ℕ → Type 0
CopiesFit n = (1 ≤ n) × (n ≤ 3)

abbrev pub copies_cost : ℕ → ℕ → ℕ
copies_cost n size = size * n

-- Raidz of p parity sectors over w disks: each row of up to w − p data sectors has p parity sectors, and the whole is rounded up to
-- a multiple of p + 1, so that no free gap is too small to be used.
abbrev pub ParityFit : ℕ → ℕ → Type 0
ParityFit p w = (1 ≤ p) × (p ≤ 3) × (p < w) × (w ≤ 16)

abbrev pub parity_cost : ℕ → ℕ → ℕ → ℕ
parity_cost p w size = rounded_up (size + p * ceiling_div size (w - p)) (p + 1)
