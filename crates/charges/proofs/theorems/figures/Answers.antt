-- Computed; what the theorems ask of a tree is shown of the sample dataset by dataset.
use Rattle.std.proofs.Common.{◌≡◌, ℕ, zero, suc, ◌<◌, ◌≤◌, length, refl, arith}
use Rattle.charges.specs.Tree.{row, Rooted, load, charge, WithinLimits, climb}
use Rattle.charges.specs.Walk.{walk_along, first_past}
use Rattle.charges.specs.Figures.{sample}
use Rattle.charges.proofs.theorems.figures.Goals as goal

rooted : Rooted sample
rooted zero gt l = omega arith
rooted (suc zero) gt l = omega arith
rooted (suc (suc zero)) gt l = omega arith
rooted (suc (suc (suc zero))) gt l = omega arith
rooted (suc (suc (suc (suc zero)))) gt l = omega arith
rooted (suc (suc (suc (suc (suc zero))))) gt l = omega arith
rooted (suc (suc (suc (suc (suc (suc d)))))) gt l = absurd (omega arith)

within : WithinLimits 140 sample
unfolding load charge
within zero l = refl
within (suc zero) l = refl
within (suc (suc zero)) l = refl
within (suc (suc (suc zero))) l = refl
within (suc (suc (suc (suc zero)))) l = refl
within (suc (suc (suc (suc (suc zero))))) l = refl
within (suc (suc (suc (suc (suc (suc d)))))) l = absurd (omega arith)

in_quota : (d : ℕ) → d < length sample → ((row sample d).quota ≡ 0 → ⊥) → (row sample d).reservation ≤ (row sample d).quota
in_quota zero l ne = absurd (ne refl)
in_quota (suc zero) l ne = omega arith
in_quota (suc (suc zero)) l ne = absurd (ne refl)
in_quota (suc (suc (suc zero))) l ne = absurd (ne refl)
in_quota (suc (suc (suc (suc zero)))) l ne = absurd (ne refl)
in_quota (suc (suc (suc (suc (suc zero))))) l ne = omega arith
in_quota (suc (suc (suc (suc (suc (suc d)))))) l ne = absurd (omega arith)

pub returns : goal.returns
unfolding load charge climb walk_along first_past
returns c = record {
  room = refl;
  weights = refl;
  unspents = refl;
  root_limit = refl;
  quota_limit = refl;
  no_limit = refl;
  excesses = refl;
  no_excess = refl;
  rises = refl;
  falls = refl;
  reserves = refl;
  unreserves = refl;
  shorts = refl;
  with_change = refl;
  sample_rooted = rooted;
  sample_within = within;
  sample_reserved = record { root_none = refl; in_quota = in_quota };
  charges = refl;
  sample_weights = refl;
  sample_unspents = refl;
  limits = refl;
  folder_children = refl;
  paths = refl;
  granted = refl;
  quota_short = refl;
  root_short = refl;
  recomputed = refl;
  fallen = refl;
  reserved = refl;
  reserved_charge = refl;
}
