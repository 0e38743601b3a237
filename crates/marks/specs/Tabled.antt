-- What a table says: the holder of each unit, in well linked lists.
use Rattle.std.specs.Prelude.{◌≡◌, ℕ, ◌<◌, ◌≤◌, true, false, Some, None, List, Option, length, take, slice_index_or, slice_set}
use Rattle.rules.specs.Holders.{same, is_deferred}
use Rattle.rules.specs.declared.state.Holder.{Holder}
use Rattle.rules.specs.declared.state.Holder.TheVariants.{Nobody, Record, Deferred}
use Rattle.marks.specs.declared.table.Table.{Table}
use Rattle.marks.specs.Linked.{Linked}
use Rattle.marks.specs.Units.{holders_in, nexts_in}

-- the holder of each unit
abbrev pub rows_of : Table → List Holder
rows_of t = take t.size (holders_in t.units)

-- a table that is well made
pub record Tabled (t : Table) : Type 0 where
  pub small : t.size ≤ 4096
  pub whole : length t.units ≡ 4096
  pub linked : Linked t.size (rows_of t) (nexts_in t.units) t.first t.deferred

-- a unit of record r of volume v is deferred; or the record has none, and nothing changes
abbrev pub Shifted : ℕ → ℕ → Table → Table → Option ℕ → Type 0
Shifted v r t t' (Some u) = (u < t.size) × (slice_index_or (rows_of t) u Nobody ≡ Record v r) × (rows_of t' ≡ slice_set (rows_of t) u (Deferred v))
Shifted v r t t' None = ((u : ℕ) → same (Record v r) (slice_index_or (rows_of t) u Nobody) ≡ false) × (t' ≡ t)

-- a deferred unit becomes nobody's; or none is deferred, and nothing changes
abbrev pub Released : Table → Table → Option ℕ → Type 0
Released t t' (Some u) = (u < t.size) × (is_deferred (slice_index_or (rows_of t) u Nobody) ≡ true) × (rows_of t' ≡ slice_set (rows_of t) u Nobody)
Released t t' None = ((u : ℕ) → is_deferred (slice_index_or (rows_of t) u Nobody) ≡ false) × (t' ≡ t)
