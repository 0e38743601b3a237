-- The columns of a table's units.
use Rattle.std.specs.Prelude.{ℕ, List, map}
use Rattle.rules.specs.declared.state.Holder.{Holder}
use Rattle.marks.specs.declared.unit.Unit.{Unit}

-- who has each unit
abbrev pub holders_in : List Unit → List Holder
holders_in units = map (λ u. u.holder) units

-- the unit that is next after each
abbrev pub nexts_in : List Unit → List ℕ
nexts_in units = map (λ u. u.next) units
