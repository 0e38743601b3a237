-- What holds of the fields of every tree, over the rows, the kept charges and the kinds of its datasets.
use Rattle.std.specs.Prelude.{◌≡◌, ℕ, ◌^◌, ◌<◌, ◌≤◌, Bool, true, false, List, length, ◌≢◌, slice_index, slice_index_or}
use Rattle.charges.specs.declared.Row.{Row}
use Rattle.charges.specs.Tree.{row, charge}
use Rattle.rules.specs.declared.state.Kind.{Kind}
use Rattle.rules.specs.declared.state.Kind.TheVariants.{Folder, Volume}

-- the room has two bytes, and there are 1 to 64 datasets
abbrev pub Sized : ℕ → ℕ → Type 0
Sized room made = (room < 2 ^ 16) × (0 < made) × (made ≤ 64)

-- each charge that is kept is the one computed from the rows
abbrev pub Kept : List Row → List ℕ → Type 0
Kept rows charges = (d : ℕ) → d < length rows → slice_index charges d ≡ charge rows d

-- no reservation passes the dataset's own quota, where it has one
abbrev pub InQuotas : List Row → Type 0
InQuotas rows = (d : ℕ) → d < length rows → ((row rows d).quota ≢ 0) → (row rows d).reservation ≤ (row rows d).quota

abbrev pub is_folder : Kind → Bool
is_folder Folder = true
is_folder Volume = false

-- the root is a folder, without quota and without reservation
abbrev pub FreeRoot : List Row → List Kind → Type 0
FreeRoot rows kinds = ((row rows 0).reservation ≡ 0) × ((row rows 0).quota ≡ 0) × (is_folder (slice_index_or kinds 0 Folder) ≡ true)
