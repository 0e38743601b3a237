-- What a tree is to its callers: its room, and the rows and kinds of its datasets; and what becomes of it.
use Rattle.std.specs.Prelude.{◌≡◌, ℕ, ◌^◌, ◌<◌, ◌≤◌, List, [], ◌∷◌, length, Ok, Err, Result, slice_index_or}
use Rattle.charges.specs.declared.Row.{Row}
use Rattle.charges.specs.Tree.{blank, row, Rooted, WithinLimits, Reserved}
use Rattle.charges.specs.Keep.{Keeps}
use Rattle.rules.specs.declared.state.Kind.{Kind}
use Rattle.rules.specs.declared.state.Kind.TheVariants.{Folder}
use Rattle.tree.specs.declared.Tree.{Tree}
use Rattle.tree.specs.Nodes.{rows_in, charges_in, kinds_in}
use Rattle.tree.specs.declared.fault.TreeFault.{TreeFault}

-- the most units that the root may be charged
abbrev pub room_of : Tree → ℕ
room_of t = t.room

abbrev pub rows_of : Tree → List Row
rows_of t = rows_in t.nodes.items

-- the charges that are kept; they are those computed from the rows
abbrev pub charges_of : Tree → List ℕ
charges_of t = charges_in t.nodes.items

abbrev pub kinds_of : Tree → List Kind
kinds_of t = kinds_in t.nodes.items

-- What holds of every tree: the fields of a tree state it part by part.
pub record Sound (t : Tree) : Type 0 where
  pub small : room_of t < 2 ^ 16
  pub some : 0 < length (rows_of t)
  pub few : length (rows_of t) ≤ 64
  pub as_many : length (kinds_of t) ≡ length (rows_of t)
  -- every dataset but the root stands after its parent
  pub rooted : Rooted (rows_of t)
  -- the charges that are kept are those computed from the rows
  pub keeps : Keeps (rows_of t) (charges_of t)
  -- no charge passes its limit
  pub within : WithinLimits (room_of t) (rows_of t)
  -- no reservation passes the dataset's own quota; the root has neither, and is a folder
  pub reserved : Reserved (rows_of t)
  pub root_quota : (row (rows_of t) 0).quota ≡ 0
  pub root_folder : slice_index_or (kinds_of t) 0 Folder ≡ Folder

-- t' is t with these rows and kinds
pub record Becomes (t t' : Tree) (rows : List Row) (kinds : List Kind) : Type 0 where
  pub same_room : room_of t' ≡ room_of t
  pub rows_are : rows_of t' ≡ rows
  pub kinds_are : kinds_of t' ≡ kinds

-- After a call: these rows and kinds where it was accepted, and the whole tree as it was where it was refused.
abbrev pub After : {X : Type 0} → Tree → Tree → List Row → List Kind → Result X TreeFault → Type 0
After t t' rows kinds (Ok x) = Becomes t t' rows kinds
After t t' rows kinds (Err fault) = t' ≡ t

-- the root alone
pub record Fresh (room : ℕ) (t : Tree) : Type 0 where
  pub room_is : room_of t ≡ room
  pub rows_are : rows_of t ≡ blank ∷ []
  pub kinds_are : kinds_of t ≡ Folder ∷ []
