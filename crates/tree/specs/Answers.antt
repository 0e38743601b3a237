-- What each call answers, from the room, the rows and the kinds of the datasets alone. A refusal that is checked earlier stands further out.
use Rattle.std.specs.Prelude.{ℕ, ◌-◌, cond, ◌&&◌, List, length, ℤ, pos, Some, None, Ok, Err, Option, Result, ◌==◌, nat_le, nat_lt, slice_index_or}
use Rattle.charges.specs.declared.Row.{Row}
use Rattle.charges.specs.Amounts.{weight_of, reweighed}
use Rattle.charges.specs.Tree.{row, charge}
use Rattle.charges.specs.Walk.{walk}
use Rattle.rules.specs.declared.state.Kind.{Kind}
use Rattle.rules.specs.declared.state.Kind.TheVariants.{Folder, Volume}
use Rattle.tree.specs.declared.fault.TreeFault.{TreeFault}
use Rattle.tree.specs.declared.fault.TreeFault.TheVariants.{Missing, IsRoot, NotFolder, NotVolume, Full, RecordCount, QuotaTooSmall, ReservationTooLarge}
use Rattle.tree.specs.declared.node.Node.{Node}
use Rattle.tree.specs.declared.step.Arrival.{Arrival}
use Rattle.tree.specs.Faults.{limit_fault}

abbrev pub kind_in : List Kind → ℕ → Kind
kind_in kinds d = slice_index_or kinds d Folder

-- the answer where dataset d exists
abbrev pub if_exists : {X : Type 0} → List Row → ℕ → Result X TreeFault → Result X TreeFault
if_exists rows d answer = cond (nat_lt d (length rows)) answer (Err (Missing d))

abbrev pub if_not_root : {X : Type 0} → ℕ → Result X TreeFault → Result X TreeFault
if_not_root d answer = cond (d == 0) (Err (IsRoot d)) answer

abbrev pub if_folder : {X : Type 0} → Kind → ℕ → Result X TreeFault → Result X TreeFault
if_folder Folder d answer = answer
if_folder Volume d answer = Err (NotFolder d)

abbrev pub if_volume : {X : Type 0} → Kind → ℕ → Result X TreeFault → Result X TreeFault
if_volume Folder d answer = Err (NotVolume d)
if_volume Volume d answer = answer

-- the answer where the dataset is of the kind that is wanted
abbrev pub if_kind : {X : Type 0} → Kind → Kind → ℕ → Result X TreeFault → Result X TreeFault
if_kind Folder kind d answer = if_folder kind d answer
if_kind Volume kind d answer = if_volume kind d answer

-- at most 64 datasets
abbrev pub if_room : {X : Type 0} → List Row → Result X TreeFault → Result X TreeFault
if_room rows answer = cond (nat_lt (length rows) 64) answer (Err Full)

-- 1 to 64 records
abbrev pub if_records : {X : Type 0} → ℕ → Result X TreeFault → Result X TreeFault
if_records records answer = cond (nat_lt 0 records && nat_le records 64) answer (Err (RecordCount records))

-- a walk that names a dataset is a refusal
abbrev pub if_granted : {X : Type 0} → Option (ℕ × ℕ) → Result X TreeFault → Result X TreeFault
if_granted None answer = answer
if_granted (Some walked) answer = Err (limit_fault walked)

-- a quota that is not 0 is below neither the charge nor the reservation
abbrev pub if_quota : {X : Type 0} → ℕ → ℕ → ℕ → ℕ → Result X TreeFault → Result X TreeFault
if_quota d units charge reservation answer =
    (cond (units == 0) answer
    (cond (nat_lt units (weight_of charge reservation)) (Err (QuotaTooSmall d (weight_of charge reservation - units)))
    answer))

-- a reservation does not pass a quota that is not 0
abbrev pub if_reservation : {X : Type 0} → ℕ → ℕ → ℕ → Result X TreeFault → Result X TreeFault
if_reservation d units quota answer =
    (cond (quota == 0) answer
    (cond (nat_lt quota units) (Err (ReservationTooLarge d (units - quota)))
    answer))

abbrev pub as_dataset : List Row → ℕ → Result (Unit {0}) TreeFault
as_dataset rows d = if_exists rows d (Ok tt)

abbrev pub as_volume : List Row → List Kind → ℕ → Result (Unit {0}) TreeFault
as_volume rows kinds d = if_exists rows d (if_volume (kind_in kinds d) d (Ok tt))

abbrev pub as_folder : List Row → List Kind → ℕ → Result (Unit {0}) TreeFault
as_folder rows kinds d = if_exists rows d (if_folder (kind_in kinds d) d (Ok tt))

-- what is kept of dataset d
abbrev pub node_in : List Row → List Kind → ℕ → Node
node_in rows kinds d = record { row = row rows d; charge = charge rows d; kind = kind_in kinds d }

abbrev pub as_node : List Row → List Kind → ℕ → Result Node TreeFault
as_node rows kinds d = if_exists rows d (Ok (node_in rows kinds d))

abbrev pub as_child : List Row → List Kind → ℕ → Result Node TreeFault
as_child rows kinds d = if_exists rows d (if_not_root d (Ok (node_in rows kinds d)))

abbrev pub charge_answer : List Row → ℕ → Result ℕ TreeFault
charge_answer rows d = if_exists rows d (Ok (charge rows d))

-- a dataset that does not exist has no limit to pass
abbrev pub walk_answer : ℕ → List Row → ℕ → ℤ → Option (ℕ × ℕ)
walk_answer room rows d change = cond (nat_lt d (length rows)) (walk room rows d change) None

-- the new dataset's number
abbrev pub folder_answer : List Row → List Kind → ℕ → Result ℕ TreeFault
folder_answer rows kinds parent = if_exists rows parent (if_folder (kind_in kinds parent) parent (if_room rows (Ok (length rows))))

abbrev pub volume_answer : List Row → List Kind → ℕ → ℕ → Result ℕ TreeFault
volume_answer rows kinds parent records =
    if_exists rows parent (if_folder (kind_in kinds parent) parent (if_room rows (if_records records (Ok (length rows)))))

-- the charge
abbrev pub quota_answer : List Row → ℕ → ℕ → Result ℕ TreeFault
quota_answer rows d units = if_exists rows d (if_not_root d (if_quota d units (charge rows d) (row rows d).reservation (Ok (charge rows d))))

-- what another reservation does to the parent: the change of the dataset's weight
abbrev pub reservation_arrival : List Row → ℕ → ℕ → Arrival
reservation_arrival rows d units =
    record { dataset = (row rows d).parent; change = reweighed (charge rows d) (row rows d).reservation units }

-- the walk for another reservation: from the parent up
abbrev pub reservation_walk : ℕ → List Row → ℕ → ℕ → Option (ℕ × ℕ)
reservation_walk room rows d units = walk room rows (row rows d).parent (reweighed (charge rows d) (row rows d).reservation units)

-- the new weight
abbrev pub reservation_answer : ℕ → List Row → ℕ → ℕ → Result ℕ TreeFault
reservation_answer room rows d units =
    if_exists rows d (if_not_root d (if_reservation d units (row rows d).quota
    (if_granted (reservation_walk room rows d units) (Ok (weight_of (charge rows d) units)))))

abbrev pub raise_answer : ℕ → List Row → ℕ → ℕ → Result (Unit {0}) TreeFault
raise_answer room rows d units = if_exists rows d (if_granted (walk room rows d (pos units)) (Ok tt))

-- a row of a new dataset
abbrev pub child : ℕ → Row
child parent = record { parent = parent; quota = 0; reservation = 0; own = 0 }
