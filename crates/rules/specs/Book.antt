-- The state of a ledger without its units: the datasets and the transactions, and what follows from them.
use Rattle.std.specs.Prelude.{ℕ, ◌+◌, ◌*◌, Bool, true, false, cond, ◌&&◌, List, [], ◌∷◌, map, length, replicate, sum_by, sum, ◌==◌, nat_lt, slice_index, slice_index_or}
use Rattle.std.specs.List.{range_with_len}
use Rattle.charges.specs.declared.Row.{Row}
use Rattle.charges.specs.Tree.{charge as charge_of, weight as weight_in}
use Rattle.rules.specs.declared.state.Kind.{Kind}
use Rattle.rules.specs.declared.state.Kind.TheVariants.{Folder, Volume}
use Rattle.rules.specs.declared.state.Contents.{Contents}
use Rattle.rules.specs.declared.state.Transaction.{Transaction}
use Rattle.rules.specs.declared.state.Transaction.TheVariants.{Idle, Created, Held, Assigned}
use Rattle.rules.specs.Figures.{Figures}

-- a dataset: its place in the tree with its quota and reservation, and what it holds
pub record Dataset : Type 0 where
  pub parent : ℕ
  pub quota : ℕ
  pub reservation : ℕ
  pub kind : Kind
  pub contents : Contents

-- dataset d is entry d of the list, transaction t entry t
pub record Book : Type 0 where
  pub datasets : List Dataset
  pub transactions : List Transaction

-- so many empty records
abbrev pub empty : List ℕ → ℕ → Contents
empty name records = record { name = name; records = records; units = replicate 64 0; deferred = 0 }

abbrev pub new : ℕ → Kind → Contents → Dataset
new parent kind contents = record { parent = parent; quota = 0; reservation = 0; kind = kind; contents = contents }

-- the root: a folder named POOL----
abbrev pub root : Dataset
root = new 0 Folder (empty (80 ∷ 79 ∷ 79 ∷ 76 ∷ 45 ∷ 45 ∷ 45 ∷ 45 ∷ []) 0)

-- how every ledger begins: the root alone, and 32 idle transactions
unfoldable pub fresh : Book
fresh = record { datasets = root ∷ []; transactions = replicate 32 Idle }

-- where there is no such dataset: a folder with nothing in it
abbrev pub dataset : Book → ℕ → Dataset
dataset b d = slice_index_or b.datasets d (new 0 Folder (empty [] 0))

abbrev pub transaction : Book → ℕ → Transaction
transaction b t = slice_index_or b.transactions t Idle

-- how many datasets there are
abbrev pub made : Book → ℕ
made b = length b.datasets

abbrev pub is_folder_kind : Kind → Bool
is_folder_kind Folder = true
is_folder_kind Volume = false

abbrev pub is_volume_kind : Kind → Bool
is_volume_kind Folder = false
is_volume_kind Volume = true

abbrev pub is_folder : Book → ℕ → Bool
is_folder b d = nat_lt d (made b) && is_folder_kind (dataset b d).kind

abbrev pub is_volume : Book → ℕ → Bool
is_volume b d = nat_lt d (made b) && is_volume_kind (dataset b d).kind

-- the records of a dataset, and the units of one
abbrev pub records : Book → ℕ → ℕ
records b d = (dataset b d).contents.records

abbrev pub units : Book → ℕ → ℕ → ℕ
units b d r = slice_index (dataset b d).contents.units r

abbrev pub record_units : Book → ℕ → ℕ
record_units b d = sum (dataset b d).contents.units

-- deferred units: those that the records lost since the last accepted turn
abbrev pub deferred : Book → ℕ → ℕ
deferred b d = (dataset b d).contents.deferred

abbrev pub all_deferred : Book → ℕ
all_deferred b = sum_by (λ d. d.contents.deferred) b.datasets

-- a transaction's volume
abbrev pub volume_of : Transaction → ℕ
volume_of Idle = 0
volume_of (Created v) = v
volume_of (Held v w f) = v
volume_of (Assigned v w f) = v

-- writes and frees held, or left of those held
abbrev pub writes_of : Transaction → ℕ
writes_of Idle = 0
writes_of (Created v) = 0
writes_of (Held v w f) = w
writes_of (Assigned v w f) = w

abbrev pub frees_of : Transaction → ℕ
frees_of Idle = 0
frees_of (Created v) = 0
frees_of (Held v w f) = f
frees_of (Assigned v w f) = f

abbrev pub is_assigned : Transaction → Bool
is_assigned Idle = false
is_assigned (Created v) = false
is_assigned (Held v w f) = false
is_assigned (Assigned v w f) = true

-- the number by which a refusal shows a state
abbrev pub state_number : Transaction → ℕ
state_number Idle = 0
state_number (Created v) = 1
state_number (Held v w f) = 2
state_number (Assigned v w f) = 3

-- estimate: what the writes may cost at worst
abbrev pub estimate : Figures → ℕ → ℕ
estimate F writes = writes * F.worst

-- unspent grant: the estimate of the writes that are left of an assigned transaction
abbrev pub grant_on : Figures → ℕ → Transaction → ℕ
grant_on F v Idle = 0
grant_on F v (Created u) = 0
grant_on F v (Held u w f) = 0
grant_on F v (Assigned u w f) = cond (u == v) (estimate F w) 0

abbrev pub unspent_grants : Figures → Book → ℕ → ℕ
unspent_grants F b v = sum_by (grant_on F v) b.transactions

-- own units: those of the records, the deferred ones, and the unspent grants
abbrev pub own : Figures → Book → ℕ → ℕ
own F b d = record_units b d + deferred b d + unspent_grants F b d

abbrev pub row_at : Figures → Book → ℕ → Row
row_at F b d =
    record { parent = (dataset b d).parent; quota = (dataset b d).quota; reservation = (dataset b d).reservation; own = own F b d }

-- the tree with every dataset's own units, from which charges are computed
unfoldable pub rows : Figures → Book → List Row
rows F b = map (row_at F b) (range_with_len 0 (made b))

abbrev pub charge : Figures → Book → ℕ → ℕ
charge F b d = charge_of (rows F b) d

abbrev pub weight : Figures → Book → ℕ → ℕ
weight F b d = weight_in (rows F b) d
