-- What an accepted order does to the book. A record's units come from the policy's cost alone; no unit is seen here.
use Rattle.std.specs.Prelude.{ℕ, zero, suc, ◌+◌, ◌-◌, [], ◌∷◌, ◌++◌, map, slice_index, slice_set}
use Rattle.orders.specs.Meaning.{Meaning, folder, volume, quota, reserve, resize, begin, hold_writes, hold_frees, assign, abort, write, free, commit, turn, tell}
use Rattle.rules.specs.declared.state.Kind.TheVariants.{Folder, Volume}
use Rattle.rules.specs.declared.state.Contents.{Contents}
use Rattle.rules.specs.declared.state.Transaction.{Transaction}
use Rattle.rules.specs.declared.state.Transaction.TheVariants.{Idle, Created, Held, Assigned}
use Rattle.rules.specs.Figures.{Figures}
use Rattle.rules.specs.Book.{Dataset, Book, dataset, transaction, empty, new, volume_of, writes_of, frees_of}

abbrev pub with_units : Contents → ℕ → ℕ → Contents
with_units c r n = record { name = c.name; records = c.records; units = slice_set c.units r n; deferred = c.deferred }

-- a record is emptied, its units deferred
abbrev pub emptied : Contents → ℕ → Contents
emptied c r = record { name = c.name; records = c.records; units = slice_set c.units r 0; deferred = c.deferred + slice_index c.units r }

-- n records from r on, one after the other
unfoldable pub emptied_from : ℕ → ℕ → Contents → Contents
emptied_from r zero c = c
emptied_from r (suc n) c = emptied_from (suc r) n (emptied c r)

abbrev pub with_records : ℕ → Contents → Contents
with_records n c = record { name = c.name; records = n; units = c.units; deferred = c.deferred }

-- n records, those past the new end emptied
abbrev pub resized : Contents → ℕ → Contents
resized c n = with_records n (emptied_from n (c.records - n) c)

-- nothing deferred any more
abbrev pub settled : Contents → Contents
settled c = record { name = c.name; records = c.records; units = c.units; deferred = 0 }

abbrev pub holding : Dataset → Contents → Dataset
holding d c = record { parent = d.parent; quota = d.quota; reservation = d.reservation; kind = d.kind; contents = c }

abbrev pub with_quota : Dataset → ℕ → Dataset
with_quota d u = record { parent = d.parent; quota = u; reservation = d.reservation; kind = d.kind; contents = d.contents }

abbrev pub with_reservation : Dataset → ℕ → Dataset
with_reservation d u = record { parent = d.parent; quota = d.quota; reservation = u; kind = d.kind; contents = d.contents }

abbrev pub with_new : Book → Dataset → Book
with_new b d = record { datasets = b.datasets ++ d ∷ []; transactions = b.transactions }

abbrev pub with_dataset : Book → ℕ → Dataset → Book
with_dataset b d x = record { datasets = slice_set b.datasets d x; transactions = b.transactions }

abbrev pub with_contents : Book → ℕ → Contents → Book
with_contents b d c = with_dataset b d (holding (dataset b d) c)

abbrev pub with_transaction : Book → ℕ → Transaction → Book
with_transaction b t x = record { datasets = b.datasets; transactions = slice_set b.transactions t x }

-- the effect of an accepted order, from the order table
abbrev pub next : Figures → Book → Meaning → Book
next F b (folder p n) = with_new b (new p Folder (empty n 0))
next F b (volume p r n) = with_new b (new p Volume (empty n r))
next F b (quota d u) = with_dataset b d (with_quota (dataset b d) u)
next F b (reserve d u) = with_dataset b d (with_reservation (dataset b d) u)
next F b (resize v n) = with_contents b v (resized (dataset b v).contents n)
next F b (begin t v) = with_transaction b t (Created v)
next F b (hold_writes t n) =
    with_transaction b t (Held (volume_of (transaction b t)) (writes_of (transaction b t) + n) (frees_of (transaction b t)))
next F b (hold_frees t n) =
    with_transaction b t (Held (volume_of (transaction b t)) (writes_of (transaction b t)) (frees_of (transaction b t) + n))
next F b (assign t) = with_transaction b t (Assigned (volume_of (transaction b t)) (writes_of (transaction b t)) (frees_of (transaction b t)))
next F b (abort t) = with_transaction b t Idle
next F b (write t r s) =
    with_transaction
    (with_contents b (volume_of (transaction b t)) (with_units (emptied (dataset b (volume_of (transaction b t))).contents r) r (F.cost s)))
    t (Assigned (volume_of (transaction b t)) (writes_of (transaction b t) - 1) (frees_of (transaction b t)))
next F b (free t r) =
    with_transaction (with_contents b (volume_of (transaction b t)) (emptied (dataset b (volume_of (transaction b t))).contents r))
    t (Assigned (volume_of (transaction b t)) (writes_of (transaction b t)) (frees_of (transaction b t) - 1))
next F b (commit t) = with_transaction b t Idle
next F b turn = record { datasets = map (λ d. holding d (settled d.contents)) b.datasets; transactions = b.transactions }
next F b (tell d) = b
