-- The law over whole journals.
use Rattle.std.specs.Prelude.{◌≡◌, ℕ, ◌^◌, ◌<◌, ◌≤◌, Bool, false, ◌⊎◌, ◌↔◌, List, [], ◌∷◌, length, ◌≢◌, slice_index_or}
use Rattle.orders.specs.declared.answer.Answer.{Answer}
use Rattle.orders.specs.declared.answer.Answer.TheVariants.{Done, Refused, Told, Stopped}
use Rattle.orders.specs.declared.answer.Layer.{Layer}
use Rattle.orders.specs.Meaning.{Meaning, assign, reserve, write}
use Rattle.charges.specs.declared.Row.{Row}
use Rattle.charges.specs.Amounts.{weight_of}
use Rattle.charges.specs.Tree.{WithinLimits, path, OnPath, unspent, raised, with_reservation}
use Rattle.charges.specs.Walk.{Nearest}
use Rattle.rules.specs.declared.state.Holder.{Holder}
use Rattle.rules.specs.declared.state.Holder.TheVariants.{Nobody, Record, Deferred}
use Rattle.rules.specs.declared.state.Kind.TheVariants.{Volume}
use Rattle.rules.specs.declared.state.Transaction.TheVariants.{Held, Assigned}
use Rattle.rules.specs.Figures.{Figures, room}
use Rattle.rules.specs.Book.{Book, dataset, transaction, made, records, units, deferred, estimate, rows, charge}
use Rattle.rules.specs.Answers.{refused_by_tree, answer}
use Rattle.rules.specs.Holders.{count, is_held}
use Rattle.rules.specs.Journal.{Entry, replay, out_after}

-- a holder is a record of a volume, or a volume
abbrev pub Exists : Book → Holder → Type 0
Exists b Nobody = Unit {0}
Exists b (Record v r) = (v < made b) × ((dataset b v).kind ≡ Volume) × (r < records b v)
Exists b (Deferred v) = (v < made b) × ((dataset b v).kind ≡ Volume)

-- each unit that is out has one holder, and each record and volume as many as the book counts
pub record Accounted (F : Figures) (b : Book) (hs : List Holder) (us : List Bool) : Type 0 where
  pub as_many_units : length us ≡ F.size
  pub as_many_holders : length hs ≡ F.size
  pub out_where_held : (u : ℕ) → slice_index_or us u false ≡ is_held (slice_index_or hs u Nobody)
  pub holders_exist : (u : ℕ) → Exists b (slice_index_or hs u Nobody)
  pub record_units : (v r : ℕ) → count (Record v r) hs ≡ units b v r
  pub deferred_units : (v : ℕ) → count (Deferred v) hs ≡ deferred b v

-- what holds at every point of a journal
pub record LawfulState (F : Figures) (b : Book) (hs : List Holder) (us : List Bool) : Type 0 where
  pub within_limits : WithinLimits (room F) (rows F b)
  pub units_accounted_for : Accounted F b hs us

-- Answered against charges computed anew, with the rows edited: done with a value exactly when every charge is within its limit, and otherwise
-- refused by 17 with the nearest on the path that is not, and its exact excess.
pub record Exact (room : ℕ) (edited : List Row) (ds : List ℕ) (value : ℕ) (a : Answer) : Type 0 where
  pub granted : (a ≡ Done value) ↔ WithinLimits room edited
  pub refused : (d s : ℕ) → (a ≡ refused_by_tree 17 d s) ↔ Nearest room edited ds d s
  pub either : (a ≡ Done value) ⊎ ((d : ℕ) × (s : ℕ) × (a ≡ refused_by_tree 17 d s))

-- the numbers of each layer
abbrev pub Own : Layer → ℕ → Type 0
Own Layer.Script n = ⊥
Own Layer.Transactions n = (5 ≤ n) × (n ≤ 11)
Own Layer.Tree n = (12 ≤ n) × (n ≤ 17)
Own Layer.Allocator n = ⊥

-- an answer to an order: refusals by the order's own table, and every value fits its field
abbrev pub Proper : Answer → Type 0
Proper (Done v) = v < 2 ^ 16
Proper (Refused f) = Own f.layer f.number × (f.item < 2 ^ 8) × (f.amount < 2 ^ 16)
Proper (Told f) =
    (length f.name ≡ 8) × (f.charge < 2 ^ 16) × (f.record_units < 2 ^ 16) × (f.deferred_units < 2 ^ 16) × (f.unspent_grants < 2 ^ 16)
Proper (Stopped n p) = ⊥

-- what holds of every entry, with the book before it
pub record LawfulEntry (F : Figures) (b : Book) (m : Meaning) (a : Answer) : Type 0 where
  pub answered : a ≡ answer F b m
  pub assign_is_exact : (t v w f : ℕ) → m ≡ assign t → t < 32 → transaction b t ≡ Held v w f →
      Exact (room F) (raised (rows F b) v (estimate F w)) (path (rows F b) v) (estimate F w) a
  pub reserve_is_exact : (d u : ℕ) → m ≡ reserve d u → 0 < d → d < made b → (((dataset b d).quota ≡ 0) ⊎ (u ≤ (dataset b d).quota)) →
      Exact (room F) (with_reservation (rows F b) d u) (path (rows F b) (dataset b d).parent) (weight_of (charge F b d) u) a
  pub writes_complete : (t r s v w f : ℕ) → m ≡ write t r s → t < 32 → transaction b t ≡ Assigned v w f → 0 < w → r < records b v → s ≤ 16 →
      a ≡ Done (F.cost s)
  pub reservations_are_not_blamed : (t v w f d e s : ℕ) → m ≡ assign t → transaction b t ≡ Held v w f → OnPath (rows F b) v d →
      estimate F w ≤ unspent (rows F b) d → OnPath (rows F b) d e → a ≢ refused_by_tree 17 e s
  pub by_its_own_table : Proper a

-- Of a journal and of every earlier one: the state is lawful, and so is the last entry.
abbrev pub Lawful : Figures → List Entry → Type 0
Lawful F [] = LawfulState F (replay F []).book (replay F []).holders (out_after F [])
Lawful F (e ∷ older) =
    LawfulState F (replay F (e ∷ older)).book (replay F (e ∷ older)).holders e.after
    × LawfulEntry F (replay F older).book e.order e.answer
    × Lawful F older
