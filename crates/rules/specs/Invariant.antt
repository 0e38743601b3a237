-- What stays true of a ledger from order to order. A step of proofs: the law says what is to be believed.
use Rattle.std.specs.Prelude.{◌≡◌, ℕ, ◌+◌, ◌^◌, ◌<◌, ◌≤◌, Bool, List, length, sum_by, sum, count_by, ◌≢◌, slice_index}
use Rattle.charges.specs.Tree.{WithinLimits}
use Rattle.rules.specs.declared.state.Holder.{Holder}
use Rattle.rules.specs.declared.state.Kind.TheVariants.{Folder, Volume}
use Rattle.rules.specs.declared.state.Contents.{Contents}
use Rattle.rules.specs.declared.state.Transaction.{Transaction}
use Rattle.rules.specs.declared.state.Transaction.TheVariants.{Idle}
use Rattle.rules.specs.Figures.{Figures, room}
use Rattle.rules.specs.Book.{Dataset, Book, dataset, transaction, made, volume_of, writes_of, frees_of, rows, all_deferred}
use Rattle.rules.specs.Holders.{is_deferred}
use Rattle.rules.specs.Theorems.{outs}
use Rattle.rules.specs.Law.{Accounted}

-- what a dataset holds: 64 unit counts, none past the records' end
pub record ShapedContents (c : Contents) : Type 0 where
  pub units_long : length c.units ≡ 64
  pub past_the_end : (r : ℕ) → c.records ≤ r → slice_index c.units r ≡ 0
  pub records_few : c.records ≤ 64

pub record ShapedDataset (d : Dataset) : Type 0 where
  pub contents : ShapedContents d.contents
  pub folder_records : d.kind ≡ Folder → d.contents.records ≡ 0
  pub folder_deferred : d.kind ≡ Folder → d.contents.deferred ≡ 0
  pub small_quota : d.quota < 2 ^ 16
  pub small_reservation : d.reservation < 2 ^ 16
  pub in_quota : (d.quota ≢ 0) → d.reservation ≤ d.quota

-- a transaction's volume exists, and it holds few enough writes and frees
pub record ShapedTransaction (b : Book) (x : Transaction) : Type 0 where
  pub on_volume : (x ≢ Idle) → (volume_of x < made b) × ((dataset b (volume_of x)).kind ≡ Volume)
  pub few_writes : writes_of x ≤ 64
  pub few_frees : frees_of x ≤ 64

pub record Shaped (F : Figures) (b : Book) : Type 0 where
  pub some : 1 ≤ made b
  pub few : made b ≤ 64
  pub root_kind : (dataset b 0).kind ≡ Folder
  pub root_quota : (dataset b 0).quota ≡ 0
  pub root_reservation : (dataset b 0).reservation ≡ 0
  pub parents : (d : ℕ) → 0 < d → d < made b → (dataset b d).parent < d
  pub named : (d : ℕ) → d < made b → length (dataset b d).contents.name ≡ 8
  pub datasets : (d : ℕ) → ShapedDataset (dataset b d)
  pub transactions_long : length b.transactions ≡ 32
  pub transactions : (t : ℕ) → ShapedTransaction b (transaction b t)
  pub within : WithinLimits (room F) (rows F b)

-- the units together: all that are out are some record's or deferred, and all deferred ones are counted
pub record Summed (b : Book) (hs : List Holder) (us : List Bool) : Type 0 where
  pub all_out : outs us ≡ sum_by (λ d. sum d.contents.units + d.contents.deferred) b.datasets
  pub all_deferred_counted : count_by is_deferred hs ≡ all_deferred b

pub record Fair (F : Figures) (b : Book) (hs : List Holder) (us : List Bool) : Type 0 where
  pub shaped : Shaped F b
  pub accounted : Accounted F b hs us
  pub summed : Summed b hs us
