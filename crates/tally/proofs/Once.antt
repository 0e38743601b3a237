-- A tally is sound in one way only, so that its soundness can be taken out of its ghost field.
use Rattle.std.proofs.Common.{ℕ, List, refl}
use mathlib.Core.Logic.{∥∥₁_elim}
use mathlib.Core.HLevel.{Discrete, hedberg}
use native.Mathlib.Nat.{ℕ_set}
use native.Mathlib.Bridge.{le_prop}
use Rattle.rules.specs.declared.state.Kind.{Kind}
use Rattle.rules.specs.declared.state.Kind.TheVariants.{Folder, Volume}
use Rattle.rules.specs.declared.state.Contents.{Contents}
use Rattle.rules.specs.declared.state.Transaction.{Transaction}
use Rattle.rules.specs.Figures.{Figures}
use Rattle.rules.specs.Book.{Dataset, Book}
use Rattle.rules.specs.Invariant.{ShapedContents, ShapedDataset, ShapedTransaction, Shaped}
use Rattle.tree.specs.declared.Tree.{Tree}
use Rattle.tally.specs.Sound.{Sized, Sound}

kind_discrete : Discrete Kind
kind_discrete Folder Folder = yes refl
kind_discrete Folder Volume = no (λ e. cc)
kind_discrete Volume Folder = no (λ e. cc)
kind_discrete Volume Volume = yes refl

kind-set : IsSet Kind
kind-set = hedberg kind_discrete

contents_once : (c : Contents) → IsProp (ShapedContents c)
contents_once c x y = λ i. record {
  units_long = ℕ_set _ _ x.units_long y.units_long i;
  past_the_end = λ r l. ℕ_set _ _ (x.past_the_end r l) (y.past_the_end r l) i;
  records_few = le_prop x.records_few y.records_few i;
}

dataset_once : (d : Dataset) → IsProp (ShapedDataset d)
dataset_once d x y = λ i. record {
  contents = contents_once d.contents x.contents y.contents i;
  folder_records = λ e. ℕ_set _ _ (x.folder_records e) (y.folder_records e) i;
  folder_deferred = λ e. ℕ_set _ _ (x.folder_deferred e) (y.folder_deferred e) i;
  small_quota = le_prop x.small_quota y.small_quota i;
  small_reservation = le_prop x.small_reservation y.small_reservation i;
  in_quota = λ some. le_prop (x.in_quota some) (y.in_quota some) i;
}

transaction_once : (b : Book) (t : Transaction) → IsProp (ShapedTransaction b t)
transaction_once b t x y = λ i. record {
  on_volume = λ busy. (le_prop (x.on_volume busy).0 (y.on_volume busy).0 i, kind-set _ _ (x.on_volume busy).1 (y.on_volume busy).1 i);
  few_writes = le_prop x.few_writes y.few_writes i;
  few_frees = le_prop x.few_frees y.few_frees i;
}

shaped_once : (F : Figures) (b : Book) → IsProp (Shaped F b)
shaped_once F b x y = λ i. record {
  some = le_prop x.some y.some i;
  few = le_prop x.few y.few i;
  root_kind = kind-set _ _ x.root_kind y.root_kind i;
  root_quota = ℕ_set _ _ x.root_quota y.root_quota i;
  root_reservation = ℕ_set _ _ x.root_reservation y.root_reservation i;
  parents = λ d gt l. le_prop (x.parents d gt l) (y.parents d gt l) i;
  named = λ d l. ℕ_set _ _ (x.named d l) (y.named d l) i;
  datasets = λ d. dataset_once _ (x.datasets d) (y.datasets d) i;
  transactions_long = ℕ_set _ _ x.transactions_long y.transactions_long i;
  transactions = λ t. transaction_once b _ (x.transactions t) (y.transactions t) i;
  within = λ d l. ℕ_set _ _ (x.within d l) (y.within d l) i;
}

sound_once : (size slop worst : ℕ) (tree : Tree) (contents : List Contents) (transactions : List Transaction) →
    IsProp (Sound size slop worst tree contents transactions)
sound_once size slop worst tree contents transactions x y = λ i. record {
  room_is = ℕ_set _ _ x.room_is y.room_is i;
  contents_long = ℕ_set _ _ x.contents_long y.contents_long i;
  own_are = λ cost d l. ℕ_set _ _ (x.own_are cost d l) (y.own_are cost d l) i;
  shaped = λ cost. shaped_once _ _ (x.shaped cost) (y.shaped cost) i;
}

-- out of the ghost field
pub taken_out : (size slop worst : ℕ) (tree : Tree) (contents : List Contents) (transactions : List Transaction) →
    ∥ Sound size slop worst tree contents transactions ∥₁ → Sound size slop worst tree contents transactions
taken_out size slop worst tree contents transactions s = ∥∥₁_elim s (sound_once size slop worst tree contents transactions) (λ x. x)

pub sized_once : (size slop worst : ℕ) → IsProp (Sized size slop worst)
sized_once size slop worst x y = λ i. (le_prop x.0 y.0 i, le_prop x.1 y.1 i, le_prop x.2 y.2 i, le_prop x.3 y.3 i)
