-- A book is accounted for in one way only, so that it can be taken out of a ledger's ghost field.
use Rattle.std.proofs.Common.{◌≡◌, ℕ, Bool, false, List, slice_index_or}
use Rattle.std.proofs.Props.{props}
use native.Mathlib.Nat.{ℕ_set}
use Rattle.rules.specs.declared.state.Holder.{Holder}
use Rattle.rules.specs.declared.state.Holder.TheVariants.{Nobody, Record, Deferred}
use Rattle.rules.specs.Figures.{Figures}
use Rattle.rules.specs.Book.{Book}
use Rattle.rules.specs.Holders.{is_held}
use Rattle.rules.specs.Invariant.{Summed}
use Rattle.rules.specs.Law.{Exists, Accounted}

exists_once : (b : Book) (h : Holder) → IsProp (Exists b h)
exists_once b Nobody = hlevel props
exists_once b (Record v r) = hlevel props
exists_once b (Deferred v) = hlevel props

pub accounted_once : (F : Figures) (b : Book) (hs : List Holder) (us : List Bool) → IsProp (Accounted F b hs us)
accounted_once F b hs us x y =
    let held_once : IsProp ((u : ℕ) → slice_index_or us u false ≡ is_held (slice_index_or hs u Nobody)) = hlevel props in
    λ i. record {
      as_many_units = ℕ_set _ _ x.as_many_units y.as_many_units i;
      as_many_holders = ℕ_set _ _ x.as_many_holders y.as_many_holders i;
      out_where_held = held_once x.out_where_held y.out_where_held i;
      holders_exist = λ u. exists_once b (slice_index_or hs u Nobody) (x.holders_exist u) (y.holders_exist u) i;
      record_units = λ v r. ℕ_set _ _ (x.record_units v r) (y.record_units v r) i;
      deferred_units = λ v. ℕ_set _ _ (x.deferred_units v) (y.deferred_units v) i;
    }

pub summed_once : (b : Book) (hs : List Holder) (us : List Bool) → IsProp (Summed b hs us)
summed_once b hs us x y = λ i. record {
  all_out = ℕ_set _ _ x.all_out y.all_out i;
  all_deferred_counted = ℕ_set _ _ x.all_deferred_counted y.all_deferred_counted i;
}
