-- The lists of a table are well linked in one way only.
use Rattle.std.specs.Prelude.{◌≡◌, ℕ, ◌+◌, ◌*◌, Bool, true, List, slice_index, slice_index_or}
use Rattle.std.proofs.Props.{props}
use mathlib.Core.HLevel.{is_prop→PathP}
use native.Mathlib.Nat.{ℕ_set}
use Rattle.pool.specs.Links.{Among, Threads}
use Rattle.pool.specs.Once.{threads_once, same_threads, among_once}
use Rattle.rules.specs.Holders.{same, is_deferred}
use Rattle.rules.specs.declared.state.Holder.{Holder}
use Rattle.rules.specs.declared.state.Holder.TheVariants.{Nobody, Record, Deferred}
use Rattle.marks.specs.Linked.{Named, Chained, Linked}

named_once : (h : Holder) → IsProp (Named h)
named_once Nobody = hlevel props
named_once (Record v r) = hlevel props
named_once (Deferred v) = hlevel props

chained_once : (n : ℕ) (hs : List Holder) (next : List ℕ) (h : ℕ) (p : Holder → Bool) → IsProp (Chained n hs next h p)
chained_once n hs next h p x y =
    let e : x.units ≡ y.units = same_threads next n h x.units y.units x.threads y.threads in
    let t = is_prop→PathP (λ j. Threads next n h (e j)) (λ j. threads_once next n h (e j)) x.threads y.threads in
    let own_once : (xs : List ℕ) → IsProp ((u : ℕ) → Among u xs → p (slice_index_or hs u Nobody) ≡ true) = λ xs. hlevel props in
    λ i. record {
      units = e i;
      threads = t i;
      own = is_prop→PathP (λ j. (u : ℕ) → Among u (e j) → p (slice_index_or hs u Nobody) ≡ true) (λ j. own_once (e j)) x.own y.own i;
      all = is_prop→PathP (λ j. (u : ℕ) → p (slice_index_or hs u Nobody) ≡ true → Among u (e j)) (λ j. λ a b k u z. among_once next n h (e j) (t j) u (a u z) (b u z) k) x.all y.all i;
    }

pub linked_once : (n : ℕ) (hs : List Holder) (next first : List ℕ) (d : ℕ) → IsProp (Linked n hs next first d)
linked_once n hs next first d x y = λ i. record {
  long = ℕ_set _ _ x.long y.long i;
  wide = ℕ_set _ _ x.wide y.wide i;
  heads = ℕ_set _ _ x.heads y.heads i;
  named = λ u. named_once (slice_index_or hs u Nobody) (x.named u) (y.named u) i;
  records = λ v r lv lr. chained_once n hs next (slice_index first (v * 64 + r)) (same (Record v r)) (x.records v r lv lr) (y.records v r lv lr) i;
  deferred = chained_once n hs next d is_deferred x.deferred y.deferred i;
}
