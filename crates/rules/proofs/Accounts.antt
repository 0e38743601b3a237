-- Each unit has its holder and is counted for it: at the start, and after every accepted order.
use Rattle.std.proofs.Common.{◌≡◌, ℕ, zero, suc, ◌+◌, ◌-◌, ◌<◌, ◌≤◌, Bool, false, cond, List, [], ◌∷◌, ◌++◌, map, length, get_or, replicate, sum_by, sum, count_by, sym, refl, ap, ◌∙◌, subst, inl, inr, le_refl, arith}
use Rattle.std.proofs.lemmas.List.{length-set, length-map, length_push, length-replicate, get_or-set_same, get_or-set_other, get_or_append_left, get_or_push, get_or_past}
use Rattle.std.proofs.lemmas.List.Sums.{sum_by-cons, sum_by_push, sum_by-set}
use Rattle.std.proofs.lemmas.Bool.{cases_eq, cases_lt}
use Rattle.orders.specs.declared.answer.Answer.TheVariants.{Done}
use Rattle.orders.specs.Meaning.{Meaning, folder, volume, quota, reserve, resize, begin, hold_writes, hold_frees, assign, abort, write, free, commit, turn, tell}
use Rattle.rules.specs.declared.state.Holder.{Holder}
use Rattle.rules.specs.declared.state.Holder.TheVariants.{Nobody, Record, Deferred}
use Rattle.rules.specs.declared.state.Kind.TheVariants.{Folder, Volume}
use Rattle.rules.specs.declared.state.Contents.{Contents}
use Rattle.rules.specs.declared.state.Transaction.{Transaction}
use Rattle.rules.specs.declared.state.Transaction.TheVariants.{Assigned}
use Rattle.rules.specs.Figures.{Figures, Sane}
use Rattle.rules.specs.Book.{Dataset, Book, dataset, transaction, made, records, units, deferred, all_deferred, empty, new, fresh, volume_of, writes_of, frees_of}
use Rattle.rules.specs.Answers.{answer}
use Rattle.rules.specs.Effects.{with_units, emptied, emptied_from, with_records, settled, holding, with_quota, with_reservation, with_new, with_dataset, with_contents, with_transaction, next}
use Rattle.rules.specs.Holders.{same, is_held, is_deferred, defer, release, handed}
use Rattle.rules.specs.Marks.{defer_from, mark}
use Rattle.rules.specs.Theorems.{Taken, given_back, Moves, Fits}
use Rattle.rules.specs.Law.{Exists, Accounted}
use Rattle.rules.specs.Invariant.{Summed, Fair}
use Rattle.std.proofs.Math.ListN.{get_or-map}
use Rattle.std.proofs.lemmas.List.Folds.{sum_by-replicate}
use Rattle.rules.proofs.Entries.{entry-replicate}
use Rattle.rules.proofs.Rows.{becomes_empty}
use Rattle.rules.proofs.Counts.{sum_split, sum_plus, sum-zero, count-release, length_back, back_is-held, outs_back}
use Rattle.rules.proofs.Balanced.{units_of, enter, leave, balanced_defer, balanced_defers, balanced_take, balanced_records}
use Rattle.rules.proofs.Accepted.{quota_ok, reserve_ok, resize_ok, write_ok, free_ok}

-- The start.

count-replicate : {X : Type 0} (p : X → Bool) (d : X) → p d ≡ false → (n : ℕ) → count_by p (replicate n d) ≡ 0
count-replicate p d e zero = refl
count-replicate p d e (suc n) =
    let i = count-replicate p d e n in
    let z : ◌≡◌ {A = ℕ} (cond (p d) 1 0) 0 = ap {B = ℕ} (λ (b : Bool). cond b 1 0) e in
    omega (arith, sum_by-cons (λ x. cond (p x) 1 0) d (replicate n d))

fresh-units : (v r : ℕ) → units fresh v r ≡ 0
unfolding fresh
fresh-units zero r = entry-replicate 64 r 0
fresh-units (suc v) r = entry-replicate 64 r 0

fresh-deferred : (v : ℕ) → deferred fresh v ≡ 0
unfolding fresh
fresh-deferred zero = refl
fresh-deferred (suc v) = refl

pub accounted-fresh : (F : Figures) → Accounted F fresh (replicate F.size Nobody) (replicate F.size false)
accounted-fresh F =
    record {
      as_many_units = length-replicate F.size false;
      as_many_holders = length-replicate F.size Nobody;
      out_where_held = λ u. entry-replicate F.size u false ∙ sym (ap is_held (entry-replicate F.size u Nobody));
      holders_exist = λ u. subst (λ (h : Holder). Exists fresh h) (sym (entry-replicate F.size u Nobody)) tt;
      record_units = λ v r. count-replicate (same (Record v r)) Nobody refl F.size ∙ sym (fresh-units v r);
      deferred_units = λ v. count-replicate (same (Deferred v)) Nobody refl F.size ∙ sym (fresh-deferred v);
    }

pub summed-fresh : (F : Figures) → Summed fresh (replicate F.size Nobody) (replicate F.size false)
unfolding fresh
summed-fresh F =
    record {
      all_out = count-replicate (λ (out : Bool). out) false refl F.size ∙ sym (sum_by-replicate (λ (x : ℕ). x) 64 0);
      all_deferred_counted = count-replicate is_deferred Nobody refl F.size;
    }

-- Books that agree in all that units and holders see.

pub record Alike (b b' : Book) : Type 0 where
  pub grows : made b ≤ made b'
  pub same_kind : (v : ℕ) → v < made b → (dataset b' v).kind ≡ (dataset b v).kind
  pub same_records : (v : ℕ) → v < made b → records b' v ≡ records b v
  pub same_units : (v r : ℕ) → units b' v r ≡ units b v r
  pub same_deferred : (v : ℕ) → deferred b' v ≡ deferred b v
  pub same_all : sum_by units_of b'.datasets ≡ sum_by units_of b.datasets
  pub same_all_deferred : all_deferred b' ≡ all_deferred b

still_exists : (b b' : Book) → Alike b b' → (h : Holder) → Exists b h → Exists b' h
still_exists b b' alike Nobody x = tt
still_exists b b' alike (Record v r) x =
    (omega (arith, x.0, alike.grows), alike.same_kind v x.0 ∙ x.1, omega (arith, x.2, alike.same_records v x.0))
still_exists b b' alike (Deferred v) x = (omega (arith, x.0, alike.grows), alike.same_kind v x.0 ∙ x.1)

pub accounted-alike : (F : Figures) (b b' : Book) (hs : List Holder) (us : List Bool) → Alike b b' → Accounted F b hs us → Summed b hs us →
    Accounted F b' hs us × Summed b' hs us
accounted-alike F b b' hs us alike a s = (
  record {
    as_many_units = a.as_many_units;
    as_many_holders = a.as_many_holders;
    out_where_held = a.out_where_held;
    holders_exist = λ u. still_exists b b' alike (get_or hs u Nobody) (a.holders_exist u);
    record_units = λ v r. a.record_units v r ∙ sym (alike.same_units v r);
    deferred_units = λ v. a.deferred_units v ∙ sym (alike.same_deferred v);
  },
  record { all_out = s.all_out ∙ sym alike.same_all; all_deferred_counted = s.all_deferred_counted ∙ sym alike.same_all_deferred },
)

-- other transactions
alike-transaction : (b : Book) (t : ℕ) (x : Transaction) → Alike b (with_transaction b t x)
alike-transaction b t x =
    record {
      grows = le_refl (made b);
      same_kind = λ v l. refl;
      same_records = λ v l. refl;
      same_units = λ v r. refl;
      same_deferred = λ v. refl;
      same_all = refl;
      same_all_deferred = refl;
    }

-- where there is no dataset
abbrev none : Dataset
none = new 0 Folder (empty [] 0)

-- a dataset set anew with its kind and contents
module _ (b : Book) (d : ℕ) (x : Dataset) (l : d < made b) (kind : x.kind ≡ (dataset b d).kind) (contents : x.contents ≡ (dataset b d).contents) where
  same_kind : (w : ℕ) → (dataset (with_dataset b d x) w).kind ≡ (dataset b w).kind
  same_kind w =
      elim (cases_eq w d) [
        | inl e ↦ rw e (ap (λ (y : Dataset). y.kind) (get_or-set_same b.datasets d x none l) ∙ kind)
        | inr ne ↦ ap (λ (y : Dataset). y.kind) (get_or-set_other b.datasets d w x none ne)
      ]

  same-contents : (w : ℕ) → (dataset (with_dataset b d x) w).contents ≡ (dataset b w).contents
  same-contents w =
      elim (cases_eq w d) [
        | inl e ↦ rw e (ap (λ (y : Dataset). y.contents) (get_or-set_same b.datasets d x none l) ∙ contents)
        | inr ne ↦ ap (λ (y : Dataset). y.contents) (get_or-set_other b.datasets d w x none ne)
      ]

  alike-dataset : Alike b (with_dataset b d x)
  alike-dataset =
      let same_units : units_of x ≡ units_of (dataset b d) = ap (λ (c : Contents). sum c.units + c.deferred) contents in
      let same_deferred : x.contents.deferred ≡ deferred b d = ap (λ (c : Contents). c.deferred) contents in
      record {
        grows = omega (arith, length-set b.datasets d x);
        same_kind = λ v _. same_kind v;
        same_records = λ v _. ap (λ (c : Contents). c.records) (same-contents v);
        same_units = λ v r. ap (λ (c : Contents). get_or c.units r 0) (same-contents v);
        same_deferred = λ v. ap (λ (c : Contents). c.deferred) (same-contents v);
        same_all = omega (arith, sum_by-set units_of b.datasets d x none l);
        same_all_deferred = omega (arith, sum_by-set (λ (y : Dataset). y.contents.deferred) b.datasets d x none l);
      }

-- a new dataset has no units
module _ (b : Book) (x : Dataset) (no-units : (r : ℕ) → get_or x.contents.units r 0 ≡ get_or none.contents.units r 0) (no-sum : sum x.contents.units ≡ 0)
    (no-deferred : x.contents.deferred ≡ 0) where
  old : (w : ℕ) → w < made b → dataset (with_new b x) w ≡ dataset b w
  old w l = get_or_append_left b.datasets (x ∷ []) none w l

  -- what is the same of the new one and of none
  seen : {Y : Type 0} (g : Dataset → Y) → g x ≡ g none → (w : ℕ) → g (dataset (with_new b x) w) ≡ g (dataset b w)
  seen g e w =
      elim (cases_lt w (made b)) [
        | inl l ↦ ap g (old w l)
        | inr ge ↦
            elim (cases_eq w (made b)) [
              | inl here ↦ ap g (get_or_push b.datasets x none w (sym here)) ∙ e ∙ sym (ap g (get_or_past b.datasets w none ge))
              | inr ne ↦
                  ap g (
                  get_or_past (b.datasets ++ x ∷ []) w none (omega (arith, length_push b.datasets x)) ∙ sym (get_or_past b.datasets w none ge)
                  )
            ]
      ]

  alike-new : Alike b (with_new b x)
  alike-new =
      record {
        grows = omega (arith, length_push b.datasets x);
        same_kind = λ v l. ap (λ (d : Dataset). d.kind) (old v l);
        same_records = λ v l. ap (λ (d : Dataset). d.contents.records) (old v l);
        same_units = λ v r. seen (λ d. get_or d.contents.units r 0) (no-units r) v;
        same_deferred = λ v. seen (λ d. d.contents.deferred) no-deferred v;
        same_all = omega (arith, sum_by_push units_of b.datasets x);
        same_all_deferred = omega (arith, sum_by_push (λ (d : Dataset). d.contents.deferred) b.datasets x);
      }

-- A turn.

abbrev settle : Dataset → Dataset
settle d = holding d (settled d.contents)

module _ (F : Figures) (b : Book) (hs : List Holder) (us : List Bool) (a : Accounted F b hs us) (s : Summed b hs us) where
  settled_at : (v : ℕ) → dataset (next F b turn) v ≡ settle (dataset b v)
  settled_at v = get_or-map settle b.datasets v none

  exists_released : (h : Holder) → Exists b h → Exists (next F b turn) (release h)
  exists_released Nobody x = tt
  exists_released (Record v r) x = (
    omega (arith, x.0, length-map b.datasets settle),
    ap (λ (d : Dataset). d.kind) (settled_at v) ∙ x.1,
    subst (λ (d : Dataset). r < d.contents.records) (sym (settled_at v)) x.2,
  )
  exists_released (Deferred v) x = tt

  accounted-turn : Accounted F (next F b turn) (map release hs) (given_back us hs) × Summed (next F b turn) (map release hs) (given_back us hs)
  accounted-turn =
      let long : length hs ≡ length us = a.as_many_holders ∙ sym a.as_many_units in
      let released = count-release hs in
      let all : sum_by units_of (map settle b.datasets) ≡ sum_by (λ (d : Dataset). sum d.contents.units) b.datasets + sum_by (λ (d : Dataset). 0) b.datasets =
      sum_split units_of settle (λ (d : Dataset). sum d.contents.units) (λ (d : Dataset). 0) (λ d. refl) b.datasets in
      let split = sum_plus (λ (d : Dataset). sum d.contents.units) (λ (d : Dataset). d.contents.deferred) b.datasets in
      let zeros = sum-zero (λ (d : Dataset). 0) (λ d. refl) b.datasets in
      let no-deferred : all_deferred (next F b turn) ≡ sum_by (λ (d : Dataset). 0) b.datasets + sum_by (λ (d : Dataset). 0) b.datasets =
      sum_split (λ (d : Dataset). d.contents.deferred) settle (λ (d : Dataset). 0) (λ (d : Dataset). 0) (λ d. refl) b.datasets in (
        record {
          as_many_units = length_back us hs ∙ a.as_many_units;
          as_many_holders = length-map hs release ∙ a.as_many_holders;
          out_where_held = back_is-held us hs long a.out_where_held;
          holders_exist =
              λ u. subst (λ (h : Holder). Exists (next F b turn) h) (sym (get_or-map release hs u Nobody))
              (exists_released (get_or hs u Nobody) (a.holders_exist u));
          record_units =
              λ v r. released.records v r ∙ a.record_units v r ∙ sym (ap (λ (d : Dataset). get_or d.contents.units r 0) (settled_at v));
          deferred_units = λ v. released.volumes v ∙ sym (ap (λ (d : Dataset). d.contents.deferred) (settled_at v));
        },
        record {
          all_out = omega (arith, outs_back us hs long a.out_where_held, s.all_out, s.all_deferred_counted, all, split, zeros);
          all_deferred_counted = omega (arith, released.all, no-deferred, zeros);
        },
      )

-- Every order.

module _ (F : Figures) (b : Book) (hs : List Holder) (us : List Bool) (fair : Fair F b hs us) where
  alike : (b' : Book) (vs : List Bool) → Alike b b' → vs ≡ us → Accounted F b' hs vs × Summed b' hs vs
  alike b' vs l e =
      subst (λ (xs : List Bool). Accounted F b' hs xs × Summed b' hs xs) (sym e) (accounted-alike F b b' hs us l fair.accounted fair.summed)

  accounted-resize : (v n k : ℕ) → answer F b (resize v n) ≡ Done k →
      Accounted F (next F b (resize v n)) (defer_from v n (records b v - n) hs) us × Summed (next F b (resize v n)) (defer_from v n (records b v - n) hs) us
  accounted-resize v n k ok =
      let o = resize_ok F b k v n ok in
      let c = (dataset b v).contents in
      let more = records b v - n in
      let shaped = (fair.shaped.datasets v).contents in
      let long : n + more ≤ length c.units = omega (arith, o.3, shaped.units_long, shaped.records_few) in
      let deferring = balanced_defers F b v o.0 o.1 us more n c hs long (enter F b v hs us fair.accounted fair.summed) in
      let cut =
      balanced_records F b v o.0 o.1 us (emptied_from n more c) (defer_from v n more hs) n
      (λ r ge. becomes_empty more n c r long ge (λ past. shaped.past_the_end r (omega arith))) deferring in
      leave b v (with_records n (emptied_from n more c)) o.0 F (defer_from v n more hs) us cut

  -- the volume of an assigned transaction
  on_volume : (t : ℕ) → transaction b t ≡ Assigned (volume_of (transaction b t)) (writes_of (transaction b t)) (frees_of (transaction b t)) →
      (volume_of (transaction b t) < made b) × ((dataset b (volume_of (transaction b t))).kind ≡ Volume)
  on_volume t assigned = (fair.shaped.transactions t).on_volume (λ idle. let z : ◌≡◌ {A = ℕ} 0 1 = cc in omega arith)

  accounted-write : (vs : List Bool) (t r s k : ℕ) → answer F b (write t r s) ≡ Done k → Taken (F.cost s) us vs →
      Accounted F (next F b (write t r s)) (mark b (write t r s) us vs hs) vs × Summed (next F b (write t r s)) (mark b (write t r s) us vs hs) vs
  accounted-write vs t r s k ok move =
      let o = write_ok F b k t r s ok in
      let v = volume_of (transaction b t) in
      let on = on_volume t o.1 in
      let c = (dataset b v).contents in
      let shaped = (fair.shaped.datasets v).contents in
      let l : r < length c.units = omega (arith, o.3, shaped.units_long, shaped.records_few) in
      let before = map (defer v r) hs in
      let after = handed (Record v r) us vs before in
      let written = with_units (emptied c r) r (F.cost s) in
      let deferring = balanced_defer F b v on.0 on.1 us c hs r l (enter F b v hs us fair.accounted fair.summed) in
      let took =
      balanced_take F b v on.0 on.1 us vs (emptied c r) before r (F.cost s) (omega (arith, length-set c.units r 0)) o.3
      (get_or-set_same c.units r 0 0 l) move deferring in
      let ended = leave b v written on.0 F after vs took in
      accounted-alike F (with_contents b v written) (next F b (write t r s)) after vs
      (alike-transaction (with_contents b v written) t (Assigned v (writes_of (transaction b t) - 1) (frees_of (transaction b t))))
      ended.0 ended.1

  accounted-free : (t r k : ℕ) → answer F b (free t r) ≡ Done k →
      Accounted F (next F b (free t r)) (mark b (free t r) us us hs) us × Summed (next F b (free t r)) (mark b (free t r) us us hs) us
  accounted-free t r k ok =
      let o = free_ok F b k t r ok in
      let v = volume_of (transaction b t) in
      let on = on_volume t o.1 in
      let c = (dataset b v).contents in
      let shaped = (fair.shaped.datasets v).contents in
      let l : r < length c.units = omega (arith, o.3, shaped.units_long, shaped.records_few) in
      let deferring = balanced_defer F b v on.0 on.1 us c hs r l (enter F b v hs us fair.accounted fair.summed) in
      let ended = leave b v (emptied c r) on.0 F (map (defer v r) hs) us deferring in
      accounted-alike F (with_contents b v (emptied c r)) (next F b (free t r)) (map (defer v r) hs) us
      (alike-transaction (with_contents b v (emptied c r)) t (Assigned v (writes_of (transaction b t)) (frees_of (transaction b t) - 1)))
      ended.0 ended.1

pub accounted-next : (F : Figures) (b : Book) (hs : List Holder) (us vs : List Bool) (m : Meaning) (k : ℕ) → Sane F → Fits m → Fair F b hs us →
    answer F b m ≡ Done k → Moves F m hs us vs → Accounted F (next F b m) (mark b m us vs hs) vs × Summed (next F b m) (mark b m us vs hs) vs
accounted-next F b hs us vs (folder p n) k sane fits fair ok moves =
    alike F b hs us fair _ vs (alike-new b (new p Folder (empty n 0)) (λ r. refl) (sum_by-replicate (λ (x : ℕ). x) 64 0) refl) moves
accounted-next F b hs us vs (volume p r n) k sane fits fair ok moves =
    alike F b hs us fair _ vs (alike-new b (new p Volume (empty n r)) (λ s. refl) (sum_by-replicate (λ (x : ℕ). x) 64 0) refl) moves
accounted-next F b hs us vs (quota d u) k sane fits fair ok moves =
    alike F b hs us fair _ vs (alike-dataset b d (with_quota (dataset b d) u) (quota_ok F b k d u ok).1 refl refl) moves
accounted-next F b hs us vs (reserve d u) k sane fits fair ok moves =
    alike F b hs us fair _ vs (alike-dataset b d (with_reservation (dataset b d) u) (reserve_ok F b k d u ok).1 refl refl) moves
accounted-next F b hs us vs (resize v n) k sane fits fair ok moves = rw moves (accounted-resize F b hs us fair v n k ok)
accounted-next F b hs us vs (begin t v) k sane fits fair ok moves = alike F b hs us fair _ vs (alike-transaction b t _) moves
accounted-next F b hs us vs (hold_writes t n) k sane fits fair ok moves = alike F b hs us fair _ vs (alike-transaction b t _) moves
accounted-next F b hs us vs (hold_frees t n) k sane fits fair ok moves = alike F b hs us fair _ vs (alike-transaction b t _) moves
accounted-next F b hs us vs (assign t) k sane fits fair ok moves = alike F b hs us fair _ vs (alike-transaction b t _) moves
accounted-next F b hs us vs (abort t) k sane fits fair ok moves = alike F b hs us fair _ vs (alike-transaction b t _) moves
accounted-next F b hs us vs (write t r s) k sane fits fair ok moves = accounted-write F b hs us fair vs t r s k ok moves
accounted-next F b hs us vs (free t r) k sane fits fair ok moves = rw moves (accounted-free F b hs us fair t r k ok)
accounted-next F b hs us vs (commit t) k sane fits fair ok moves = alike F b hs us fair _ vs (alike-transaction b t _) moves
accounted-next F b hs us vs turn k sane fits fair ok moves = rw moves (accounted-turn F b hs us fair.accounted fair.summed)
accounted-next F b hs us vs (tell d) k sane fits fair ok moves = rw moves (fair.accounted, fair.summed)
