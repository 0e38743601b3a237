-- One dataset's contents at a time: the units accounted for with contents c in the place of those of dataset v. The steps of orders that move
-- units or holders: a record's units deferred, units taken for a record, a number of records.
use Rattle.std.proofs.Common.{◌≡◌, ℕ, zero, suc, ◌+◌, ◌<◌, ◌≤◌, Bool, true, false, cond, List, [], map, length, get_or, set, sum_by, sum, count_by, sym, refl, ap, ◌∙◌, subst, inl, inr, arith}
use Rattle.std.proofs.lemmas.List.{length-set, length-map, get_or-set_same, get_or-set_other}
use Rattle.std.proofs.lemmas.List.Sums.{sum_by-set}
use Rattle.std.proofs.lemmas.Bool.{cases_eq, cases_lt, cond-true}
use Rattle.std.proofs.lemmas.Bool.Decides.{nat_tests}
use Rattle.rules.specs.declared.state.Holder.{Holder}
use Rattle.rules.specs.declared.state.Holder.TheVariants.{Nobody, Record, Deferred}
use Rattle.rules.specs.declared.state.Kind.TheVariants.{Folder, Volume}
use Rattle.rules.specs.declared.state.Contents.{Contents}
use Rattle.rules.specs.Figures.{Figures}
use Rattle.rules.specs.Book.{Dataset, Book, dataset, made, records, units, deferred, all_deferred, empty, new}
use Rattle.rules.specs.Effects.{with_units, emptied, emptied_from, with_records, holding, with_contents}
use Rattle.rules.specs.Holders.{same, count, is_held, is_deferred, defer, taken, handed}
use Rattle.rules.specs.Marks.{defer_from}
use Rattle.rules.specs.Theorems.{outs, Taken}
use Rattle.rules.specs.Law.{Exists, Accounted}
use Rattle.rules.specs.Invariant.{Summed}
use Rattle.std.proofs.Math.ListN.{get_or-map}
use Rattle.rules.proofs.Counts.{same_self, held-some, defer-held, count-defer, length-handed, handed-at, handed-held, count-handed}

-- the units of a dataset, deferred ones too
abbrev pub units_of : Dataset → ℕ
units_of d = sum d.contents.units + d.contents.deferred

-- a holder exists, where v has n records
abbrev pub ExistsWith : Book → ℕ → ℕ → Holder → Type 0
ExistsWith b v n Nobody = Unit {0}
ExistsWith b v n (Record w r) = (w < made b) × ((dataset b w).kind ≡ Volume) × (w ≡ v → r < n) × ((w ≡ v → ⊥) → r < records b w)
ExistsWith b v n (Deferred w) = (w < made b) × ((dataset b w).kind ≡ Volume)

pub record Balanced (F : Figures) (b : Book) (v : ℕ) (c : Contents) (hs : List Holder) (us : List Bool) : Type 0 where
  pub as_many_units : length us ≡ F.size
  pub as_many_holders : length hs ≡ F.size
  pub out_where_held : (u : ℕ) → get_or us u false ≡ is_held (get_or hs u Nobody)
  pub holders_exist : (u : ℕ) → ExistsWith b v c.records (get_or hs u Nobody)
  pub own_records : (r : ℕ) → count (Record v r) hs ≡ get_or c.units r 0
  pub other_records : (w r : ℕ) → (w ≡ v → ⊥) → count (Record w r) hs ≡ units b w r
  pub own_deferred : count (Deferred v) hs ≡ c.deferred
  pub other_deferred : (w : ℕ) → (w ≡ v → ⊥) → count (Deferred w) hs ≡ deferred b w
  pub all_out : outs us + units_of (dataset b v) ≡ sum_by units_of b.datasets + (sum c.units + c.deferred)
  pub all_deferred_counted : count_by is_deferred hs + deferred b v ≡ all_deferred b + c.deferred

exists_enter : (b : Book) (v : ℕ) (h : Holder) → Exists b h → ExistsWith b v (records b v) h
exists_enter b v Nobody x = tt
exists_enter b v (Record w r) x = (x.0, x.1, (λ e. subst (λ (i : ℕ). r < records b i) e x.2), λ _. x.2)
exists_enter b v (Deferred w) x = x

-- any book, with the contents that it has
pub enter : (F : Figures) (b : Book) (v : ℕ) (hs : List Holder) (us : List Bool) → Accounted F b hs us → Summed b hs us →
    Balanced F b v (dataset b v).contents hs us
enter F b v hs us a s =
    record {
      as_many_units = a.as_many_units;
      as_many_holders = a.as_many_holders;
      out_where_held = a.out_where_held;
      holders_exist = λ u. exists_enter b v (get_or hs u Nobody) (a.holders_exist u);
      own_records = a.record_units v;
      other_records = λ w r ne. a.record_units w r;
      own_deferred = a.deferred_units v;
      other_deferred = λ w ne. a.deferred_units w;
      all_out = omega (arith, s.all_out);
      all_deferred_counted = omega (arith, s.all_deferred_counted);
    }

module _ (b : Book) (v : ℕ) (c : Contents) (lv : v < made b) where
  -- the dataset that is set anew, and any other
  pub at_same : dataset (with_contents b v c) v ≡ holding (dataset b v) c
  at_same = get_or-set_same b.datasets v (holding (dataset b v) c) (new 0 Folder (empty [] 0)) lv

  pub at_other : (w : ℕ) → (w ≡ v → ⊥) → dataset (with_contents b v c) w ≡ dataset b w
  at_other w ne = get_or-set_other b.datasets v w (holding (dataset b v) c) (new 0 Folder (empty [] 0)) ne

  pub same_kind : (w : ℕ) → (dataset (with_contents b v c) w).kind ≡ (dataset b w).kind
  same_kind w =
      elim (cases_eq w v) [
        | inl e ↦ rw e (ap (λ (d : Dataset). d.kind) at_same)
        | inr ne ↦ ap (λ (d : Dataset). d.kind) (at_other w ne)
      ]

  pub as_many : made (with_contents b v c) ≡ made b
  as_many = length-set b.datasets v (holding (dataset b v) c)

  exists_leave : (h : Holder) → ExistsWith b v c.records h → Exists (with_contents b v c) h
  exists_leave Nobody x = tt
  exists_leave (Record w r) x = (
    omega (arith, x.0, as_many),
    same_kind w ∙ x.1,
    elim (cases_eq w v) [
      | inl e ↦
          let here : records (with_contents b v c) w ≡ c.records = ap (λ (i : ℕ). records (with_contents b v c) i) e ∙ ap (λ (d : Dataset). d.contents.records) at_same in
          subst (λ (n : ℕ). r < n) (sym here) (x.2 e)
      | inr ne ↦ subst (λ (d : Dataset). r < d.contents.records) (sym (at_other w ne)) (x.3 ne)
    ],
  )
  exists_leave (Deferred w) x = (omega (arith, x.0, as_many), same_kind w ∙ x.1)

  -- the contents put into the book
  pub leave : (F : Figures) (hs : List Holder) (us : List Bool) → Balanced F b v c hs us →
      Accounted F (with_contents b v c) hs us × Summed (with_contents b v c) hs us
  leave F hs us a = (
    record {
      as_many_units = a.as_many_units;
      as_many_holders = a.as_many_holders;
      out_where_held = a.out_where_held;
      holders_exist = λ u. exists_leave (get_or hs u Nobody) (a.holders_exist u);
      record_units =
          λ w r. elim (cases_eq w v) [
            | inl e ↦ rw e (a.own_records r ∙ sym (ap (λ (d : Dataset). get_or d.contents.units r 0) at_same))
            | inr ne ↦ a.other_records w r ne ∙ sym (ap (λ (d : Dataset). get_or d.contents.units r 0) (at_other w ne))
          ];
      deferred_units =
          λ w. elim (cases_eq w v) [
            | inl e ↦ rw e (a.own_deferred ∙ sym (ap (λ (d : Dataset). d.contents.deferred) at_same))
            | inr ne ↦ a.other_deferred w ne ∙ sym (ap (λ (d : Dataset). d.contents.deferred) (at_other w ne))
          ];
    },
    record {
      all_out = omega (arith, a.all_out, sum_by-set units_of b.datasets v (holding (dataset b v) c) (new 0 Folder (empty [] 0)) lv);
      all_deferred_counted =
          omega (
            arith,
            a.all_deferred_counted,
            sum_by-set (λ (d : Dataset). d.contents.deferred) b.datasets v (holding (dataset b v) c) (new 0 Folder (empty [] 0)) lv,
          );
    },
  )

-- no units but the record's own are counted for it
other_part : (w s v r n : ℕ) → (w ≡ v → s ≡ r → ⊥) → ◌≡◌ {A = ℕ} (cond (same (Record w s) (Record v r)) n 0) 0
other_part w s v r n ne = grind (arith, nat_tests)

module _ (F : Figures) (b : Book) (v : ℕ) (lv : v < made b) (is-volume : (dataset b v).kind ≡ Volume) where
  exists_defer : (n : ℕ) (t : Bool) (h : Holder) → ExistsWith b v n h → ExistsWith b v n (cond t (Deferred v) h)
  exists_defer n true h x = (lv, is-volume)
  exists_defer n false h x = x

  -- a record is emptied, and its units are deferred
  pub balanced_defer : (us : List Bool) (c : Contents) (hs : List Holder) (r : ℕ) → r < length c.units → Balanced F b v c hs us →
      Balanced F b v (emptied c r) (map (defer v r) hs) us
  balanced_defer us c hs r l a =
      let moved = count-defer v r hs in
      let sums : sum (set c.units r 0) + get_or c.units r 0 ≡ sum c.units + 0 = sum_by-set (λ (x : ℕ). x) c.units r 0 0 l in
      record {
        as_many_units = a.as_many_units;
        as_many_holders = length-map hs (defer v r) ∙ a.as_many_holders;
        out_where_held =
            λ u. a.out_where_held u ∙ sym (ap is_held (get_or-map (defer v r) hs u Nobody) ∙ defer-held v r (get_or hs u Nobody));
        holders_exist =
            λ u. subst (λ (h : Holder). ExistsWith b v c.records h) (sym (get_or-map (defer v r) hs u Nobody))
            (exists_defer c.records (same (Record v r) (get_or hs u Nobody)) (get_or hs u Nobody) (a.holders_exist u));
        own_records =
            λ s. elim (cases_eq s r) [
              | inl e ↦ rw e (moved.own ∙ sym (get_or-set_same c.units r 0 0 l))
              | inr ne ↦ moved.others v s (λ _ e. ne e) ∙ a.own_records s ∙ sym (get_or-set_other c.units r s 0 0 ne)
            ];
        other_records = λ w s ne. moved.others w s (λ e _. ne e) ∙ a.other_records w s ne;
        own_deferred = omega (arith, moved.volume, a.own_deferred, a.own_records r);
        other_deferred = λ w ne. moved.other_volumes w ne ∙ a.other_deferred w ne;
        all_out = omega (arith, a.all_out, sums);
        all_deferred_counted = omega (arith, moved.all, a.all_deferred_counted, a.own_records r);
      }

  -- one record after the other
  pub balanced_defers : (us : List Bool) (n r : ℕ) (c : Contents) (hs : List Holder) → r + n ≤ length c.units → Balanced F b v c hs us →
      Balanced F b v (emptied_from r n c) (defer_from v r n hs) us
  unfolding emptied_from defer_from
  balanced_defers us zero r c hs l a = a
  balanced_defers us (suc n) r c hs l a =
      balanced_defers us n (suc r) (emptied c r) (map (defer v r) hs) (omega (arith, length-set c.units r 0))
      (balanced_defer us c hs r (omega arith) a)

  exists_taken : (n r : ℕ) (x y : Bool) (h : Holder) → r < n → ExistsWith b v n h → ExistsWith b v n (taken (Record v r) x y h)
  exists_taken n r true true h l e = e
  exists_taken n r true false h l e = e
  exists_taken n r false true h l e = (lv, is-volume, (λ _. l), λ ne. absurd (ne refl))
  exists_taken n r false false h l e = e

  -- units are taken for an empty record
  pub balanced_take : (us vs : List Bool) (c : Contents) (hs : List Holder) (r k : ℕ) → r < length c.units → r < c.records →
      get_or c.units r 0 ≡ 0 → Taken k us vs → Balanced F b v c hs us → Balanced F b v (with_units c r k) (handed (Record v r) us vs hs) vs
  balanced_take us vs c hs r k l lr none move a =
      let long : length hs ≡ length us = a.as_many_holders ∙ sym a.as_many_units in
      let counts = count-handed (Record v r) k us vs hs long move a.out_where_held in
      let sums : sum (set c.units r k) + get_or c.units r 0 ≡ sum c.units + k = sum_by-set (λ (x : ℕ). x) c.units r k 0 l in
      record {
        as_many_units = move.as_many ∙ a.as_many_units;
        as_many_holders = length-handed (Record v r) us vs hs ∙ a.as_many_holders;
        out_where_held = handed-held (Record v r) k us vs hs long move a.out_where_held refl;
        holders_exist =
            λ u. subst (λ (h : Holder). ExistsWith b v c.records h) (sym (handed-at (Record v r) k us vs hs long move a.out_where_held u))
            (exists_taken c.records r (get_or us u false) (get_or vs u false) (get_or hs u Nobody) lr (a.holders_exist u));
        own_records =
            λ s. elim (cases_eq s r) [
              | inl e ↦
                  let fin : count (Record v r) (handed (Record v r) us vs hs) ≡ get_or (set c.units r k) r 0 =
                  omega (
                    arith,
                    counts (same (Record v r)) refl,
                    cond-true (same (Record v r) (Record v r)) k 0 (same_self (Record v r)),
                    a.own_records r,
                    get_or-set_same c.units r k 0 l,
                  ) in
                  rw e fin
              | inr ne ↦
                  omega (
                    arith,
                    counts (same (Record v s)) refl,
                    other_part v s v r k (λ _ e. ne e),
                    a.own_records s,
                    get_or-set_other c.units r s k 0 ne,
                  )
            ];
        other_records = λ w s ne. omega (arith, counts (same (Record w s)) refl, other_part w s v r k (λ e _. ne e), a.other_records w s ne);
        own_deferred = omega (arith, counts (same (Deferred v)) refl, a.own_deferred);
        other_deferred = λ w ne. omega (arith, counts (same (Deferred w)) refl, a.other_deferred w ne);
        all_out = omega (arith, move.counted, a.all_out, sums);
        all_deferred_counted = omega (arith, counts is_deferred refl, a.all_deferred_counted);
      }

  -- n records, where those past them are empty
  pub balanced_records : (us : List Bool) (c : Contents) (hs : List Holder) (n : ℕ) → ((r : ℕ) → n ≤ r → get_or c.units r 0 ≡ 0) →
      Balanced F b v c hs us → Balanced F b v (with_records n c) hs us
  balanced_records us c hs n none a =
      record {
        as_many_units = a.as_many_units;
        as_many_holders = a.as_many_holders;
        out_where_held = a.out_where_held;
        holders_exist = λ u. still u (get_or hs u Nobody) refl (a.holders_exist u);
        own_records = a.own_records;
        other_records = a.other_records;
        own_deferred = a.own_deferred;
        other_deferred = a.other_deferred;
        all_out = a.all_out;
        all_deferred_counted = a.all_deferred_counted;
      }
    where
      still : (u : ℕ) (h : Holder) → get_or hs u Nobody ≡ h → ExistsWith b v c.records h → ExistsWith b v n h
      still u Nobody e x = tt
      still u (Record w r) e x = (
        x.0,
        x.1,
        (
            λ ew. elim (cases_lt r n) [
              | inl l ↦ l
              | inr ge ↦
                  let named : get_or hs u Nobody ≡ Record v r = e ∙ ap (λ (i : ℕ). Record i r) ew in
                  absurd (omega (arith, held-some (Record v r) hs u refl named, a.own_records r, none r ge))
            ]
            ),
        x.3,
      )
      still u (Deferred w) e x = x
