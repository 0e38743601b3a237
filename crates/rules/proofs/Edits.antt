-- The shape of a book with a transaction or a dataset set anew, with a new dataset, or after a turn; limits apart.
use Rattle.std.proofs.Common.{◌≡◌, ℕ, zero, suc, ◌+◌, ◌-◌, ◌<◌, ◌≤◌, List, [], ◌∷◌, length, sym, refl, ap, ◌∙◌, subst, arith}
use Rattle.std.proofs.lemmas.List.{length-set, length_push, length-replicate, get_or_append_left}
use Rattle.orders.specs.Meaning.{turn}
use Rattle.charges.specs.Tree.{WithinLimits}
use Rattle.rules.specs.declared.state.Kind.{Kind}
use Rattle.rules.specs.declared.state.Kind.TheVariants.{Folder, Volume}
use Rattle.rules.specs.declared.state.Contents.{Contents}
use Rattle.rules.specs.declared.state.Transaction.{Transaction}
use Rattle.rules.specs.declared.state.Transaction.TheVariants.{Idle}
use Rattle.rules.specs.Figures.{Figures, room}
use Rattle.rules.specs.Book.{Dataset, Book, empty, new, dataset, transaction, made, volume_of, rows}
use Rattle.rules.specs.Effects.{with_units, emptied, emptied_from, resized, settled, holding, with_new, with_dataset, with_transaction, next}
use Rattle.rules.specs.Invariant.{ShapedContents, ShapedDataset, ShapedTransaction, Shaped}
use Rattle.rules.proofs.Entries.{entry_set, entry_push, entry-replicate}
use Rattle.rules.proofs.Rows.{becomes_empty, nowhere, units-emptied_from, dataset-turn, made-turn}

-- the shape without the limits
pub record Formed (b : Book) : Type 0 where
  pub some : 1 ≤ made b
  pub few : made b ≤ 64
  pub root_kind : (dataset b 0).kind ≡ Folder
  pub root_quota : (dataset b 0).quota ≡ 0
  pub root_reservation : (dataset b 0).reservation ≡ 0
  pub parents : (d : ℕ) → 0 < d → d < made b → (dataset b d).parent < d
  pub named : (d : ℕ) → d < made b → length (dataset b d).contents.name ≡ 8
  pub datasets : (d : ℕ) → ShapedDataset (dataset b d)
  pub transactions_long : length b.transactions ≡ 32
  pub transactions : (t : ℕ) → ShapedTransaction b (transaction b t)

pub formed : (F : Figures) (b : Book) → Shaped F b → Formed b
formed F b shaped = record {
  some = shaped.some;
  few = shaped.few;
  root_kind = shaped.root_kind;
  root_quota = shaped.root_quota;
  root_reservation = shaped.root_reservation;
  parents = shaped.parents;
  named = shaped.named;
  datasets = shaped.datasets;
  transactions_long = shaped.transactions_long;
  transactions = shaped.transactions;
}

pub shaped-within : (F : Figures) (b : Book) → Formed b → WithinLimits (room F) (rows F b) → Shaped F b
shaped-within F b form within = record {
  some = form.some;
  few = form.few;
  root_kind = form.root_kind;
  root_quota = form.root_quota;
  root_reservation = form.root_reservation;
  parents = form.parents;
  named = form.named;
  datasets = form.datasets;
  transactions_long = form.transactions_long;
  transactions = form.transactions;
  within = within;
}

-- a transaction is well in any book that has its volume
pub moved : (b b' : Book) (x : Transaction) → ((v : ℕ) → v < made b → (dataset b v).kind ≡ Volume → (v < made b') × ((dataset b' v).kind ≡ Volume)) →
    ShapedTransaction b x → ShapedTransaction b' x
moved b b' x kept s = record {
  on_volume = λ busy. let o = s.on_volume busy in kept (volume_of x) o.0 o.1;
  few_writes = s.few_writes;
  few_frees = s.few_frees;
}

pub formed-transaction : (b : Book) (t : ℕ) (y : Transaction) → Formed b → t < 32 → ShapedTransaction b y → Formed (with_transaction b t y)
formed-transaction b t y form lt shaped =
    let b' = with_transaction b t y in
    let moves : (x : Transaction) → ShapedTransaction b x → ShapedTransaction b' x = λ x s. moved b b' x (λ v l e. (l, e)) s in
    record {
      some = form.some;
      few = form.few;
      root_kind = form.root_kind;
      root_quota = form.root_quota;
      root_reservation = form.root_reservation;
      parents = form.parents;
      named = form.named;
      datasets = form.datasets;
      transactions_long = length-set b.transactions t y ∙ form.transactions_long;
      transactions = λ j.
          entry_set (ShapedTransaction b') b.transactions t y j Idle (omega (arith, form.transactions_long)) (λ _. moves y shaped)
          (λ _. moves (transaction b j) (form.transactions j));
    }

module _ (b : Book) (v : ℕ) (x : Dataset) (lv : v < made b) where
  -- a part of a dataset that is set to what it was
  pub part-kept : {X : Type 0} (part : Dataset → X) → part x ≡ part (dataset b v) → (d : ℕ) → part (dataset (with_dataset b v x) d) ≡ part (dataset b d)
  part-kept part e d =
      entry_set (λ (y : Dataset). part y ≡ part (dataset b d)) b.datasets v x d nowhere lv
      (λ same. e ∙ ap (λ (k : ℕ). part (dataset b k)) (sym same)) (λ _. refl)

  pub formed-dataset : Formed b → x.parent ≡ (dataset b v).parent → x.kind ≡ (dataset b v).kind → x.contents.name ≡ (dataset b v).contents.name →
      (v ≡ 0 → (x.quota ≡ 0) × (x.reservation ≡ 0)) → ShapedDataset x → Formed (with_dataset b v x)
  formed-dataset form parent kind name root shaped =
      let b' = with_dataset b v x in
      let long : made b' ≡ made b = length-set b.datasets v x in
      let kinds : (d : ℕ) → (dataset b' d).kind ≡ (dataset b d).kind = part-kept (λ (y : Dataset). y.kind) kind in
      record {
        some = omega (arith, form.some);
        few = omega (arith, form.few);
        root_kind = kinds 0 ∙ form.root_kind;
        root_quota = entry_set (λ (y : Dataset). y.quota ≡ 0) b.datasets v x 0 nowhere lv (λ e. (root (sym e)).0) (λ _. form.root_quota);
        root_reservation = entry_set (λ (y : Dataset). y.reservation ≡ 0) b.datasets v x 0 nowhere lv (λ e. (root (sym e)).1) (λ _. form.root_reservation);
        parents = λ d gt l. omega (arith, part-kept (λ (y : Dataset). y.parent) parent d, form.parents d gt (omega arith));
        named = λ d l. ap length (part-kept (λ (y : Dataset). y.contents.name) name d) ∙ form.named d (omega arith);
        datasets = λ d. entry_set ShapedDataset b.datasets v x d nowhere lv (λ _. shaped) (λ _. form.datasets d);
        transactions_long = form.transactions_long;
        transactions = λ t. moved b b' (transaction b t) (λ u l e. (omega arith, kinds u ∙ e)) (form.transactions t);
      }

pub shaped-empty : (p : ℕ) (kind : Kind) (name : List ℕ) (n : ℕ) → n ≤ 64 → (kind ≡ Folder → n ≡ 0) → ShapedDataset (new p kind (empty name n))
shaped-empty p kind name n le none = record {
  contents = record {
    units_long = length-replicate {A = ℕ} 64 0;
    past_the_end = λ r l. entry-replicate {X = ℕ} 64 r 0;
    records_few = le;
  };
  folder_records = none;
  folder_deferred = λ e. refl;
  small_quota = omega arith;
  small_reservation = omega arith;
  in_quota = λ some. omega arith;
}

pub formed-new : (b : Book) (x : Dataset) → Formed b → made b < 64 → x.parent < made b → length x.contents.name ≡ 8 → ShapedDataset x → Formed (with_new b x)
formed-new b x form room parent name shaped =
    let b' = with_new b x in
    let long : made b' ≡ made b + 1 = length_push b.datasets x in
    let before : (d : ℕ) → d < made b → dataset b' d ≡ dataset b d = λ d l. get_or_append_left b.datasets (x ∷ []) nowhere d l in
    let root = before 0 (omega (arith, form.some)) in
    record {
      some = omega arith;
      few = omega arith;
      root_kind = ap (λ (y : Dataset). y.kind) root ∙ form.root_kind;
      root_quota = ap (λ (y : Dataset). y.quota) root ∙ form.root_quota;
      root_reservation = ap (λ (y : Dataset). y.reservation) root ∙ form.root_reservation;
      parents = λ d gt l.
          entry_push (λ (y : Dataset). y.parent < d) b.datasets x d nowhere (λ e. omega arith) (λ lt. form.parents d gt lt) (λ past. gt);
      named = λ d l.
          entry_push (λ (y : Dataset). length y.contents.name ≡ 8) b.datasets x d nowhere (λ e. name) (λ lt. form.named d lt)
          (λ past. absurd (omega arith));
      datasets = λ d.
          entry_push ShapedDataset b.datasets x d nowhere (λ e. shaped) (λ lt. form.datasets d) (λ past. shaped-empty 0 Folder [] 0 (omega arith) (λ e. refl));
      transactions_long = form.transactions_long;
      transactions = λ t.
          moved b b' (transaction b t) (λ v l e. (omega arith, ap (λ (y : Dataset). y.kind) (before v l) ∙ e)) (form.transactions t);
    }

not-folder : {T : Type 0} (x : Kind) → x ≡ Volume → x ≡ Folder → T
not-folder x e f = let z : ◌≡◌ {A = ℕ} 0 1 = cc in absurd (omega arith)

-- other contents of a volume
pub shaped-holding : (x : Dataset) (c : Contents) → ShapedDataset x → x.kind ≡ Volume → ShapedContents c → ShapedDataset (holding x c)
shaped-holding x c shaped kind contents = record {
  contents = contents;
  folder_records = λ e. not-folder x.kind kind e;
  folder_deferred = λ e. not-folder x.kind kind e;
  small_quota = shaped.small_quota;
  small_reservation = shaped.small_reservation;
  in_quota = shaped.in_quota;
}

pub shaped-emptied : (c : Contents) (r : ℕ) → ShapedContents c → r < c.records → ShapedContents (emptied c r)
shaped-emptied c r shaped lr = record {
  units_long = length-set c.units r 0 ∙ shaped.units_long;
  past_the_end = λ q le.
      entry_set (λ (n : ℕ). n ≡ 0) c.units r 0 q 0 (omega (arith, shaped.units_long, shaped.records_few)) (λ _. refl) (λ _. shaped.past_the_end q le);
  records_few = shaped.records_few;
}

pub shaped-units : (c : Contents) (r n : ℕ) → ShapedContents c → r < c.records → ShapedContents (with_units c r n)
shaped-units c r n shaped lr = record {
  units_long = length-set c.units r n ∙ shaped.units_long;
  past_the_end = λ q le.
      entry_set (λ (n : ℕ). n ≡ 0) c.units r n q 0 (omega (arith, shaped.units_long, shaped.records_few)) (λ e. absurd (omega arith))
      (λ _. shaped.past_the_end q le);
  records_few = shaped.records_few;
}

pub name-emptied_from : (n r : ℕ) (c : Contents) → (emptied_from r n c).name ≡ c.name
unfolding emptied_from
name-emptied_from zero r c = refl
name-emptied_from (suc n) r c = name-emptied_from n (suc r) (emptied c r)

-- the records from n on to the old end fit the table
pub resize-fits : (c : Contents) (n : ℕ) → ShapedContents c → n ≤ 64 → n + (c.records - n) ≤ length c.units
resize-fits c n shaped le = omega (arith, shaped.units_long, shaped.records_few)

pub shaped-resized : (c : Contents) (n : ℕ) → ShapedContents c → n ≤ 64 → ShapedContents (resized c n)
shaped-resized c n shaped le = record {
  units_long = units-emptied_from (c.records - n) n c ∙ shaped.units_long;
  past_the_end = λ q l. becomes_empty (c.records - n) n c q (resize-fits c n shaped le) l (λ past. shaped.past_the_end q (omega arith));
  records_few = le;
}

-- a turn settles what is deferred
shaped_settled : (x : Dataset) → ShapedDataset x → ShapedDataset (holding x (settled x.contents))
shaped_settled x shaped = record {
  contents = record {
    units_long = shaped.contents.units_long;
    past_the_end = shaped.contents.past_the_end;
    records_few = shaped.contents.records_few;
  };
  folder_records = shaped.folder_records;
  folder_deferred = λ e. refl;
  small_quota = shaped.small_quota;
  small_reservation = shaped.small_reservation;
  in_quota = shaped.in_quota;
}

pub formed-turn : (F : Figures) (b : Book) → Formed b → Formed (next F b turn)
formed-turn F b form =
    let b' = next F b turn in
    let long : made b' ≡ made b = made-turn F b in
    let at : (d : ℕ) → dataset b' d ≡ holding (dataset b d) (settled (dataset b d).contents) = dataset-turn F b in
    record {
      some = omega (arith, form.some);
      few = omega (arith, form.few);
      root_kind = ap (λ (y : Dataset). y.kind) (at 0) ∙ form.root_kind;
      root_quota = ap (λ (y : Dataset). y.quota) (at 0) ∙ form.root_quota;
      root_reservation = ap (λ (y : Dataset). y.reservation) (at 0) ∙ form.root_reservation;
      parents = λ d gt l. omega (arith, ap (λ (y : Dataset). y.parent) (at d), form.parents d gt (omega arith));
      named = λ d l. ap (λ (y : Dataset). length y.contents.name) (at d) ∙ form.named d (omega arith);
      datasets = λ d. subst ShapedDataset (sym (at d)) (shaped_settled (dataset b d) (form.datasets d));
      transactions_long = form.transactions_long;
      transactions = λ t.
          moved b b' (transaction b t) (λ v l e. (omega arith, ap (λ (y : Dataset). y.kind) (at v) ∙ e)) (form.transactions t);
    }
