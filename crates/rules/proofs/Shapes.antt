-- The shape of a ledger's book holds at first, and every accepted order keeps it.
use Rattle.std.proofs.Common.{◌≡◌, ℕ, zero, suc, ◌-◌, ◌^◌, ◌<◌, ◌≤◌, ◌≢◌, List, [], ◌∷◌, length, sym, refl, ap, ◌∙◌, subst, arith}
use Rattle.std.proofs.lemmas.List.{length-replicate}
use Rattle.orders.specs.declared.answer.Answer.TheVariants.{Done}
use Rattle.orders.specs.Meaning.{Meaning, folder, volume, quota, reserve, resize, begin, hold_writes, hold_frees, assign, abort, write, free, commit, turn, tell}
use Rattle.charges.specs.declared.Row.{Row}
use Rattle.charges.specs.Amounts.{reweighed}
use Rattle.charges.specs.Tree.{row, Rooted, load, WithinLimits, with_own, charge as charge_of}
use Rattle.charges.specs.Walk.{walk}
use Rattle.charges.proofs.Limits.{nothing-within}
use Rattle.charges.proofs.Falls.{fall_law, quota-law}
use Rattle.charges.proofs.News.{add_law}
use Rattle.charges.proofs.Walks.{rise_law, reserve-law}
use Rattle.rules.specs.declared.state.Kind.{Kind}
use Rattle.rules.specs.declared.state.Kind.TheVariants.{Folder, Volume}
use Rattle.rules.specs.declared.state.Contents.{Contents}
use Rattle.rules.specs.declared.state.Transaction.{Transaction}
use Rattle.rules.specs.declared.state.Transaction.TheVariants.{Idle, Created, Assigned}
use Rattle.rules.specs.Figures.{Figures, Sane, room}
use Rattle.rules.specs.Book.{Dataset, Book, empty, new, root, fresh, dataset, transaction, made, records, volume_of, writes_of, frees_of, estimate, grant_on, own, rows, charge}
use Rattle.rules.specs.Answers.{answer}
use Rattle.rules.specs.Effects.{with_units, emptied, resized, holding, with_quota, with_reservation, with_new, with_dataset, with_contents, with_transaction, next}
use Rattle.rules.specs.Theorems.{Fits}
use Rattle.rules.specs.Invariant.{ShapedContents, ShapedDataset, ShapedTransaction, Shaped}
use Rattle.rules.proofs.Entries.{entry-replicate}
use Rattle.rules.proofs.Rows.{rows-length, row-parent, row-quota, row-reservation, row-own, in_rows, rows-rooted, rows_idle, rows-assign, rows-commit, rows_write, rows-free, rows-resize, rows-quota, rows-reserve, rows_new, rows-turn, new_row, held_by, made-turn, made-set, held-empty}
use Rattle.rules.proofs.Falls.{within_mono}
use Rattle.rules.proofs.Accepted.{folder_ok, volume_ok, quota_ok, reserve_ok, resize_ok, begin_ok, hold_writes_ok, hold_frees_ok, assign_ok, abort_ok, write_ok, free_ok, commit_ok}
use Rattle.rules.proofs.Edits.{Formed, formed, shaped-within, formed-transaction, formed-dataset, shaped-empty, formed-new, shaped-holding, shaped-emptied, shaped-units, name-emptied_from, shaped-resized, formed-turn, part-kept}

-- limits hold for the rows that these are
within_by : (F : Figures) (b : Book) (rs : List Row) → rows F b ≡ rs → WithinLimits (room F) rs → WithinLimits (room F) (rows F b)
within_by F b rs e within = subst (λ (xs : List Row). WithinLimits (room F) xs) (sym e) within

idle_shaped : (b : Book) → ShapedTransaction b Idle
idle_shaped b = record { on_volume = λ busy. absurd (busy refl); few_writes = omega arith; few_frees = omega arith }

module _ (F : Figures) (b : Book) (shaped : Shaped F b) where
  form : Formed b
  form = formed F b shaped

  rooted : Rooted (rows F b)
  rooted = rows-rooted F b shaped

  -- a new dataset with nothing in it
  shaped-new : (x : Dataset) → made b < 64 → x.parent < made b → length x.contents.name ≡ 8 → x.reservation ≡ 0 → held_by x.contents ≡ 0 →
      ShapedDataset x → Shaped F (with_new b x)
  shaped-new x some parent name none nothing good =
      shaped-within F (with_new b x) (formed-new b x form some parent name good)
      (within_by F (with_new b x) _ (rows_new F b x shaped nothing)
      ((add_law (rows F b) (new_row x) rooted (in_rows F b x.parent parent) none refl).still_within (room F) shaped.within))

  pub shaped-folder : (p : ℕ) (n : List ℕ) (k : ℕ) → length n ≡ 8 → answer F b (folder p n) ≡ Done k → Shaped F (next F b (folder p n))
  shaped-folder p n k name ok =
      let o = folder_ok F b k p n ok in
      shaped-new (new p Folder (empty n 0)) o.2 o.0 name refl (held-empty n 0) (shaped-empty p Folder n 0 (omega arith) (λ e. refl))

  pub shaped-volume : (p r : ℕ) (n : List ℕ) (k : ℕ) → length n ≡ 8 → answer F b (volume p r n) ≡ Done k → Shaped F (next F b (volume p r n))
  shaped-volume p r n k name ok =
      let o = volume_ok F b k p r n ok in
      shaped-new (new p Volume (empty n r)) o.2 o.0 name refl (held-empty n r)
      (shaped-empty p Volume n r o.4 (λ (e : ◌≡◌ {A = Kind} Volume Folder). let z : ◌≡◌ {A = ℕ} 0 1 = cc in absurd (omega arith)))

  pub shaped-quota : (d u k : ℕ) → u < 2 ^ 16 → answer F b (quota d u) ≡ Done k → Shaped F (next F b (quota d u))
  shaped-quota d u k small ok =
      let o = quota_ok F b k d u ok in
      let x = with_quota (dataset b d) u in
      let was = shaped.datasets d in
      let good : ShapedDataset x = record {
        contents = was.contents;
        folder_records = was.folder_records;
        folder_deferred = was.folder_deferred;
        small_quota = small;
        small_reservation = was.small_reservation;
        in_quota = λ some. omega (arith, o.2 some, row-reservation F b d o.1);
      } in
      shaped-within F (with_dataset b d x) (formed-dataset b d x o.1 form refl refl refl (λ e. absurd (omega (arith, o.0))) good)
      (within_by F (with_dataset b d x) _ (rows-quota F b d u o.1)
      ((quota-law (rows F b) d u rooted (in_rows F b d o.1) o.0).still_within (room F) shaped.within (λ some. omega (arith, o.2 some))))

  -- the walk of the rules is that of the law
  walk_is : (d u : ℕ) → d < made b →
      walk (room F) (rows F b) (row (rows F b) d).parent (reweighed (charge F b d) (row (rows F b) d).reservation u)
      ≡ walk (room F) (rows F b) (dataset b d).parent (reweighed (charge F b d) (dataset b d).reservation u)
  walk_is d u l =
      ap (λ (p : ℕ). walk (room F) (rows F b) p (reweighed (charge F b d) (row (rows F b) d).reservation u)) (row-parent F b d l)
      ∙ ap (λ (r : ℕ). walk (room F) (rows F b) (dataset b d).parent (reweighed (charge F b d) r u)) (row-reservation F b d l)

  pub shaped-reserve : (d u k : ℕ) → u < 2 ^ 16 → answer F b (reserve d u) ≡ Done k → Shaped F (next F b (reserve d u))
  shaped-reserve d u k small ok =
      let o = reserve_ok F b k d u ok in
      let x = with_reservation (dataset b d) u in
      let was = shaped.datasets d in
      let good : ShapedDataset x = record {
        contents = was.contents;
        folder_records = was.folder_records;
        folder_deferred = was.folder_deferred;
        small_quota = was.small_quota;
        small_reservation = small;
        in_quota = o.2;
      } in
      shaped-within F (with_dataset b d x) (formed-dataset b d x o.1 form refl refl refl (λ e. absurd (omega (arith, o.0))) good)
      (within_by F (with_dataset b d x) _ (rows-reserve F b d u o.1)
      ((reserve-law (room F) (rows F b) d u rooted shaped.within (in_rows F b d o.1) o.0).none.0 (walk_is d u o.1 ∙ o.3)))

  pub shaped-resize : (v n k : ℕ) → answer F b (resize v n) ≡ Done k → Shaped F (next F b (resize v n))
  shaped-resize v n k ok =
      let o = resize_ok F b k v n ok in
      let c = (dataset b v).contents in
      let was = shaped.datasets v in
      let x = holding (dataset b v) (resized c n) in
      shaped-within F (with_dataset b v x)
      (formed-dataset b v x o.0 form refl refl (name-emptied_from (c.records - n) n c)
      (λ e. (ap (λ (d : ℕ). (dataset b d).quota) e ∙ shaped.root_quota, ap (λ (d : ℕ). (dataset b d).reservation) e ∙ shaped.root_reservation))
      (shaped-holding (dataset b v) (resized c n) was o.1 (shaped-resized c n was.contents o.3)))
      (within_by F (with_dataset b v x) _
      (rows-resize F b v n o.0 (omega (arith, was.contents.units_long, was.contents.records_few)) (omega (arith, was.contents.units_long, o.3)))
      shaped.within)

  listed : (t : ℕ) → t < 32 → t < length b.transactions
  listed t l = omega (arith, shaped.transactions_long)

  -- a transaction set anew that has no grant, before and after
  shaped_idle : (t : ℕ) (y : Transaction) → t < 32 → ShapedTransaction b y → ((d : ℕ) → grant_on F d (transaction b t) ≡ 0) → ((d : ℕ) → grant_on F d y ≡ 0) →
      Shaped F (with_transaction b t y)
  shaped_idle t y lt good before after =
      shaped-within F (with_transaction b t y) (formed-transaction b t y form lt good)
      (within_by F (with_transaction b t y) _ (rows_idle F b t (listed t lt) y before after) shaped.within)

  pub shaped-begin : (t v k : ℕ) → answer F b (begin t v) ≡ Done k → Shaped F (next F b (begin t v))
  shaped-begin t v k ok =
      let o = begin_ok F b k t v ok in
      shaped_idle t (Created v) o.0 (record { on_volume = λ busy. (o.2, o.3); few_writes = omega arith; few_frees = omega arith })
      (λ d. ap (grant_on F d) o.1) (λ d. refl)

  pub shaped_hold_writes : (t n k : ℕ) → answer F b (hold_writes t n) ≡ Done k → Shaped F (next F b (hold_writes t n))
  shaped_hold_writes t n k ok =
      let o = hold_writes_ok F b k t n ok in
      let was = shaped.transactions t in
      shaped_idle t _ o.0 (record { on_volume = λ busy. was.on_volume o.1; few_writes = o.3; few_frees = was.few_frees }) o.4 (λ d. refl)

  pub shaped_hold_frees : (t n k : ℕ) → answer F b (hold_frees t n) ≡ Done k → Shaped F (next F b (hold_frees t n))
  shaped_hold_frees t n k ok =
      let o = hold_frees_ok F b k t n ok in
      let was = shaped.transactions t in
      shaped_idle t _ o.0 (record { on_volume = λ busy. was.on_volume o.1; few_writes = was.few_writes; few_frees = o.3 }) o.4 (λ d. refl)

  pub shaped-abort : (t k : ℕ) → answer F b (abort t) ≡ Done k → Shaped F (next F b (abort t))
  shaped-abort t k ok =
      let o = abort_ok F b k t ok in
      shaped_idle t Idle o.0 (idle_shaped b) o.2 (λ d. refl)

  -- a transaction that is held or assigned has a volume
  pub busy_volume : (t : ℕ) → transaction b t ≢ Idle → (volume_of (transaction b t) < made b) × ((dataset b (volume_of (transaction b t))).kind ≡ Volume)
  busy_volume t busy = (shaped.transactions t).on_volume busy

  pub shaped-assign : (t k : ℕ) → answer F b (assign t) ≡ Done k → Shaped F (next F b (assign t))
  shaped-assign t k ok =
      let o = assign_ok F b k t ok in
      let x = transaction b t in
      let was = shaped.transactions t in
      let there = busy_volume t (λ e. let h = o.1 in let z : ◌≡◌ {A = ℕ} 0 1 = cc in omega arith) in
      shaped-within F (next F b (assign t))
      (formed-transaction b t _ form o.0 (record { on_volume = λ busy. there; few_writes = was.few_writes; few_frees = was.few_frees }))
      (within_by F (next F b (assign t)) _ (rows-assign F b t (listed t o.0) (volume_of x) (writes_of x) (frees_of x) there.0 o.1)
      ((rise_law (room F) (rows F b) (volume_of x) (estimate F (writes_of x)) rooted shaped.within (in_rows F b (volume_of x) there.0)).none.0 o.2))

  -- fewer own units of a volume
  fewer-own : (v n : ℕ) → v < made b → WithinLimits (room F) (with_own (rows F b) v (own F b v - n))
  fewer-own v n l =
      fall_law.by_own (room F) (rows F b) v (own F b v - n) rooted shaped.within (in_rows F b v l) (omega (arith, row-own F b v l))

  pub shaped-commit : (t k : ℕ) → answer F b (commit t) ≡ Done k → Shaped F (next F b (commit t))
  shaped-commit t k ok =
      let o = commit_ok F b k t ok in
      let x = transaction b t in
      let there = busy_volume t (λ e. let h = o.1 in let z : ◌≡◌ {A = ℕ} 0 1 = cc in omega arith) in
      shaped-within F (next F b (commit t)) (formed-transaction b t Idle form o.0 (idle_shaped b))
      (within_by F (next F b (commit t)) _ (rows-commit F b t (listed t o.0) (volume_of x) (writes_of x) (frees_of x) there.0 o.1)
      (fewer-own (volume_of x) (estimate F (writes_of x)) there.0))

  module _ (t : ℕ) (is : transaction b t ≡ Assigned (volume_of (transaction b t)) (writes_of (transaction b t)) (frees_of (transaction b t))) where
    pub assigned-volume : (volume_of (transaction b t) < made b) × ((dataset b (volume_of (transaction b t))).kind ≡ Volume)
    assigned-volume = busy_volume t (λ e. let z : ◌≡◌ {A = ℕ} 0 1 = cc in omega arith)

    -- other contents of the volume, and an assigned transaction with no more left
    formed_spent : t < 32 → (c : Contents) (w f : ℕ) → ShapedContents c → c.name ≡ (dataset b (volume_of (transaction b t))).contents.name →
        w ≤ writes_of (transaction b t) → f ≤ frees_of (transaction b t) →
        Formed (with_transaction (with_contents b (volume_of (transaction b t)) c) t (Assigned (volume_of (transaction b t)) w f))
    formed_spent lt c w f good name less-writes less-frees =
        let v = volume_of (transaction b t) in
        let x = holding (dataset b v) c in
        let was = shaped.transactions t in
        let kinds = part-kept b v x assigned-volume.0 (λ (y : Dataset). y.kind) refl in
        formed-transaction (with_contents b v c) t (Assigned v w f)
        (formed-dataset b v x assigned-volume.0 form refl refl name
        (λ e. (ap (λ (d : ℕ). (dataset b d).quota) e ∙ shaped.root_quota, ap (λ (d : ℕ). (dataset b d).reservation) e ∙ shaped.root_reservation))
        (shaped-holding (dataset b v) c (shaped.datasets v) assigned-volume.1 good))
        lt
        (record {
          on_volume = λ busy. (omega (arith, assigned-volume.0, made-set b v assigned-volume.0 x), kinds v ∙ assigned-volume.1);
          few_writes = omega (arith, was.few_writes);
          few_frees = omega (arith, was.few_frees);
        })

    pub record-listed : (r : ℕ) → r < records b (volume_of (transaction b t)) → r < length (dataset b (volume_of (transaction b t))).contents.units
    record-listed r l =
        let c = (shaped.datasets (volume_of (transaction b t))).contents in
        omega (arith, c.units_long, c.records_few)

  -- a write that costs at most the worst
  pub shaped-wrote : (t r s k : ℕ) → F.cost s ≤ F.worst → answer F b (write t r s) ≡ Done k → Shaped F (next F b (write t r s))
  shaped-wrote t r s k cheap ok =
      let o = write_ok F b k t r s ok in
      let v = volume_of (transaction b t) in
      let c = (dataset b v).contents in
      let was = (shaped.datasets v).contents in
      let there = assigned-volume t o.1 in
      shaped-within F (next F b (write t r s))
      (formed_spent t o.1 o.0 (with_units (emptied c r) r (F.cost s)) (writes_of (transaction b t) - 1) (frees_of (transaction b t))
      (shaped-units (emptied c r) r (F.cost s) (shaped-emptied c r was o.3) o.3) refl (omega arith) (omega arith))
      (within_by F (next F b (write t r s)) _
      (rows_write F b t v (writes_of (transaction b t)) (frees_of (transaction b t)) o.1 (listed t o.0) there.0 r (record-listed t o.1 r o.3) s
      o.2 cheap)
      (fewer-own v (F.worst - F.cost s) there.0))

  pub shaped-write : (t r s k : ℕ) → Sane F → answer F b (write t r s) ≡ Done k → Shaped F (next F b (write t r s))
  shaped-write t r s k sane ok = shaped-wrote t r s k (sane.bounded.within s (write_ok F b k t r s ok).4) ok

  pub shaped-free : (t r k : ℕ) → answer F b (free t r) ≡ Done k → Shaped F (next F b (free t r))
  shaped-free t r k ok =
      let o = free_ok F b k t r ok in
      let v = volume_of (transaction b t) in
      let c = (dataset b v).contents in
      let was = (shaped.datasets v).contents in
      let there = assigned-volume t o.1 in
      shaped-within F (next F b (free t r))
      (formed_spent t o.1 o.0 (emptied c r) (writes_of (transaction b t)) (frees_of (transaction b t) - 1)
      (shaped-emptied c r was o.3) refl (omega arith) (omega arith))
      (within_by F (next F b (free t r)) _
      (rows-free F b t v (writes_of (transaction b t)) (frees_of (transaction b t)) o.1 (listed t o.0) there.0 r (record-listed t o.1 r o.3))
      shaped.within)

  pub shaped-turn : Shaped F (next F b turn)
  shaped-turn =
      let b' = next F b turn in
      let lt : (d : ℕ) → d < length (rows F b) → d < made b = λ d l. omega (arith, rows-length F b) in
      shaped-within F b' (formed-turn F b form)
      (within_mono (rows F b) (rows F b') (rows-length F b' ∙ made-turn F b ∙ sym (rows-length F b))
      (λ d l.
      let at = rows-turn F b d (lt d l) in
      record {
        parent = ap (λ (r : Row). r.parent) at ∙ sym (row-parent F b d (lt d l));
        own = omega (arith, ap (λ (r : Row). r.own) at, row-own F b d (lt d l));
        reservation = omega (arith, ap (λ (r : Row). r.reservation) at, row-reservation F b d (lt d l));
      })
      (room F) (λ d l. ap (λ (r : Row). r.quota) (rows-turn F b d (lt d l)) ∙ sym (row-quota F b d (lt d l))) shaped.within)

pub rows-fresh : (F : Figures) → rows F fresh ≡ new_row root ∷ []
unfolding rows fresh
rows-fresh F = refl

fresh-dataset : (d : ℕ) → ShapedDataset (dataset fresh d)
unfolding fresh
fresh-dataset zero = shaped-empty 0 Folder _ 0 (omega arith) (λ e. refl)
fresh-dataset (suc d) = shaped-empty 0 Folder [] 0 (omega arith) (λ e. refl)

fresh-formed : Formed fresh
unfolding fresh
fresh-formed = record {
  some = omega arith;
  few = omega arith;
  root_kind = refl;
  root_quota = refl;
  root_reservation = refl;
  parents = λ d gt l. absurd (omega arith);
  named = λ d l. let first : d ≡ 0 = omega arith in ap (λ (k : ℕ). length (dataset fresh k).contents.name) first;
  datasets = fresh-dataset;
  transactions_long = length-replicate 32 Idle;
  transactions = λ t. subst (ShapedTransaction fresh) (sym (entry-replicate 32 t Idle)) (idle_shaped fresh);
}

alone : (r : Row) → r.own ≡ 0 → (d : ℕ) → d < 1 → charge_of (r ∷ []) d ≡ 0
unfolding charge_of load
alone r none zero l = omega arith
alone r none (suc d) l = absurd (omega arith)

pub shaped_fresh : (F : Figures) → Shaped F fresh
shaped_fresh F =
    shaped-within F fresh fresh-formed
    (within_by F fresh _ (rows-fresh F) (λ d l. nothing-within _ _ (alone (new_row root) refl d l)))

pub shaped-next : (F : Figures) (b : Book) (m : Meaning) (v : ℕ) → Sane F → Fits m → Shaped F b → answer F b m ≡ Done v → Shaped F (next F b m)
shaped-next F b (folder p n) v sane fits shaped ok = shaped-folder F b shaped p n v fits.1 ok
shaped-next F b (volume p r n) v sane fits shaped ok = shaped-volume F b shaped p r n v fits.2 ok
shaped-next F b (quota d u) v sane fits shaped ok = shaped-quota F b shaped d u v fits.1 ok
shaped-next F b (reserve d u) v sane fits shaped ok = shaped-reserve F b shaped d u v fits.1 ok
shaped-next F b (resize u n) v sane fits shaped ok = shaped-resize F b shaped u n v ok
shaped-next F b (begin t u) v sane fits shaped ok = shaped-begin F b shaped t u v ok
shaped-next F b (hold_writes t n) v sane fits shaped ok = shaped_hold_writes F b shaped t n v ok
shaped-next F b (hold_frees t n) v sane fits shaped ok = shaped_hold_frees F b shaped t n v ok
shaped-next F b (assign t) v sane fits shaped ok = shaped-assign F b shaped t v ok
shaped-next F b (abort t) v sane fits shaped ok = shaped-abort F b shaped t v ok
shaped-next F b (write t r s) v sane fits shaped ok = shaped-write F b shaped t r s v sane ok
shaped-next F b (free t r) v sane fits shaped ok = shaped-free F b shaped t r v ok
shaped-next F b (commit t) v sane fits shaped ok = shaped-commit F b shaped t v ok
shaped-next F b turn v sane fits shaped ok = shaped-turn F b shaped
shaped-next F b (tell d) v sane fits shaped ok = shaped
