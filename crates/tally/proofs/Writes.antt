-- Orders on records: the checks, a free, and a write.
use Rattle.std.proofs.Common.{◌≡◌, ℕ, ◌+◌, ◌-◌, ◌^◌, ◌<◌, ◌≤◌, Bool, true, false, cond, ltb, leb, List, length, get_or, set, Ok, Err, Result, sym, refl, ap, ◌∙◌, arith}
use Rattle.std.proofs.lemmas.List.{length-set}
use Rattle.std.proofs.lemmas.Bool.{lt-ltb, le-leb, lt-leb, cond-true, cond-false}
use Rattle.orders.specs.declared.answer.Answer.{Answer}
use Rattle.orders.specs.declared.answer.Answer.TheVariants.{Done, Refused}
use Rattle.orders.specs.Meaning.{free, write}
use Rattle.charges.specs.declared.Row.{Row}
use Rattle.charges.specs.Tree.{row, with_own}
use Rattle.rules.specs.declared.state.Contents.{Contents}
use Rattle.rules.specs.declared.state.Transaction.{Transaction}
use Rattle.rules.specs.declared.state.Transaction.TheVariants.{Assigned}
use Rattle.rules.specs.Book.{Dataset, dataset, transaction, made, records, units, volume_of, writes_of, frees_of, rows}
use Rattle.rules.specs.Answers.{refused, answer}
use Rattle.rules.specs.Effects.{with_units, emptied, with_contents, with_transaction, next}
use Rattle.rules.proofs.Accepted.{free_ok, write_ok}
use Rattle.rules.proofs.Rows.{row-own, rows-free, rows_write}
use Rattle.rules.proofs.Shapes.{shaped-free, shaped-wrote}
use Rattle.tree.specs.declared.Tree.{Tree}
use Rattle.tree.specs.declared.fault.TreeFault.TheVariants.{Missing}
use Rattle.tree.specs.Parts.{rows_of, kinds_of, Becomes}
use Rattle.tree.specs.Answers.{as_dataset}
use Rattle.tally.specs.declared.Tally.{Tally}
use Rattle.tally.specs.declared.fault.LedgerFault.{LedgerFault}
use Rattle.tally.specs.declared.fault.LedgerFault.TheVariants.{NoSuchRecord, SizeTooLarge}
use Rattle.tally.specs.declared.step.Asked.TheVariants.{Write, Free}
use Rattle.tally.specs.declared.step.Change.{Change}
use Rattle.tally.specs.Faults.{refusal_of}
use Rattle.tally.specs.Joined.{contents_at, book_in}
use Rattle.tally.specs.Parts.{book_of, figures_of, Did, Writable, Accepts}
use Rattle.tally.specs.Sound.{Sound}
use Rattle.tally.specs.Steps.{record_or, change_of}
use Rattle.tally.proofs.Asks.{and_then, allowed, goes_on, on_record, write_steps, freed, free_steps, spent_write, spent_free}
use Rattle.tally.proofs.Bounds.{contents-is, units_long, record-few}
use Rattle.tally.proofs.Costs.{rows-cost, shaped-cost}
use Rattle.tally.proofs.Grants.{own-book, volume-made, volume-listed, assigned_busy}
use Rattle.tally.proofs.Joins.{datasets-contents}
use Rattle.tally.proofs.Sounds.{sound, made-is, rows_are, shaped, still-sound, refused_did}

record_by : (q : Bool) (f : LedgerFault) (a : Answer) → cond q a (Refused (refusal_of f)) ≡ and_then {X = Unit {0}} (cond q (Ok tt) (Err f)) (λ _. a)
record_by true f a = refl
record_by false f a = refl

-- other contents of a volume, and a transaction set anew
record-book : (t : Tally) (v x : ℕ) (k : Contents) (y : Transaction) → v < length (rows_of t.tree) →
    book_in t.tree (set t.contents v k) (set t.transactions x y) ≡ with_transaction (with_contents (book_of t) v k) x y
record-book t v x k y l =
    ap (λ (ds : List Dataset). record { datasets = ds; transactions = set t.transactions x y })
    (datasets-contents (rows_of t.tree) (kinds_of t.tree) t.contents v l k
    (omega (arith, (sound t).contents_long, (shaped t (λ s. 0)).few, made-is t.tree t.contents t.transactions)))

-- a transaction that is assigned, its state after what is asked, and the volume of that
module _ (t : Tally) (x : ℕ)
    (is : transaction (book_of t) x ≡ Assigned (volume_of (transaction (book_of t) x)) (writes_of (transaction (book_of t) x)) (frees_of (transaction (book_of t) x)))
    (v : ℕ) (same : v ≡ volume_of (transaction (book_of t) x)) where
  pub on_listed : v < length (rows_of t.tree)
  on_listed = omega (arith, volume-listed t x (assigned_busy _ _ _ _ is))

  pub on_made : v < made (book_of t)
  on_made = omega (arith, volume-made t x (assigned_busy _ _ _ _ is))

  pub on_table : v < 64
  on_table = omega (arith, on_made, (shaped t (λ s. 0)).few)

  -- a record of the volume
  module _ (r : ℕ) (below : r < records (book_of t) (volume_of (transaction (book_of t) x))) where
    pub record-inside : r < length (contents_at t.contents v).units
    record-inside =
        let c = ((shaped t (λ s. 0)).datasets (volume_of (transaction (book_of t) x))).contents in
        omega (arith, c.records_few, units_long t v on_listed)

    pub record-fits : (contents_at t.contents v).deferred + get_or (contents_at t.contents v).units r 0 < 2 ^ 16
    record-fits = omega (arith, record-few t v on_listed r (omega (arith, record-inside, units_long t v on_listed)), t.sized)

    record-listed : r < length (dataset (book_of t) (volume_of (transaction (book_of t) x))).contents.units
    record-listed =
        let c = ((shaped t (λ s. 0)).datasets (volume_of (transaction (book_of t) x))).contents in
        omega (arith, c.records_few, c.units_long)

-- a free
module _ (t : Tally) (x r : ℕ) (c : Change) (e : change_of t.transactions x Free ≡ Ok c) (v : ℕ) (volume_is : v ≡ volume_of c.after) where
  free_state : (transaction (book_of t) x ≡ Assigned (volume_of (transaction (book_of t) x)) (writes_of (transaction (book_of t) x)) (frees_of (transaction (book_of t) x)))
      × (c.after ≡ Assigned (volume_of (transaction (book_of t) x)) (writes_of (transaction (book_of t) x)) (frees_of (transaction (book_of t) x) - 1))
  free_state = spent_free x (transaction (book_of t) x) c.after (allowed t.transactions x Free c e).after

  pub free-volume : v ≡ volume_of (transaction (book_of t) x)
  free-volume = volume_is ∙ ap volume_of free_state.1

  pub free_table : v < 64
  free_table = on_table t x free_state.0 v free-volume

  free-checked : (cost : ℕ → ℕ) →
      answer (figures_of cost t) (book_of t) (free x r) ≡ and_then (record_or t.contents x v r) (λ _. Done (get_or (contents_at t.contents v).units r 0))
  free-checked cost =
      let F = figures_of cost t in
      let b = book_of t in
      let k = contents_at t.contents v in
      free_steps F b x r ∙ goes_on t.transactions x Free c (freed F b x r) e
      ∙ ap (λ (w : ℕ). cond (ltb r (records b w)) (Done (units b w r)) (refused 9 r (records b w))) (sym volume_is)
      ∙ ap (λ (y : Contents). cond (ltb r y.records) (Done (get_or y.units r 0)) (refused 9 r y.records)) (contents-is t v (on_listed t x free_state.0 v free-volume))
      ∙ record_by (ltb r k.records) (NoSuchRecord x r k.records) (Done (get_or k.units r 0))

  pub free-refused : (f : LedgerFault) → record_or t.contents x v r ≡ Err f → Did t t (free x r) (Refused (refusal_of f))
  free-refused f no_record =
      refused_did t t (free x r) f
      (λ cost. free-checked cost ∙ ap (λ (q : Result (Unit {0}) LedgerFault). and_then q (λ _. Done (get_or (contents_at t.contents v).units r 0))) no_record) refl

  module _ (there : record_or t.contents x v r ≡ Ok tt) where
    pub free-done : (cost : ℕ → ℕ) → answer (figures_of cost t) (book_of t) (free x r) ≡ Done (get_or (contents_at t.contents v).units r 0)
    free-done cost =
        free-checked cost ∙ ap (λ (q : Result (Unit {0}) LedgerFault). and_then q (λ _. Done (get_or (contents_at t.contents v).units r 0))) there

    free-below : r < records (book_of t) (volume_of (transaction (book_of t) x))
    free-below = (free_ok (figures_of (λ s. 0) t) (book_of t) _ x r (free-done (λ s. 0))).3

    pub free-inside : r < length (contents_at t.contents v).units
    free-inside = record-inside t x free_state.0 v free-volume r free-below

    pub free-fits : (contents_at t.contents v).deferred + get_or (contents_at t.contents v).units r 0 < 2 ^ 16
    free-fits = record-fits t x free_state.0 v free-volume r free-below

    module _ (k : Contents) (k-is : k ≡ emptied (contents_at t.contents v) r) where
      pub free-book : (cost : ℕ → ℕ) →
          book_in t.tree (set t.contents v k) (set t.transactions x c.after) ≡ next (figures_of cost t) (book_of t) (free x r)
      free-book cost =
          let b = book_of t in
          let l = on_listed t x free_state.0 v free-volume in
          record-book t v x k c.after l
          ∙ ap (λ (z : Contents). with_transaction (with_contents b v z) x c.after) (k-is ∙ ap (λ (z : Contents). emptied z r) (sym (contents-is t v l)))
          ∙ ap (λ (w : ℕ). with_transaction (with_contents b w (emptied (dataset b w).contents r)) x c.after) free-volume
          ∙ ap (λ (y : Transaction). with_transaction (with_contents b (volume_of (transaction b x)) (emptied (dataset b (volume_of (transaction b x))).contents r)) x y)
          free_state.1

      pub free-sound : ∥ Sound t.size t.slop t.worst t.tree (set t.contents v k) (set t.transactions x c.after) ∥₁
      free-sound =
          still-sound t t.tree (set t.contents v k) (set t.transactions x c.after) (λ cost. next (figures_of cost t) (book_of t) (free x r)) refl
          (length-set t.contents v k ∙ (sound t).contents_long) free-book
          (λ cost.
          let F = figures_of cost t in
          let b = book_of t in
          let z = transaction b x in
          let lt : x < length b.transactions = omega (arith, (allowed t.transactions x Free c e).listed, (shaped t cost).transactions_long) in
          rows_are t cost
          ∙ sym (rows-free F b x (volume_of z) (writes_of z) (frees_of z) free_state.0 lt (volume-made t x (assigned_busy _ _ _ _ free_state.0)) r
          (record-listed t x free_state.0 v free-volume r free-below)))
          (λ cost. shaped-free (figures_of cost t) (book_of t) (shaped t cost) x r _ (free-done cost))

-- the checks of a write
module _ (t : Tally) (x r : ℕ) (c : Change) (e : change_of t.transactions x Write ≡ Ok c) (v : ℕ) (volume_is : v ≡ volume_of c.after) where
  pub write_state : (transaction (book_of t) x ≡ Assigned (volume_of (transaction (book_of t) x)) (writes_of (transaction (book_of t) x)) (frees_of (transaction (book_of t) x)))
      × (c.after ≡ Assigned (volume_of (transaction (book_of t) x)) (writes_of (transaction (book_of t) x) - 1) (frees_of (transaction (book_of t) x)))
  write_state = spent_write x (transaction (book_of t) x) c.after (allowed t.transactions x Write c e).after

  pub write-volume : v ≡ volume_of (transaction (book_of t) x)
  write-volume = volume_is ∙ ap volume_of write_state.1

  pub write_table : v < 64
  write_table = on_table t x write_state.0 v write-volume

  write_checked : (s : ℕ) (cost : ℕ → ℕ) →
      answer (figures_of cost t) (book_of t) (write x r s) ≡ and_then (record_or t.contents x v r) (λ _. cond (leb s 16) (Done (cost s)) (refused 10 s 16))
  write_checked s cost =
      let F = figures_of cost t in
      let b = book_of t in
      let k = contents_at t.contents v in
      let a = cond (leb s 16) (Done (cost s)) (refused 10 s 16) in
      write_steps F b x r s ∙ goes_on t.transactions x Write c (on_record F b x r a) e
      ∙ ap (λ (w : ℕ). cond (ltb r (records b w)) a (refused 9 r (records b w))) (sym volume_is)
      ∙ ap (λ (y : Contents). cond (ltb r y.records) a (refused 9 r y.records)) (contents-is t v (on_listed t x write_state.0 v write-volume))
      ∙ record_by (ltb r k.records) (NoSuchRecord x r k.records) a

  pub write_no_record : (f : LedgerFault) → record_or t.contents x v r ≡ Err f → (s : ℕ) (cost : ℕ → ℕ) →
      answer (figures_of cost t) (book_of t) (write x r s) ≡ Refused (refusal_of f)
  write_no_record f no_record s cost =
      write_checked s cost
      ∙ ap (λ (q : Result (Unit {0}) LedgerFault). and_then q (λ _. cond (leb s 16) (Done (cost s)) (refused 10 s 16))) no_record

  module _ (there : record_or t.contents x v r ≡ Ok tt) where
    write-sized : (s : ℕ) (cost : ℕ → ℕ) → answer (figures_of cost t) (book_of t) (write x r s) ≡ cond (leb s 16) (Done (cost s)) (refused 10 s 16)
    write-sized s cost =
        write_checked s cost
        ∙ ap (λ (q : Result (Unit {0}) LedgerFault). and_then q (λ _. cond (leb s 16) (Done (cost s)) (refused 10 s 16))) there

    pub write_too_large : (s : ℕ) → 16 < s → (cost : ℕ → ℕ) → answer (figures_of cost t) (book_of t) (write x r s) ≡ Refused (refusal_of (SizeTooLarge x s))
    write_too_large s large cost = write-sized s cost ∙ cond-false (leb s 16) (Done (cost s)) (refused 10 s 16) (lt-leb s 16 large)

    pub write_accepts : (s : ℕ) → s ≤ 16 → Accepts t x r s v
    write_accepts s fits =
        let done : (cost : ℕ → ℕ) → answer (figures_of cost t) (book_of t) (write x r s) ≡ Done (cost s) =
        λ cost. write-sized s cost ∙ cond-true (leb s 16) (Done (cost s)) (refused 10 s 16) (le-leb s 16 fits) in
        let o = write_ok (figures_of (λ n. 0) t) (book_of t) 0 x r s (done (λ n. 0)) in
        record {
          answered = done;
          writable = record { listed = o.0; assigned = o.1; some_left = o.2; below_end = o.3 };
          volume_is = write-volume;
        }

-- a write
module _ (t : Tally) (x r n : ℕ) (ready : Writable t x r) (cheap : n ≤ t.worst) (c : Change) (e : change_of t.transactions x Write ≡ Ok c)
    (v : ℕ) (volume_is : v ≡ volume_of c.after) where
  wrote-volume : v ≡ volume_of (transaction (book_of t) x)
  wrote-volume = write-volume t x r c e v volume_is

  wrote-listed : v < length (rows_of t.tree)
  wrote-listed = on_listed t x ready.assigned v wrote-volume

  pub wrote_lowers : as_dataset (rows_of t.tree) v ≡ Ok tt
  wrote_lowers = cond-true (ltb v (length (rows_of t.tree))) (Ok tt) (Err (Missing v)) (lt-ltb v (length (rows_of t.tree)) wrote-listed)

  pub wrote-inside : r < length (contents_at t.contents v).units
  wrote-inside = record-inside t x ready.assigned v wrote-volume r ready.below_end

  pub wrote-fits : (contents_at t.contents v).deferred + get_or (contents_at t.contents v).units r 0 < 2 ^ 16
  wrote-fits = record-fits t x ready.assigned v wrote-volume r ready.below_end

  module _ (u : ℕ) (u-is : u ≡ t.worst - n) (tree' : Tree)
      (be : Becomes t.tree tree' (with_own (rows_of t.tree) v ((row (rows_of t.tree) v).own - u)) (kinds_of t.tree))
      (k : Contents) (k-is : k ≡ with_units (emptied (contents_at t.contents v) r) r n) where
    pub wrote-book : (cost : ℕ → ℕ) (s : ℕ) → cost s ≡ n →
        book_in tree' (set t.contents v k) (set t.transactions x c.after) ≡ next (figures_of cost t) (book_of t) (write x r s)
    wrote-book cost s costs =
        let b = book_of t in
        let z = transaction b x in
        own-book t.tree tree' v ((row (rows_of t.tree) v).own - u) wrote-listed be (set t.contents v k) (set t.transactions x c.after)
        ∙ record-book t v x k c.after wrote-listed
        ∙ ap (λ (y : Contents). with_transaction (with_contents b v y) x c.after)
        (k-is ∙ ap (λ (m : ℕ). with_units (emptied (contents_at t.contents v) r) r m) (sym costs)
        ∙ ap (λ (y : Contents). with_units (emptied y r) r (cost s)) (sym (contents-is t v wrote-listed)))
        ∙ ap (λ (w : ℕ). with_transaction (with_contents b w (with_units (emptied (dataset b w).contents r) r (cost s))) x c.after) wrote-volume
        ∙ ap (λ (y : Transaction). with_transaction (with_contents b (volume_of z) (with_units (emptied (dataset b (volume_of z)).contents r) r (cost s))) x y)
        (write_state t x r c e v volume_is).1

    -- with a cost that is always n
    wrote-done : answer (figures_of (λ s. n) t) (book_of t) (write x r 0) ≡ Done n
    wrote-done = answer_when_ready (λ s. n)
      where
        answer_when_ready : (cost : ℕ → ℕ) → answer (figures_of cost t) (book_of t) (write x r 0) ≡ Done (cost 0)
        answer_when_ready cost =
            (write_accepts t x r c e v volume_is
            (cond-true (ltb r (contents_at t.contents v).records) (Ok tt) (Err (NoSuchRecord x r (contents_at t.contents v).records))
            (lt-ltb r (contents_at t.contents v).records
            (omega (arith, ready.below_end, ap (λ (w : ℕ). records (book_of t) w) wrote-volume, ap (λ (y : Contents). y.records) (contents-is t v wrote-listed)))))
            0 (omega arith)).answered cost

    wrote-rows : rows_of tree' ≡ rows (figures_of (λ s. n) t) (next (figures_of (λ s. n) t) (book_of t) (write x r 0))
    wrote-rows =
        let F = figures_of (λ s. n) t in
        let b = book_of t in
        let z = transaction b x in
        let there = volume-made t x (assigned_busy _ _ _ _ ready.assigned) in
        let lt : x < length b.transactions = omega (arith, ready.listed, (shaped t (λ s. n)).transactions_long) in
        be.rows_are ∙ ap (λ (rs : List Row). with_own rs v ((row rs v).own - u)) (rows_are t (λ s. n))
        ∙ ap (λ (w : ℕ). with_own (rows F b) w ((row (rows F b) w).own - u)) wrote-volume
        ∙ ap (λ (m : ℕ). with_own (rows F b) (volume_of z) ((row (rows F b) (volume_of z)).own - m)) u-is
        ∙ ap (λ (m : ℕ). with_own (rows F b) (volume_of z) (m - (t.worst - n))) (row-own F b (volume_of z) there)
        ∙ sym (rows_write F b x (volume_of z) (writes_of z) (frees_of z) ready.assigned lt there r
        (record-listed t x ready.assigned v wrote-volume r ready.below_end) 0 ready.some_left cheap)

    pub wrote-sound : ∥ Sound t.size t.slop t.worst tree' (set t.contents v k) (set t.transactions x c.after) ∥₁
    wrote-sound =
        let F = figures_of (λ s. n) t in
        let b' = next F (book_of t) (write x r 0) in
        still-sound t tree' (set t.contents v k) (set t.transactions x c.after) (λ cost. b')
        be.same_room (length-set t.contents v k ∙ (sound t).contents_long) (λ cost. wrote-book (λ s. n) 0 refl)
        (λ cost. wrote-rows ∙ rows-cost t.size t.slop t.worst (λ s. n) cost b')
        (λ cost.
        shaped-cost t.size t.slop t.worst (λ s. n) cost b' (shaped-wrote F (book_of t) (shaped t (λ s. n)) x r 0 n cheap wrote-done))
