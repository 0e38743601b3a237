-- A volume cut to fewer records, or given more.
use Rattle.std.proofs.Common.{◌≡◌, ℕ, zero, suc, ◌+◌, ◌-◌, ◌^◌, ◌<◌, ◌≤◌, Bool, true, false, cond, List, [], ◌∷◌, ◌++◌, length, get_or, take, drop, set, replicate, max, None, Ok, Err, sum, Result, sym, refl, ap, ◌∙◌, subst, inl, inr, add-zero, add-one, arith}
use borrow.Rule.Slice.PartMut.{mid_of, post_of, mid_len}
use Rattle.std.proofs.lemmas.List.{length-set, length-append, length-take, length-drop, length-replicate, replicate-append-replicate, get_or-set_other, get_or-take, get_or-drop, get_or-replicate, get_or_append_left, get_or-append_right, drop-set-lt, ext_get_or}
use Rattle.std.proofs.lemmas.List.Sums.{sum_by-cons, sum_by-drop_more, sum_by-take-drop}
use Rattle.std.proofs.lemmas.Bool.{cases_lt}
use Rattle.orders.specs.declared.answer.Answer.{Answer}
use Rattle.orders.specs.declared.answer.Answer.TheVariants.{Done, Refused}
use Rattle.orders.specs.Meaning.{resize}
use Rattle.rules.specs.declared.state.Contents.{Contents}
use Rattle.rules.specs.Book.{Dataset, dataset, made, records}
use Rattle.rules.specs.Answers.{refused_by_tree, records_fit, answer}
use Rattle.rules.specs.Effects.{emptied, emptied_from, resized, holding, next}
use Rattle.rules.specs.Invariant.{ShapedContents}
use Rattle.rules.proofs.Accepted.{resize_ok}
use Rattle.rules.proofs.Edits.{name-emptied_from, resize-fits as cut-fits}
use Rattle.rules.proofs.Rows.{units-emptied_from, becomes_empty, rows-resize}
use Rattle.rules.proofs.Shapes.{shaped-resize}
use Rattle.tree.specs.declared.fault.TreeFault.{TreeFault}
use Rattle.tree.specs.declared.fault.TreeFault.TheVariants.{RecordCount}
use Rattle.tree.specs.Parts.{rows_of, kinds_of}
use Rattle.tree.specs.Answers.{as_volume, if_records}
use Rattle.tally.specs.declared.Tally.{Tally}
use Rattle.tally.specs.declared.fault.LedgerFault.TheVariants.{InTree}
use Rattle.tally.specs.Faults.{refusal_of}
use Rattle.tally.specs.Joined.{contents_at, book_in}
use Rattle.tally.specs.Parts.{book_of, figures_of, Did}
use Rattle.tally.specs.Sound.{Sound}
use Rattle.tally.specs.Steps.{lifted}
use Rattle.tally.proofs.Asks.{and_then}
use Rattle.tally.proofs.Bounds.{contents-is, held-few}
use Rattle.tally.proofs.Checks.{volume_check}
use Rattle.tally.proofs.Joins.{datasets-contents}
use Rattle.tally.proofs.Sounds.{sound, made-is, rows_are, shaped, still-sound, refused_did}

-- the records below those that are emptied stay
stays-below : (k r : ℕ) (c : Contents) (i : ℕ) → i < r → get_or (emptied_from r k c).units i 0 ≡ get_or c.units i 0
unfolding emptied_from
stays-below zero r c i l = refl
stays-below (suc k) r c i l = stays-below k (suc r) (emptied c r) i (omega arith) ∙ get_or-set_other c.units r i 0 0 (λ e. omega arith)

-- what is deferred comes from the records
moved_sum : (k r : ℕ) (c : Contents) → r + k ≤ length c.units →
    (emptied_from r k c).deferred + sum (drop (r + k) c.units) ≡ c.deferred + sum (drop r c.units)
unfolding emptied_from
moved_sum zero r c l = ap (λ (n : ℕ). c.deferred + sum (drop n c.units)) (add-zero r)
moved_sum (suc k) r c l =
    let us = c.units in
    let e : r + suc k ≡ suc r + k = omega arith in
    omega (
      arith,
      moved_sum k (suc r) (emptied c r) (omega (arith, length-set us r 0)),
      ap sum (drop-set-lt (suc r + k) us r 0 (omega arith)),
      ap sum (drop-set-lt (suc r) us r 0 (omega arith)),
      ap (λ (n : ℕ). sum (drop n us)) e,
      ap (λ (n : ℕ). sum (drop n us)) (add-one r),
      sum_by-drop_more (λ (x : ℕ). x) us r 0 (omega arith),
    )

none-sum : (xs : List ℕ) → ((i : ℕ) → get_or xs i 0 ≡ 0) → sum xs ≡ 0
none-sum [] none = refl
none-sum (x ∷ xs) none = omega (arith, sum_by-cons (λ (n : ℕ). n) x xs, none 0, none-sum xs (λ i. none (suc i)))

pub past-sum : (c : Contents) (n : ℕ) → ShapedContents c → c.records ≤ n → sum (drop n c.units) ≡ 0
past-sum c n s le = none-sum (drop n c.units) (λ i. get_or-drop n c.units i 0 ∙ s.past_the_end (n + i) (omega arith))

contents_eq : {name name' us us' : List ℕ} {n d d' : ℕ} → name ≡ name' → us ≡ us' → d ≡ d' →
    ◌≡◌ {A = Contents} (record { name = name; records = n; units = us; deferred = d }) (record { name = name'; records = n; units = us'; deferred = d' })
contents_eq e f g = cc

-- a cut by slices: m is n as an index, e the slice's end, past which there are no units, and ys what the records from n up to there are then
module _ (c : Contents) (s : ShapedContents c) (n : ℕ) (few : n ≤ 64) (m : ℕ) (index : m ≡ n) (e : ℕ) (end : e ≡ max c.records n) where
  none_past : (i : ℕ) → get_or (post_of m (e - m) c.units) i 0 ≡ 0
  none_past i =
      get_or-drop (e - m) (drop m c.units) i 0 ∙ get_or-drop m c.units ((e - m) + i) 0 ∙ s.past_the_end (m + ((e - m) + i)) (omega arith)

  pub cut_units : sum (mid_of m (e - m) c.units) ≡ sum (drop n c.units)
  cut_units =
      let parts : sum (drop m c.units) ≡ sum (mid_of m (e - m) c.units) + sum (post_of m (e - m) c.units) = omega (arith, sum_by-take-drop (λ (x : ℕ). x) (drop m c.units) (e - m)) in
      omega (arith, parts, none-sum (post_of m (e - m) c.units) none_past, ap (λ (k : ℕ). sum (drop k c.units)) index)

  pub cut_few : sum (mid_of m (e - m) c.units) ≤ sum c.units
  cut_few = omega (arith, cut_units, sum_by-take-drop (λ (x : ℕ). x) c.units n)

  emptied-units : (emptied_from n (c.records - n) c).units ≡ take n c.units ++ replicate (64 - n) 0
  emptied-units =
      let k = c.records - n in
      let front : length (take n c.units) ≡ n = omega (arith, length-take n c.units, s.units_long) in
      ext_get_or 0 (emptied_from n k c).units (take n c.units ++ replicate (64 - n) 0)
      (omega (arith, units-emptied_from k n c, s.units_long, front, length-append (take n c.units) (replicate (64 - n) 0), length-replicate {A = ℕ} (64 - n) 0))
      (λ i l. elim (cases_lt i n) [
        | inl below ↦
            stays-below k n c i below
            ∙ sym (get_or_append_left (take n c.units) (replicate (64 - n) 0) 0 i (omega arith) ∙ get_or-take n c.units i 0 below)
        | inr above ↦
            becomes_empty k n c i (cut-fits c n s few) above (λ past. s.past_the_end i (omega arith))
            ∙ sym (get_or-append_right (take n c.units) (replicate (64 - n) 0) n i 0 front above
            ∙ get_or-replicate (64 - n) (i - n) 0 0 (omega (arith, units-emptied_from k n c, s.units_long)))
      ])

  emptied-deferred : (emptied_from n (c.records - n) c).deferred ≡ c.deferred + sum (drop n c.units)
  emptied-deferred =
      omega (arith, moved_sum (c.records - n) n c (cut-fits c n s few), past-sum c (n + (c.records - n)) s (omega arith))

  rest-empty : post_of m (e - m) c.units ≡ replicate (64 - e) 0
  rest-empty =
      let long : length (post_of m (e - m) c.units) ≡ 64 - e = omega (arith, length-drop (e - m) (drop m c.units), length-drop m c.units, s.units_long) in
      ext_get_or 0 (post_of m (e - m) c.units) (replicate (64 - e) 0) (long ∙ sym (length-replicate {A = ℕ} (64 - e) 0))
      (λ i l. none_past i ∙ sym (get_or-replicate (64 - e) i 0 0 (omega (arith, long))))

  cut-long : length (mid_of m (e - m) c.units) ≡ e - m
  cut-long = mid_len m e c.units (omega (arith, s.units_long, s.records_few))

  both-long : (e - m) + (64 - e) ≡ 64 - m
  both-long = omega (arith, s.records_few)

  all-empty : (ys : List ℕ) → ys ≡ replicate (length (mid_of m (e - m) c.units)) 0 → ys ++ post_of m (e - m) c.units ≡ replicate (64 - m) 0
  all-empty ys empty =
      ap (λ (zs : List ℕ). ys ++ zs) rest-empty
      ∙ ap (λ (zs : List ℕ). zs ++ replicate (64 - e) 0) (empty ∙ ap (λ (k : ℕ). replicate k 0) cut-long)
      ∙ replicate-append-replicate (e - m) (64 - e) 0 ∙ ap (λ (k : ℕ). replicate k 0) both-long

  pub cut_resized : (ys : List ℕ) (d : ℕ) → ys ≡ replicate (length (mid_of m (e - m) c.units)) 0 → d ≡ sum (mid_of m (e - m) c.units) →
      ◌≡◌ {A = Contents} (record { name = c.name; records = n; units = take m c.units ++ (ys ++ post_of m (e - m) c.units); deferred = c.deferred + d })
      (resized c n)
  cut_resized ys d empty is =
      contents_eq (sym (name-emptied_from (c.records - n) n c))
      (ap (λ (zs : List ℕ). take m c.units ++ zs) (all-empty ys empty)
      ∙ ap (λ (k : ℕ). take k c.units ++ replicate (64 - k) 0) index ∙ sym emptied-units)
      (omega (arith, emptied-deferred, is, cut_units))

records_by : (q : Bool) (n : ℕ) (a : Answer) →
    cond q a (refused_by_tree 14 n 0) ≡ and_then {X = Unit {0}} (lifted None (cond q (Ok tt) (Err (RecordCount n)))) (λ _. a)
records_by true n a = refl
records_by false n a = refl

module _ (t : Tally) (v n : ℕ) where
  resize-checked : (cost : ℕ → ℕ) →
      answer (figures_of cost t) (book_of t) (resize v n)
      ≡ and_then (lifted None (as_volume (rows_of t.tree) (kinds_of t.tree) v))
      (λ _. cond (records_fit n) (Done (sum (drop n (dataset (book_of t) v).contents.units))) (refused_by_tree 14 n 0))
  resize-checked cost =
      volume_check t.tree t.contents t.transactions None v
      (cond (records_fit n) (Done (sum (drop n (dataset (book_of t) v).contents.units))) (refused_by_tree 14 n 0))

  pub resize_no_volume : (f : TreeFault) → as_volume (rows_of t.tree) (kinds_of t.tree) v ≡ Err f → Did t t (resize v n) (Refused (refusal_of (InTree f None)))
  resize_no_volume f e =
      refused_did t t (resize v n) (InTree f None)
      (λ cost.
      resize-checked cost
      ∙ ap (λ (r : Result (Unit {0}) TreeFault). and_then (lifted None r) (λ _. cond (records_fit n) (Done (sum (drop n (dataset (book_of t) v).contents.units))) (refused_by_tree 14 n 0))) e)
      refl

  module _ (there : as_volume (rows_of t.tree) (kinds_of t.tree) v ≡ Ok tt) where
    resize-sized : (cost : ℕ → ℕ) →
        answer (figures_of cost t) (book_of t) (resize v n)
        ≡ and_then (lifted None (if_records {X = Unit {0}} n (Ok tt))) (λ _. Done (sum (drop n (dataset (book_of t) v).contents.units)))
    resize-sized cost =
        resize-checked cost
        ∙ ap (λ (r : Result (Unit {0}) TreeFault). and_then (lifted None r) (λ _. cond (records_fit n) (Done (sum (drop n (dataset (book_of t) v).contents.units))) (refused_by_tree 14 n 0))) there
        ∙ records_by (records_fit n) n (Done (sum (drop n (dataset (book_of t) v).contents.units)))

    pub resize-wrong-count : (f : TreeFault) → if_records {X = Unit {0}} n (Ok tt) ≡ Err f → Did t t (resize v n) (Refused (refusal_of (InTree f None)))
    resize-wrong-count f e =
        refused_did t t (resize v n) (InTree f None)
        (λ cost.
        resize-sized cost
        ∙ ap (λ (r : Result (Unit {0}) TreeFault). and_then (lifted None r) (λ _. Done (sum (drop n (dataset (book_of t) v).contents.units)))) e)
        refl

    module _ (fit : if_records {X = Unit {0}} n (Ok tt) ≡ Ok tt) where
      resize_accepted : (cost : ℕ → ℕ) → answer (figures_of cost t) (book_of t) (resize v n) ≡ Done (sum (drop n (dataset (book_of t) v).contents.units))
      resize_accepted cost =
          resize-sized cost
          ∙ ap (λ (r : Result (Unit {0}) TreeFault). and_then (lifted None r) (λ _. Done (sum (drop n (dataset (book_of t) v).contents.units)))) fit

      resize-made : v < made (book_of t)
      resize-made = (resize_ok (figures_of (λ s. 0) t) (book_of t) _ v n (resize_accepted (λ s. 0))).0

      resize-listed : v < length (rows_of t.tree)
      resize-listed = omega (arith, resize-made, made-is t.tree t.contents t.transactions)

      pub resize_table : v < 64
      resize_table = omega (arith, resize-made, (shaped t (λ s. 0)).few)

      pub resize-few : n ≤ 64
      resize-few = (resize_ok (figures_of (λ s. 0) t) (book_of t) _ v n (resize_accepted (λ s. 0))).3

      pub resize-shaped : ShapedContents (contents_at t.contents v)
      resize-shaped = subst ShapedContents (contents-is t v resize-listed) ((shaped t (λ s. 0)).datasets v).contents

      pub resize-fits : sum (contents_at t.contents v).units + (contents_at t.contents v).deferred < 2 ^ 16
      resize-fits = omega (arith, held-few t v resize-listed, t.sized)

      pub resize-old : (contents_at t.contents v).records ≡ records (book_of t) v
      resize-old = ap (λ (c : Contents). c.records) (sym (contents-is t v resize-listed))

      pub resize-done : (u : ℕ) → u ≡ sum (drop n (contents_at t.contents v).units) → (cost : ℕ → ℕ) → answer (figures_of cost t) (book_of t) (resize v n) ≡ Done u
      resize-done u is cost =
          resize_accepted cost ∙ ap (λ (c : Contents). Done (sum (drop n c.units))) (contents-is t v resize-listed) ∙ ap Done (sym is)

      module _ (k : Contents) (k-is : k ≡ resized (contents_at t.contents v) n) where
        pub resize-book : (cost : ℕ → ℕ) → book_in t.tree (set t.contents v k) t.transactions ≡ next (figures_of cost t) (book_of t) (resize v n)
        resize-book cost =
            ap (λ (ds : List Dataset). record { datasets = ds; transactions = t.transactions })
            (datasets-contents (rows_of t.tree) (kinds_of t.tree) t.contents v resize-listed k (omega (arith, (sound t).contents_long, resize_table))
            ∙ ap (λ (c : Contents). set (book_of t).datasets v (holding (dataset (book_of t) v) c))
            (k-is ∙ ap (λ (c : Contents). resized c n) (sym (contents-is t v resize-listed))))

        pub resize-sound : ∥ Sound t.size t.slop t.worst t.tree (set t.contents v k) t.transactions ∥₁
        resize-sound =
            still-sound t t.tree (set t.contents v k) t.transactions (λ cost. next (figures_of cost t) (book_of t) (resize v n)) refl
            (length-set t.contents v k ∙ (sound t).contents_long) resize-book
            (λ cost.
            let c = ((shaped t cost).datasets v).contents in
            rows_are t cost
            ∙ sym (rows-resize (figures_of cost t) (book_of t) v n resize-made (omega (arith, c.units_long, c.records_few)) (omega (arith, c.units_long, resize-few))))
            (λ cost. shaped-resize (figures_of cost t) (book_of t) (shaped t cost) v n _ (resize_accepted cost))
