-- A turn, dataset by dataset.
use Rattle.std.proofs.Common.{◌≡◌, ℕ, zero, suc, ◌+◌, ◌-◌, ◌<◌, ◌≤◌, Bool, true, false, cond, eqb, ltb, List, [], ◌∷◌, map, length, get_or, take, set, Some, None, Ok, Err, sum_by, count_by, Option, Result, sym, refl, ap, ◌∙◌, subst, inl, inr, add-one, arith}
use Rattle.std.proofs.lemmas.List.{length-set, length-map, get_or_past, get_or-set_same, get_or-set_other, get_or-map, set_past, take_all, ext_get_or}
use Rattle.std.proofs.lemmas.List.Sums.{sum_by-cons, sum_by_more, sum_by-take-le, get_or-le-sum_by, fails_before_first}
use Rattle.std.proofs.lemmas.List.Quantifiers.{position-Some}
use Rattle.std.proofs.lemmas.List.Recursion.{is_position_or_len}
use Rattle.std.specs.List.{position, position_or_len}
use Rattle.std.proofs.lemmas.Bool.{ltb-true, ltb-false, ne_eqb, cases_eq, cases_lt}
use Rattle.orders.specs.declared.answer.Answer.{Answer}
use Rattle.orders.specs.declared.answer.Answer.TheVariants.{Done, Refused}
use Rattle.orders.specs.Meaning.{turn}
use Rattle.charges.specs.declared.Row.{Row}
use Rattle.charges.specs.Tree.{blank, row, with_own, WithinLimits}
use Rattle.charges.proofs.Bounds.{bound_law}
use Rattle.charges.proofs.Falls.{fall_law}
use Rattle.charges.proofs.Limits.{limit-law}
use Rattle.rules.specs.declared.state.Contents.{Contents}
use Rattle.rules.specs.declared.state.Transaction.{Transaction}
use Rattle.rules.specs.declared.state.Transaction.TheVariants.{Idle}
use Rattle.rules.specs.Figures.{Figures, room}
use Rattle.rules.specs.Book.{Dataset, Book, dataset, made, deferred, all_deferred, own, rows, is_assigned}
use Rattle.rules.specs.Answers.{first_assigned, answer}
use Rattle.rules.specs.Effects.{settled, holding, with_contents, next}
use Rattle.rules.specs.Invariant.{ShapedDataset, Shaped}
use Rattle.rules.proofs.Edits.{formed, shaped-within, formed-dataset}
use Rattle.rules.proofs.Rows.{nowhere, rows-length, row-own, in_rows, rows-rooted, rows-reserved, rows-own, contents-placed, own-contents, own-elsewhere, made-set}
use Rattle.tree.specs.declared.Tree.{Tree}
use Rattle.tree.specs.declared.fault.TreeFault.{TreeFault}
use Rattle.tree.specs.declared.fault.TreeFault.TheVariants.{Missing}
use Rattle.tree.specs.Parts.{rows_of, kinds_of, Becomes}
use Rattle.tree.specs.Answers.{as_dataset}
use Rattle.tally.specs.declared.Tally.{Tally}
use Rattle.tally.specs.declared.fault.LedgerFault.{LedgerFault}
use Rattle.tally.specs.declared.fault.LedgerFault.TheVariants.{StillAssigned}
use Rattle.tally.specs.Faults.{refusal_of}
use Rattle.tally.specs.Joined.{contents_at, book_in}
use Rattle.tally.specs.Parts.{book_of, figures_of, Same, Did}
use Rattle.tally.specs.Sound.{Sound}
use Rattle.tally.specs.Turns.{turn_or, settled_dataset, settled_at, settled_to, Settled}
use Rattle.tally.proofs.Asks.{and_then, ok_not_err}
use Rattle.tally.proofs.Bounds.{contents-is}
use Rattle.tally.proofs.Grants.{own-book}
use Rattle.tally.proofs.Joins.{datasets-contents}
use Rattle.tally.proofs.Sounds.{sound, made-is, rows_are, shaped, still-sound, done_did}

-- a dataset with nothing deferred is as shaped
settled-shaped : (x : Dataset) → ShapedDataset x → ShapedDataset (settled_dataset x)
settled-shaped x s = record {
  contents = record {
    units_long = s.contents.units_long;
    past_the_end = s.contents.past_the_end;
    records_few = s.contents.records_few;
  };
  folder_records = s.folder_records;
  folder_deferred = λ e. refl;
  small_quota = s.small_quota;
  small_reservation = s.small_reservation;
  in_quota = s.in_quota;
}

module _ (F : Figures) (b : Book) (d : ℕ) (l : d < made b) where
  settled-rows : rows F (settled_at d b) ≡ with_own (rows F b) d (own F b d - deferred b d)
  settled-rows =
      let c = settled (dataset b d).contents in
      rows-own F b (with_contents b d c) (made-set b d l (holding (dataset b d) c)) (λ e le. contents-placed F b d l c e)
      d (own F b d - deferred b d) l (λ e le ne. own-elsewhere F b d l c e ne) (omega (arith, own-contents F b d l c))

  settled-keeps : Shaped F b → Shaped F (settled_at d b)
  settled-keeps s =
      shaped-within F (settled_at d b)
      (formed-dataset b d (settled_dataset (dataset b d)) l (formed F b s) refl refl refl
      (λ e. (ap (λ (i : ℕ). (dataset b i).quota) e ∙ s.root_quota, ap (λ (i : ℕ). (dataset b i).reservation) e ∙ s.root_reservation))
      (settled-shaped (dataset b d) (s.datasets d)))
      (subst (λ (rs : List Row). WithinLimits (room F) rs) (sym settled-rows)
      (fall_law.by_own (room F) (rows F b) d (own F b d - deferred b d) (rows-rooted F b s) s.within (in_rows F b d l) (omega (arith, row-own F b d l))))

-- sums by which every entry is at most the other
sums_le : {X Y : Type 0} (f : X → ℕ) (g : Y → ℕ) (a : X) (c : Y) (xs : List X) (ys : List Y) → length xs ≡ length ys →
    ((i : ℕ) → i < length xs → f (get_or xs i a) ≤ g (get_or ys i c)) → sum_by f xs ≤ sum_by g ys
sums_le f g a c [] [] e le = omega arith
sums_le f g a c [] (y ∷ ys) e le = absurd (omega arith)
sums_le f g a c (x ∷ xs) [] e le = absurd (omega arith)
sums_le f g a c (x ∷ xs) (y ∷ ys) e le =
    omega (
      arith,
      sum_by-cons f x xs,
      sum_by-cons g y ys,
      le 0 (omega arith),
      sums_le f g a c xs ys (omega arith) (λ i l. le (suc i) (omega arith)),
    )

-- all deferred units are few
all_few : (t : Tally) → all_deferred (book_of t) ≤ t.size
all_few t =
    let F = figures_of (λ s. 0) t in
    let b = book_of t in
    let s = shaped t (λ s. 0) in
    let rs = rows F b in
    let there : 0 < length rs = in_rows F b 0 (omega (arith, s.some)) in
    omega (
      arith,
      sums_le (λ (x : Dataset). x.contents.deferred) (λ (r : Row). r.own) nowhere blank b.datasets rs (sym (rows-length F b))
          (λ i l. omega (arith, row-own F b i l)),
      (bound_law rs (rows-rooted F b s) (rows-reserved F b s).root_none).own_units,
      (limit-law (room F) rs).root.0 (s.within 0 there),
    )

-- one dataset
module _ (t : Tally) (d : ℕ) (l : d < length (rows_of t.tree)) where
  settle-made : d < made (book_of t)
  settle-made = omega (arith, made-is t.tree t.contents t.transactions)

  module _ (u : ℕ) (u-is : u ≡ (contents_at t.contents d).deferred) (tree' : Tree)
      (be : Becomes t.tree tree' (with_own (rows_of t.tree) d ((row (rows_of t.tree) d).own - u)) (kinds_of t.tree))
      (k : Contents) (k-is : k ≡ settled (contents_at t.contents d)) where
    pub settle-book : book_in tree' (set t.contents d k) t.transactions ≡ settled_at d (book_of t)
    settle-book =
        own-book t.tree tree' d ((row (rows_of t.tree) d).own - u) l be (set t.contents d k) t.transactions
        ∙ ap (λ (ds : List Dataset). record { datasets = ds; transactions = t.transactions })
        (datasets-contents (rows_of t.tree) (kinds_of t.tree) t.contents d l k
        (omega (arith, (sound t).contents_long, (shaped t (λ s. 0)).few, settle-made))
        ∙ ap (λ (c : Contents). set (book_of t).datasets d (holding (dataset (book_of t) d) c))
        (k-is ∙ ap settled (sym (contents-is t d l))))

    settle-rows : (cost : ℕ → ℕ) → rows_of tree' ≡ rows (figures_of cost t) (settled_at d (book_of t))
    settle-rows cost =
        let F = figures_of cost t in
        let b = book_of t in
        let v : u ≡ deferred b d = u-is ∙ ap (λ (x : Contents). x.deferred) (sym (contents-is t d l)) in
        be.rows_are ∙ ap (λ (rs : List Row). with_own rs d ((row rs d).own - u)) (rows_are t cost)
        ∙ ap (λ (n : ℕ). with_own (rows F b) d ((row (rows F b) d).own - n)) v
        ∙ ap (λ (n : ℕ). with_own (rows F b) d (n - deferred b d)) (row-own F b d settle-made)
        ∙ sym (settled-rows F b d settle-made)

    pub settle-sound : ∥ Sound t.size t.slop t.worst tree' (set t.contents d k) t.transactions ∥₁
    settle-sound =
        still-sound t tree' (set t.contents d k) t.transactions (λ cost. settled_at d (book_of t)) be.same_room
        (length-set t.contents d k ∙ (sound t).contents_long) (λ cost. settle-book) settle-rows
        (λ cost. settled-keeps (figures_of cost t) (book_of t) d settle-made (shaped t cost))

    pub settle-units : u ≡ deferred (book_of t) d
    settle-units = u-is ∙ ap (λ (x : Contents). x.deferred) (sym (contents-is t d l))

-- no such dataset
module _ (b : Book) (d : ℕ) (past : made b ≤ d) where
  pub none-deferred : deferred b d ≡ 0
  none-deferred = ap (λ (x : Dataset). x.contents.deferred) (get_or_past b.datasets d nowhere past)

  pub none-settled : settled_at d b ≡ b
  none-settled = ap (λ (ds : List Dataset). record { datasets = ds; transactions = b.transactions }) (set_past b.datasets d (settled_dataset (dataset b d)) past)

missing_by : (q : Bool) (d : ℕ) (f : TreeFault) → ◌≡◌ {A = Result (Unit {0}) TreeFault} (cond q (Ok tt) (Err (Missing d))) (Err f) → q ≡ false
missing_by true d f e = ok_not_err {X = Unit {0}} tt f e
missing_by false d f e = refl

pub missing_past : (t : Tally) (d : ℕ) (f : TreeFault) → as_dataset (rows_of t.tree) d ≡ Err f → made (book_of t) ≤ d
missing_past t d f e =
    omega (arith, ltb-false d (length (rows_of t.tree)) (missing_by (ltb d (length (rows_of t.tree))) d f e), made-is t.tree t.contents t.transactions)

there_by : (q : Bool) (d : ℕ) → ◌≡◌ {A = Result (Unit {0}) TreeFault} (cond q (Ok tt) (Err (Missing d))) (Ok tt) → q ≡ true
there_by true d e = refl
there_by false d e = ok_not_err {X = Unit {0}} tt (Missing d) (sym e)

pub there-listed : (t : Tally) (d : ℕ) → as_dataset (rows_of t.tree) d ≡ Ok tt → d < length (rows_of t.tree)
there-listed t d e = ltb-true d (length (rows_of t.tree)) (there_by (ltb d (length (rows_of t.tree))) d e)

-- the first n datasets
module _ (b : Book) where
  to_made : (n : ℕ) → made (settled_to n b) ≡ made b
  unfolding settled_to
  to_made zero = refl
  to_made (suc n) = length-set (settled_to n b).datasets n (settled_dataset (dataset (settled_to n b) n)) ∙ to_made n

  to_transactions : (n : ℕ) → (settled_to n b).transactions ≡ b.transactions
  unfolding settled_to
  to_transactions zero = refl
  to_transactions (suc n) = to_transactions n

  pub to_above : (n d : ℕ) → n ≤ d → dataset (settled_to n b) d ≡ dataset b d
  unfolding settled_to
  to_above zero d l = refl
  to_above (suc n) d l =
      get_or-set_other (settled_to n b).datasets n d (settled_dataset (dataset (settled_to n b) n)) nowhere (λ e. omega arith) ∙ to_above n d (omega arith)

  to_below : (n d : ℕ) → d < n → d < made b → dataset (settled_to n b) d ≡ settled_dataset (dataset b d)
  unfolding settled_to
  to_below zero d l lm = absurd (omega arith)
  to_below (suc n) d l lm = elim (cases_eq d n) [
    | inl e ↦
        let lt : n < length (settled_to n b).datasets = omega (arith, to_made n) in
        ap (λ (i : ℕ). get_or (set (settled_to n b).datasets n (settled_dataset (dataset (settled_to n b) n))) i nowhere) e
        ∙ get_or-set_same (settled_to n b).datasets n (settled_dataset (dataset (settled_to n b) n)) nowhere lt
        ∙ ap settled_dataset (to_above n n (omega arith) ∙ ap (dataset b) (sym e))
    | inr ne ↦
        get_or-set_other (settled_to n b).datasets n d (settled_dataset (dataset (settled_to n b) n)) nowhere ne ∙ to_below n d (omega arith) lm
  ]

  pub to_all : (F : Figures) (n : ℕ) → made b ≤ n → settled_to n b ≡ next F b turn
  to_all F n le =
      let f = λ (x : Dataset). settled_dataset x in
      let ds : (settled_to n b).datasets ≡ map f b.datasets =
      ext_get_or nowhere (settled_to n b).datasets (map f b.datasets) (to_made n ∙ sym (length-map b.datasets f))
      (λ d l.
      let lm : d < made b = omega (arith, to_made n) in
      to_below n d (omega arith) lm ∙ sym (get_or-map f b.datasets d nowhere nowhere lm)) in
      ap (λ (xs : List Dataset). record { datasets = xs; transactions = (settled_to n b).transactions }) ds
      ∙ ap (λ (ts : List Transaction). record { datasets = map f b.datasets; transactions = ts }) (to_transactions n)

abbrev pub deferred_of : Dataset → ℕ
deferred_of x = x.contents.deferred

-- after n datasets of a turn
pub record Turning (t t' : Tally) (n given : ℕ) : Type 0 where
  pub same : Same t t'
  pub booked : book_of t' ≡ settled_to n (book_of t)
  pub sum_is : given ≡ sum_by deferred_of (take n (book_of t).datasets)

pub turning_starts : (t : Tally) → Turning t t 0 0
unfolding settled_to
turning_starts t = record { same = record { size = refl; slop = refl; worst = refl }; booked = refl; sum_is = refl }

module _ (t t' : Tally) (n given : ℕ) (so_far : Turning t t' n given) (t'' : Tally) (u : ℕ) (step : Settled t' t'' n u) where
  step-units : u ≡ deferred (book_of t) n
  step-units =
      step.units_are ∙ ap (λ (b : Book). deferred b n) so_far.booked ∙ ap deferred_of (to_above (book_of t) n n (omega arith))

  step_sum : given + u ≡ sum_by deferred_of (take (n + 1) (book_of t).datasets)
  step_sum = elim (cases_lt n (made (book_of t))) [
    | inl l ↦ omega (arith, so_far.sum_is, step-units, sum_by_more deferred_of (book_of t).datasets n nowhere l)
    | inr past ↦
        omega (
          arith,
          so_far.sum_is,
          step-units,
          none-deferred (book_of t) n past,
          ap (sum_by deferred_of) (take_all n (book_of t).datasets past),
          ap (sum_by deferred_of) (take_all (n + 1) (book_of t).datasets (omega arith)),
        )
  ]

  pub turning_on : Turning t t'' (n + 1) (given + u)
  unfolding settled_to
  turning_on = record {
    same = record {
      size = step.same.size ∙ so_far.same.size;
      slop = step.same.slop ∙ so_far.same.slop;
      worst = step.same.worst ∙ so_far.same.worst;
    };
    booked = rw (add-one n) (step.booked ∙ ap (settled_at n) so_far.booked);
    sum_is = step_sum;
  }

  pub turning-fits : given + u ≤ t.size
  turning-fits = omega (arith, step_sum, sum_by-take-le deferred_of (book_of t).datasets (n + 1), all_few t)

-- the first assigned is where a search ends
later_by : (q : Bool) (n k m : ℕ) → k ≡ suc m → cond q (suc n) k ≡ suc (cond q n m)
later_by true n k m e = refl
later_by false n k m e = e

first-later : (n : ℕ) (ts : List Transaction) → first_assigned (suc n) ts ≡ suc (first_assigned n ts)
first-later n [] = refl
first-later n (x ∷ xs) = later_by (is_assigned x) n (first_assigned (suc (suc n)) xs) (first_assigned (suc n) xs) (first-later (suc n) xs)

first-is : (ts : List Transaction) → first_assigned 0 ts ≡ position_or_len is_assigned ts
first-is ts =
    is_position_or_len (first_assigned 0) is_assigned refl
    (λ x xs. ap (cond (is_assigned x) 0) (let e : first_assigned 1 xs ≡ 1 + first_assigned 0 xs = omega (arith, first-later 0 xs) in e)) ts

none-count : (ts : List Transaction) → ((k : ℕ) → k < length ts → is_assigned (get_or ts k Idle) ≡ false) → count_by is_assigned ts ≡ 0
none-count [] none = refl
none-count (x ∷ xs) none =
    omega (
      arith,
      sum_by-cons (λ (y : Transaction). cond (is_assigned y) 1 0) x xs,
      ap {B = ℕ} (λ (q : Bool). cond q 1 0) (none 0 (omega arith)),
      none-count xs (λ k l. none (suc k) (omega arith)),
    )

none_by : (q : Bool) (i : ℕ) → ◌≡◌ {A = Option ℕ} (cond q (Some i) None) None → q ≡ false
none_by true i e = absurd cc
none_by false i e = refl

some_by : (q : Bool) (i j : ℕ) → ◌≡◌ {A = Option ℕ} (cond q (Some i) None) (Some j) → i ≡ j
some_by true i j e = cc
some_by false i j e = absurd cc

module _ (ts : List Transaction) where
  pub none_waits : position is_assigned ts ≡ None → turn_or ts ≡ Ok tt
  none_waits none =
      let n = position_or_len is_assigned ts in
      let past : length ts ≤ n = ltb-false n (length ts) (none_by (ltb n (length ts)) n none) in
      let zero_is : count_by is_assigned ts ≡ 0 = none-count ts (λ k l. fails_before_first is_assigned ts k Idle (omega arith)) in
      ap (λ (k : ℕ). cond (eqb k 0) (Ok tt) (Err (StillAssigned (first_assigned 0 ts) k))) zero_is

  pub first_waits : (i : ℕ) → position is_assigned ts ≡ Some i → turn_or ts ≡ Err (StillAssigned i (count_by is_assigned ts))
  first_waits i found =
      let at = position-Some is_assigned ts i Idle found in
      let some : eqb (count_by is_assigned ts) 0 ≡ false =
      ne_eqb (count_by is_assigned ts) 0 (λ e. omega (arith, get_or-le-sum_by {X = Transaction} (λ y. cond (is_assigned y) 1 0) ts i Idle at.0, ap {B = ℕ} (λ (q : Bool). cond q 1 0) at.1)) in
      let first : first_assigned 0 ts ≡ i = first-is ts ∙ some_by (ltb (position_or_len is_assigned ts) (length ts)) (position_or_len is_assigned ts) i found in
      ap (λ (q : Bool). cond q (Ok tt) (Err (StillAssigned (first_assigned 0 ts) (count_by is_assigned ts)))) some
      ∙ ap (λ (k : ℕ). Err (StillAssigned k (count_by is_assigned ts))) first

counted_by : (q : Bool) (f : LedgerFault) (a : Answer) → cond q a (Refused (refusal_of f)) ≡ and_then {X = Unit {0}} (cond q (Ok tt) (Err f)) (λ _. a)
counted_by true f a = refl
counted_by false f a = refl

module _ (t : Tally) where
  turn-checked : (cost : ℕ → ℕ) → answer (figures_of cost t) (book_of t) turn ≡ and_then (turn_or t.transactions) (λ _. Done (all_deferred (book_of t)))
  turn-checked cost =
      counted_by (eqb (count_by is_assigned t.transactions) 0)
      (StillAssigned (first_assigned 0 t.transactions) (count_by is_assigned t.transactions)) (Done (all_deferred (book_of t)))

  pub turn_did : (t' : Tally) (n given : ℕ) → turn_or t.transactions ≡ Ok tt → Turning t t' n given → 64 ≤ n → Did t t' turn (Done given)
  turn_did t' n given e all le =
      let b = book_of t in
      let most : made b ≤ n = omega (arith, (shaped t (λ s. 0)).few) in
      done_did t t' turn given
      (λ cost.
      turn-checked cost ∙ ap (λ (r : Result (Unit {0}) LedgerFault). and_then r (λ _. Done (all_deferred b))) e
      ∙ ap Done (sym (all.sum_is ∙ ap (sum_by deferred_of) (take_all n b.datasets most))))
      (λ cost. all.booked ∙ to_all b (figures_of cost t) n most) all.same
