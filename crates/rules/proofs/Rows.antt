-- The rows of a book, and how they follow an order.
use Rattle.std.proofs.Common.{◌≡◌, ℕ, zero, suc, ◌+◌, ◌-◌, ◌*◌, ◌<◌, ◌≤◌, eqb, ◌≢◌, List, [], ◌∷◌, ◌++◌, length, get_or, set, sum_by, sum, sym, refl, ap, ◌∙◌, inl, inr, add-mul, one-mul, arith}
use Rattle.std.proofs.lemmas.List.FromFn.{length-map-range_with_len, get_or-map-range_with_len, fill_by_all}
use Rattle.std.proofs.lemmas.List.{length-set, length_push, length-map, get_or_past, get_or-set_same, get_or-set_other, get_or_append_left, get_or_push}
use Rattle.std.proofs.lemmas.List.Sums.{sum_by-cons, sum_by-set}
use Rattle.std.proofs.lemmas.Bool.{cases_eq, cases_lt, eq-eqb, ne_eqb, cond-true, cond-false}
use Rattle.orders.specs.Meaning.{folder, volume, quota, reserve, resize, write, free, turn}
use Rattle.charges.specs.declared.Row.{Row}
use Rattle.charges.specs.Tree.{blank, row, Rooted, Reserved, raised, with_own, with_quota as with_quota_in, with_reservation as with_reservation_in}
use Rattle.rules.specs.declared.state.Kind.TheVariants.{Folder, Volume}
use Rattle.rules.specs.declared.state.Contents.{Contents}
use Rattle.rules.specs.declared.state.Transaction.{Transaction}
use Rattle.rules.specs.declared.state.Transaction.TheVariants.{Idle, Created, Held, Assigned}
use Rattle.rules.specs.Figures.{Figures}
use Rattle.rules.specs.Book.{Dataset, Book, empty, new, dataset, transaction, made, volume_of, writes_of, frees_of, estimate, grant_on, unspent_grants, own, deferred, row_at, rows}
use Rattle.rules.specs.Effects.{with_units, emptied, emptied_from, resized, settled, holding, with_quota, with_reservation, with_new, with_dataset, with_contents, with_transaction, next}
use Rattle.rules.specs.Invariant.{Shaped, ShapedTransaction}
use Rattle.std.proofs.Math.ListN.{get_or-map}
use Rattle.std.proofs.lemmas.List.Folds.{sum_by-replicate}

pub rows-length : (F : Figures) (b : Book) → length (rows F b) ≡ made b
unfolding rows
rows-length F b = length-map-range_with_len (row_at F b) 0 (made b)

pub rows_at : (F : Figures) (b : Book) (d : ℕ) → d < made b → row (rows F b) d ≡ row_at F b d
unfolding rows
rows_at F b d l = get_or-map-range_with_len (row_at F b) 0 (made b) d d blank l (omega arith)

pub rows-past : (F : Figures) (b : Book) (d : ℕ) → made b ≤ d → row (rows F b) d ≡ blank
rows-past F b d l = get_or_past (rows F b) d blank (omega (arith, rows-length F b))

pub rows_is : (F : Figures) (b : Book) (rs : List Row) → length rs ≡ made b → ((d : ℕ) → d < made b → row rs d ≡ row_at F b d) → rows F b ≡ rs
unfolding rows
rows_is F b rs long at = sym (fill_by_all (row_at F b) rs (made b) blank long at)

module _ (F : Figures) (b : Book) (d : ℕ) (l : d < made b) where
  pub row-parent : (row (rows F b) d).parent ≡ (dataset b d).parent
  row-parent = ap (λ (r : Row). r.parent) (rows_at F b d l)

  pub row-quota : (row (rows F b) d).quota ≡ (dataset b d).quota
  row-quota = ap (λ (r : Row). r.quota) (rows_at F b d l)

  pub row-reservation : (row (rows F b) d).reservation ≡ (dataset b d).reservation
  row-reservation = ap (λ (r : Row). r.reservation) (rows_at F b d l)

  pub row-own : (row (rows F b) d).own ≡ own F b d
  row-own = ap (λ (r : Row). r.own) (rows_at F b d l)

pub in_rows : (F : Figures) (b : Book) (d : ℕ) → d < made b → d < length (rows F b)
in_rows F b d l = omega (arith, rows-length F b)

pub rows-rooted : (F : Figures) (b : Book) → Shaped F b → Rooted (rows F b)
rows-rooted F b shaped k gt l =
    let lt : k < made b = omega (arith, rows-length F b) in
    omega (arith, row-parent F b k lt, shaped.parents k gt lt)

pub rows-reserved : (F : Figures) (b : Book) → Shaped F b → Reserved (rows F b)
rows-reserved F b shaped = record {
  root_none = row-reservation F b 0 (omega (arith, shaped.some)) ∙ shaped.root_reservation;
  in_quota = λ d l some.
      let lt : d < made b = omega (arith, rows-length F b) in
      omega (arith, row-quota F b d lt, row-reservation F b d lt, (shaped.datasets d).in_quota (λ none. some (row-quota F b d lt ∙ none)));
}

row_eq : {p p' q q' r r' o o' : ℕ} → p ≡ p' → q ≡ q' → r ≡ r' → o ≡ o' →
    ◌≡◌ {A = Row} (record { parent = p; quota = q; reservation = r; own = o }) (record { parent = p'; quota = q'; reservation = r'; own = o' })
row_eq e f g h = cc

-- rows of which one is set anew
pub rows-set : (F : Figures) (b b' : Book) (v : ℕ) (r : Row) → made b' ≡ made b → v < made b →
    ((d : ℕ) → d < made b → d ≢ v → row_at F b' d ≡ row_at F b d) → row_at F b' v ≡ r → rows F b' ≡ set (rows F b) v r
rows-set F b b' v r e l elsewhere here =
    rows_is F b' (set (rows F b) v r) (length-set (rows F b) v r ∙ rows-length F b ∙ sym e)
    (λ d ld.
    let lt : d < made b = omega arith in
    elim (cases_eq d v) [
      | inl same ↦
          ap (λ (k : ℕ). row (set (rows F b) v r) k) same ∙ get_or-set_same (rows F b) v r blank (in_rows F b v l) ∙ sym here ∙ ap (row_at F b') (sym same)
      | inr ne ↦ get_or-set_other (rows F b) v d r blank ne ∙ rows_at F b d lt ∙ sym (elsewhere d lt ne)
    ])

pub rows_same : (F : Figures) (b b' : Book) → made b' ≡ made b → ((d : ℕ) → d < made b → row_at F b' d ≡ row_at F b d) → rows F b' ≡ rows F b
rows_same F b b' e same =
    rows_is F b' (rows F b) (rows-length F b ∙ sym e) (λ d l. let lt : d < made b = omega arith in rows_at F b d lt ∙ sym (same d lt))

-- the same place in the tree, with the same quota and reservation
pub record Placed (x y : Dataset) : Type 0 where
  pub parent : y.parent ≡ x.parent
  pub quota : y.quota ≡ x.quota
  pub reservation : y.reservation ≡ x.reservation

abbrev pub Places : Book → Book → Type 0
Places b b' = (d : ℕ) → d < made b → Placed (dataset b d) (dataset b' d)

module _ (F : Figures) (b b' : Book) (e : made b' ≡ made b) (places : Places b b') where
  row_kept : (d : ℕ) → d < made b → own F b' d ≡ own F b d → row_at F b' d ≡ row_at F b d
  row_kept d l same = row_eq (places d l).parent (places d l).quota (places d l).reservation same

  -- only the own units of v change
  pub rows-own : (v x : ℕ) → v < made b → ((d : ℕ) → d < made b → d ≢ v → own F b' d ≡ own F b d) → own F b' v ≡ x → rows F b' ≡ with_own (rows F b) v x
  rows-own v x l elsewhere here =
      rows-set F b b' v _ e l (λ d ld ne. row_kept d ld (elsewhere d ld ne))
      (row_eq ((places v l).parent ∙ sym (row-parent F b v l)) ((places v l).quota ∙ sym (row-quota F b v l))
      ((places v l).reservation ∙ sym (row-reservation F b v l)) here)

  -- no own units change
  pub rows-kept : ((d : ℕ) → d < made b → own F b' d ≡ own F b d) → rows F b' ≡ rows F b
  rows-kept same = rows_same F b b' e (λ d l. row_kept d l (same d l))

-- the unspent grant of an assigned transaction counts for its volume alone
pub grant_own : (F : Figures) (v w f : ℕ) → grant_on F v (Assigned v w f) ≡ estimate F w
grant_own F v w f = cond-true (eqb v v) (estimate F w) 0 (eq-eqb v v refl)

pub grant_other : (F : Figures) (v d w f : ℕ) → d ≢ v → grant_on F d (Assigned v w f) ≡ 0
grant_other F v d w f ne = cond-false (eqb v d) (estimate F w) 0 (ne_eqb v d (λ e. ne (sym e)))

-- a write fewer
pub estimate_less : (F : Figures) (w : ℕ) → 0 < w → estimate F w ≡ estimate F (w - 1) + F.worst
estimate_less F w h =
    let e : w ≡ (w - 1) + 1 = omega arith in
    ap (λ (x : ℕ). x * F.worst) e ∙ add-mul (w - 1) 1 F.worst ∙ ap (λ (x : ℕ). (w - 1) * F.worst + x) (one-mul F.worst)

module _ (F : Figures) (b : Book) (t : ℕ) (lt : t < length b.transactions) where
  -- own units with a transaction set anew
  pub own-transaction : (y : Transaction) (d : ℕ) → own F (with_transaction b t y) d + grant_on F d (transaction b t) ≡ own F b d + grant_on F d y
  own-transaction y d = omega (arith, sum_by-set (grant_on F d) b.transactions t y Idle lt)

  -- no grant before and none after
  pub rows_idle : (y : Transaction) → ((d : ℕ) → grant_on F d (transaction b t) ≡ 0) → ((d : ℕ) → grant_on F d y ≡ 0) → rows F (with_transaction b t y) ≡ rows F b
  rows_idle y before after =
      rows-kept F b (with_transaction b t y) refl (λ d l. record { parent = refl; quota = refl; reservation = refl })
      (λ d l. omega (arith, own-transaction y d, before d, after d))

  module _ (v w f : ℕ) (lv : v < made b) where
    pub rows-assign : transaction b t ≡ Held v w f → rows F (with_transaction b t (Assigned v w f)) ≡ raised (rows F b) v (estimate F w)
    rows-assign was =
        let none : (d : ℕ) → grant_on F d (transaction b t) ≡ 0 = λ d. ap (grant_on F d) was in
        rows-own F b (with_transaction b t (Assigned v w f)) refl (λ d l. record { parent = refl; quota = refl; reservation = refl })
        v ((row (rows F b) v).own + estimate F w) lv
        (λ d l ne. omega (arith, own-transaction (Assigned v w f) d, none d, grant_other F v d w f ne))
        (omega (arith, own-transaction (Assigned v w f) v, none v, grant_own F v w f, row-own F b v lv))

    pub rows-commit : transaction b t ≡ Assigned v w f → rows F (with_transaction b t Idle) ≡ with_own (rows F b) v (own F b v - estimate F w)
    rows-commit was =
        rows-own F b (with_transaction b t Idle) refl (λ d l. record { parent = refl; quota = refl; reservation = refl })
        v (own F b v - estimate F w) lv
        (λ d l ne. omega (arith, own-transaction Idle d, ap (grant_on F d) was, grant_other F v d w f ne))
        (omega (arith, own-transaction Idle v, ap (grant_on F v) was, grant_own F v w f))

-- where there is no dataset
abbrev pub nowhere : Dataset
nowhere = new 0 Folder (empty [] 0)

-- what a dataset's contents weigh: the units of the records and the deferred ones
abbrev pub held_by : Contents → ℕ
held_by c = sum c.units + c.deferred

pub held-empty : (name : List ℕ) (n : ℕ) → held_by (empty name n) ≡ 0
held-empty name n = ap (λ (x : ℕ). x + 0) (sum_by-replicate (λ (x : ℕ). x) 64 0)

pub held-emptied : (c : Contents) (r : ℕ) → r < length c.units → held_by (emptied c r) ≡ held_by c
held-emptied c r l = omega (arith, sum_by-set (λ (n : ℕ). n) c.units r 0 0 l)

pub held-written : (c : Contents) (r n : ℕ) → r < length c.units → held_by (with_units (emptied c r) r n) ≡ held_by c + n
held-written c r n l =
    omega (
      arith,
      held-emptied c r l,
      sum_by-set (λ (n : ℕ). n) (set c.units r 0) r n 0 (omega (arith, length-set c.units r 0)),
      get_or-set_same c.units r 0 0 l,
    )

pub units-emptied_from : (n r : ℕ) (c : Contents) → length (emptied_from r n c).units ≡ length c.units
unfolding emptied_from
units-emptied_from zero r c = refl
units-emptied_from (suc n) r c = units-emptied_from n (suc r) (emptied c r) ∙ length-set c.units r 0

-- Records that are emptied one after the other: an empty one stays empty, and each becomes so.

stays-empty : (n r : ℕ) (c : Contents) (s : ℕ) → r + n ≤ length c.units → get_or c.units s 0 ≡ 0 → get_or (emptied_from r n c).units s 0 ≡ 0
unfolding emptied_from
stays-empty zero r c s l none = none
stays-empty (suc n) r c s l none =
    stays-empty n (suc r) (emptied c r) s (omega (arith, length-set c.units r 0)) (
    elim (cases_eq s r) [
      | inl e ↦ rw e (get_or-set_same c.units r 0 0 (omega arith))
      | inr ne ↦ get_or-set_other c.units r s 0 0 ne ∙ none
    ]
    )

pub becomes_empty : (n r : ℕ) (c : Contents) (s : ℕ) → r + n ≤ length c.units → r ≤ s → (r + n ≤ s → get_or c.units s 0 ≡ 0) →
    get_or (emptied_from r n c).units s 0 ≡ 0
unfolding emptied_from
becomes_empty zero r c s l ge past = past (omega arith)
becomes_empty (suc n) r c s l ge past =
    elim (cases_eq s r) [
      | inl e ↦
          stays-empty n (suc r) (emptied c r) s (omega (arith, length-set c.units r 0)) (rw e (get_or-set_same c.units r 0 0 (omega arith)))
      | inr ne ↦
          becomes_empty n (suc r) (emptied c r) s (omega (arith, length-set c.units r 0)) (omega arith)
          (λ h. get_or-set_other c.units r s 0 0 ne ∙ past (omega arith))
    ]

pub held-emptied_from : (n r : ℕ) (c : Contents) → r + n ≤ length c.units → held_by (emptied_from r n c) ≡ held_by c
unfolding emptied_from
held-emptied_from zero r c l = refl
held-emptied_from (suc n) r c l =
    held-emptied_from n (suc r) (emptied c r) (omega (arith, length-set c.units r 0)) ∙ held-emptied c r (omega arith)

module _ (b : Book) (v : ℕ) (lv : v < made b) (x : Dataset) where
  pub dataset-same : dataset (with_dataset b v x) v ≡ x
  dataset-same = get_or-set_same b.datasets v x nowhere lv

  pub dataset_other : (d : ℕ) → d ≢ v → dataset (with_dataset b v x) d ≡ dataset b d
  dataset_other d ne = get_or-set_other b.datasets v d x nowhere ne

  pub made-set : made (with_dataset b v x) ≡ made b
  made-set = length-set b.datasets v x

module _ (F : Figures) (b : Book) (v : ℕ) (lv : v < made b) (c : Contents) where
  pub own-contents : own F (with_contents b v c) v + held_by (dataset b v).contents ≡ own F b v + held_by c
  own-contents =
      let e = ap (λ (x : Dataset). held_by x.contents) (dataset-same b v lv (holding (dataset b v) c)) in
      omega arith

  pub own-elsewhere : (d : ℕ) → d ≢ v → own F (with_contents b v c) d ≡ own F b d
  own-elsewhere d ne =
      let e = ap (λ (x : Dataset). held_by x.contents) (dataset_other b v lv (holding (dataset b v) c) d ne) in
      omega arith

  pub contents-placed : (d : ℕ) → Placed (dataset b d) (dataset (with_contents b v c) d)
  contents-placed d = elim (cases_eq d v) [
    | inl e ↦
        let s : dataset (with_contents b v c) d ≡ holding (dataset b d) c =
        ap (dataset (with_contents b v c)) e ∙ dataset-same b v lv (holding (dataset b v) c) ∙ ap (λ (k : ℕ). holding (dataset b k) c) (sym e) in
        record {
          parent = ap (λ (x : Dataset). x.parent) s;
          quota = ap (λ (x : Dataset). x.quota) s;
          reservation = ap (λ (x : Dataset). x.reservation) s;
        }
    | inr ne ↦
        let s = dataset_other b v lv (holding (dataset b v) c) d ne in
        record {
          parent = ap (λ (x : Dataset). x.parent) s;
          quota = ap (λ (x : Dataset). x.quota) s;
          reservation = ap (λ (x : Dataset). x.reservation) s;
        }
  ]

  -- contents that hold as much leave the rows
  pub rows-contents : held_by c ≡ held_by (dataset b v).contents → rows F (with_contents b v c) ≡ rows F b
  rows-contents same =
      rows-kept F b (with_contents b v c) (made-set b v lv (holding (dataset b v) c)) (λ d l. contents-placed d)
      (λ d l. elim (cases_eq d v) [
        | inl e ↦ rw e (omega (arith, own-contents))
        | inr ne ↦ own-elsewhere d ne
      ])

-- what the orders on records do, with the transaction's volume and counts named
module _ (F : Figures) (b : Book) (t v w f : ℕ) (is : transaction b t ≡ Assigned v w f) where
  pub next-write : (r s : ℕ) →
      next F b (write t r s)
      ≡ with_transaction (with_contents b v (with_units (emptied (dataset b v).contents r) r (F.cost s))) t (Assigned v (w - 1) f)
  next-write r s =
      ap (λ (x : Transaction).
      with_transaction (with_contents b (volume_of x) (with_units (emptied (dataset b (volume_of x)).contents r) r (F.cost s)))
      t (Assigned (volume_of x) (writes_of x - 1) (frees_of x)))
      is

  pub next-free : (r : ℕ) → next F b (free t r) ≡ with_transaction (with_contents b v (emptied (dataset b v).contents r)) t (Assigned v w (f - 1))
  next-free r =
      ap (λ (x : Transaction).
      with_transaction (with_contents b (volume_of x) (emptied (dataset b (volume_of x)).contents r)) t (Assigned (volume_of x) (writes_of x) (frees_of x - 1)))
      is

  module _ (lt : t < length b.transactions) (lv : v < made b) (r : ℕ) (lr : r < length (dataset b v).contents.units) where
    pub rows_write : (s : ℕ) → 0 < w → F.cost s ≤ F.worst → rows F (next F b (write t r s)) ≡ with_own (rows F b) v (own F b v - (F.worst - F.cost s))
    rows_write s some le =
        let c = with_units (emptied (dataset b v).contents r) r (F.cost s) in
        let b' = with_contents b v c in
        let y = Assigned v (w - 1) f in
        let e : made (with_transaction b' t y) ≡ made b = made-set b v lv (holding (dataset b v) c) in
        ap (rows F) (next-write r s)
        ∙ rows-own F b (with_transaction b' t y) e (λ d l. contents-placed F b v lv c d) v (own F b v - (F.worst - F.cost s)) lv
        (λ d l ne.
        omega (
          arith,
          own-transaction F b' t lt y d,
          own-elsewhere F b v lv c d ne,
          ap (grant_on F d) is,
          grant_other F v d w f ne,
          grant_other F v d (w - 1) f ne,
        ))
        (omega (
          arith,
          own-transaction F b' t lt y v,
          own-contents F b v lv c,
          held-written (dataset b v).contents r (F.cost s) lr,
          ap (grant_on F v) is,
          grant_own F v w f,
          grant_own F v (w - 1) f,
          estimate_less F w some,
        ))

    pub rows-free : rows F (next F b (free t r)) ≡ rows F b
    rows-free =
        let c = emptied (dataset b v).contents r in
        let b' = with_contents b v c in
        let y = Assigned v w (f - 1) in
        ap (rows F) (next-free r)
        ∙ rows-kept F b' (with_transaction b' t y) refl (λ d l. record { parent = refl; quota = refl; reservation = refl })
        (λ d l. omega (arith, own-transaction F b' t lt y d, ap (grant_on F d) is))
        ∙ rows-contents F b v lv c (held-emptied (dataset b v).contents r lr)

pub rows-resize : (F : Figures) (b : Book) (v n : ℕ) → v < made b → (dataset b v).contents.records ≤ length (dataset b v).contents.units →
    n ≤ length (dataset b v).contents.units → rows F (next F b (resize v n)) ≡ rows F b
rows-resize F b v n lv few le =
    let c = (dataset b v).contents in
    rows-contents F b v lv (resized c n) (held-emptied_from (c.records - n) n c (omega arith))

pub rows-quota : (F : Figures) (b : Book) (v u : ℕ) → v < made b → rows F (next F b (quota v u)) ≡ with_quota_in (rows F b) v u
rows-quota F b v u lv =
    let x = with_quota (dataset b v) u in
    let same = dataset-same b v lv x in
    rows-set F b (with_dataset b v x) v _ (made-set b v lv x) lv
    (λ d l ne. ap (λ (y : Dataset). record { parent = y.parent; quota = y.quota; reservation = y.reservation; own = held_by y.contents + unspent_grants F b d }) (dataset_other b v lv x d ne))
    (ap (λ (y : Dataset). record { parent = y.parent; quota = y.quota; reservation = y.reservation; own = held_by y.contents + unspent_grants F b v }) same
    ∙ row_eq (sym (row-parent F b v lv)) refl (sym (row-reservation F b v lv)) (sym (row-own F b v lv)))

pub rows-reserve : (F : Figures) (b : Book) (v u : ℕ) → v < made b → rows F (next F b (reserve v u)) ≡ with_reservation_in (rows F b) v u
rows-reserve F b v u lv =
    let x = with_reservation (dataset b v) u in
    let same = dataset-same b v lv x in
    rows-set F b (with_dataset b v x) v _ (made-set b v lv x) lv
    (λ d l ne. ap (λ (y : Dataset). record { parent = y.parent; quota = y.quota; reservation = y.reservation; own = held_by y.contents + unspent_grants F b d }) (dataset_other b v lv x d ne))
    (ap (λ (y : Dataset). record { parent = y.parent; quota = y.quota; reservation = y.reservation; own = held_by y.contents + unspent_grants F b v }) same
    ∙ row_eq (sym (row-parent F b v lv)) (sym (row-quota F b v lv)) refl (sym (row-own F b v lv)))

-- no transaction has a grant on a dataset that does not exist
no_grants : (F : Figures) (v : ℕ) (xs : List Transaction) → ((t : ℕ) → grant_on F v (get_or xs t Idle) ≡ 0) → sum_by (grant_on F v) xs ≡ 0
no_grants F v [] none = refl
no_grants F v (x ∷ xs) none = omega (arith, sum_by-cons (grant_on F v) x xs, none 0, no_grants F v xs (λ t. none (suc t)))

grant_existing : (F : Figures) (b : Book) (d : ℕ) → made b ≤ d → (x : Transaction) → ShapedTransaction b x → grant_on F d x ≡ 0
grant_existing F b d past Idle s = refl
grant_existing F b d past (Created v) s = refl
grant_existing F b d past (Held v w f) s = refl
grant_existing F b d past (Assigned v w f) s =
    let l = (s.on_volume (λ e. let z : ◌≡◌ {A = ℕ} 0 1 = cc in omega arith)).0 in
    grant_other F v d w f (λ e. omega arith)

pub no_grants_past : (F : Figures) (b : Book) → Shaped F b → (d : ℕ) → made b ≤ d → unspent_grants F b d ≡ 0
no_grants_past F b shaped d past = no_grants F d b.transactions (λ t. grant_existing F b d past (transaction b t) (shaped.transactions t))

-- the row of a dataset with nothing in it
abbrev pub new_row : Dataset → Row
new_row x = record { parent = x.parent; quota = x.quota; reservation = x.reservation; own = 0 }

pub rows_new : (F : Figures) (b : Book) (x : Dataset) → Shaped F b → held_by x.contents ≡ 0 → rows F (with_new b x) ≡ rows F b ++ new_row x ∷ []
rows_new F b x shaped nothing =
    let b' = with_new b x in
    let n = new_row x in
    rows_is F b' (rows F b ++ n ∷ []) (omega (arith, length_push (rows F b) n, length_push b.datasets x, rows-length F b))
    (λ d l. elim (cases_lt d (made b)) [
      | inl lt ↦
          get_or_append_left (rows F b) (n ∷ []) blank d (in_rows F b d lt) ∙ rows_at F b d lt
          ∙ ap (λ (y : Dataset). record { parent = y.parent; quota = y.quota; reservation = y.reservation; own = held_by y.contents + unspent_grants F b d })
          (sym (get_or_append_left b.datasets (x ∷ []) nowhere d lt))
      | inr ge ↦
          let last : d ≡ made b = omega (arith, length_push b.datasets x) in
          let at = get_or_push b.datasets x nowhere d (sym last) in
          get_or_push (rows F b) n blank d (rows-length F b ∙ sym last)
          ∙ row_eq (ap (λ (y : Dataset). y.parent) (sym at)) (ap (λ (y : Dataset). y.quota) (sym at)) (ap (λ (y : Dataset). y.reservation) (sym at))
          (omega (arith, ap (λ (y : Dataset). held_by y.contents) at, no_grants_past F b shaped d ge))
    ])

pub rows-folder : (F : Figures) (b : Book) (p : ℕ) (n : List ℕ) → Shaped F b → rows F (next F b (folder p n)) ≡ rows F b ++ new_row (new p Folder (empty n 0)) ∷ []
rows-folder F b p n shaped = rows_new F b (new p Folder (empty n 0)) shaped (held-empty n 0)

pub rows-volume : (F : Figures) (b : Book) (p r : ℕ) (n : List ℕ) → Shaped F b → rows F (next F b (volume p r n)) ≡ rows F b ++ new_row (new p Volume (empty n r)) ∷ []
rows-volume F b p r n shaped = rows_new F b (new p Volume (empty n r)) shaped (held-empty n r)

pub dataset-turn : (F : Figures) (b : Book) (d : ℕ) → dataset (next F b turn) d ≡ holding (dataset b d) (settled (dataset b d).contents)
dataset-turn F b d = get_or-map (λ (x : Dataset). holding x (settled x.contents)) b.datasets d nowhere

pub made-turn : (F : Figures) (b : Book) → made (next F b turn) ≡ made b
made-turn F b = length-map b.datasets (λ (x : Dataset). holding x (settled x.contents))

-- a turn takes its deferred units from every dataset
pub rows-turn : (F : Figures) (b : Book) (d : ℕ) → d < made b →
    row (rows F (next F b turn)) d
    ≡ record { parent = (dataset b d).parent; quota = (dataset b d).quota; reservation = (dataset b d).reservation; own = own F b d - deferred b d }
rows-turn F b d l =
    let at = dataset-turn F b d in
    rows_at F (next F b turn) d (omega (arith, made-turn F b))
    ∙ row_eq (ap (λ (y : Dataset). y.parent) at) (ap (λ (y : Dataset). y.quota) at) (ap (λ (y : Dataset). y.reservation) at)
    (omega (arith, ap (λ (y : Dataset). held_by y.contents) at))
