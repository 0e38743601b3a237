-- Every answer is a value or a refusal by the order's own table, and fits its fields; only tell is told figures.
use Rattle.std.proofs.Common.{◌≡◌, ℕ, ◌+◌, ◌-◌, ◌^◌, ◌<◌, ◌≤◌, Bool, true, false, cond, not, ◌&&◌, ◌||◌, eqb, ltb, leb, ◌⊎◌, List, ◌∷◌, length, drop, pos, Some, None, sum, count_by, Option, sym, refl, ap, ◌∙◌, subst, inl, inr, arith}
use Rattle.std.proofs.ByRecursion.{has_append_right}
use Rattle.std.proofs.lemmas.List.Sums.{sum_by-take-drop, get_or-le-sum_by, count_by-le-length}
use Rattle.std.proofs.lemmas.Bool.{cond_both, ltb-true, leb-true, or_parts, ltb-false, and_parts}
use Rattle.orders.specs.declared.answer.Answer.{Answer}
use Rattle.orders.specs.declared.answer.Answer.TheVariants.{Done, Refused, Told, Stopped}
use Rattle.orders.specs.Meaning.{Meaning, folder, volume, quota, reserve, resize, begin, hold_writes, hold_frees, assign, abort, write, free, commit, turn, tell}
use Rattle.charges.specs.declared.Row.{Row}
use Rattle.charges.specs.Amounts.{weight_of, reweighed}
use Rattle.charges.specs.Tree.{row, Rooted, path}
use Rattle.charges.specs.Walk.{walk, Nearest}
use Rattle.charges.proofs.Paths.{path_le, has_first, on_reaches}
use Rattle.charges.proofs.Walks.{rise_law, reserve-law}
use Rattle.charges.proofs.Rises.{excess-law}
use Rattle.rules.specs.declared.state.Transaction.{Transaction}
use Rattle.rules.specs.declared.state.Transaction.TheVariants.{Idle, Created, Held, Assigned}
use Rattle.rules.specs.Figures.{Figures, Sane, room}
use Rattle.rules.specs.Book.{Book, dataset, transaction, made, is_folder, is_volume, records, units, all_deferred, is_assigned, estimate, rows, charge, weight}
use Rattle.rules.specs.Answers.{refused, refused_by_tree, wrong_state, unless_short, records_fit, is_settable, to_quota, to_reserve, to_begin, counted, to_hold_writes, to_hold_frees, to_assign, to_abort, on_record, to_write, to_free, to_commit, first_assigned, to_turn, to_tell, of_transaction, to_make, answer}
use Rattle.rules.specs.Law.{Own, Proper}
use Rattle.rules.specs.Theorems.{Fits}
use Rattle.rules.specs.Invariant.{Shaped, ShapedTransaction}
use Rattle.rules.proofs.Rows.{rows-length, rows_at, rows-rooted}
use Rattle.rules.proofs.Accepted.{settable}
use Rattle.rules.proofs.Sizes.{estimate_le, first_le, charge_le, weight_le, record-units_le, deferred_le, grants_le, all-deferred_le}

-- proper, and no figures are told
abbrev pub Plain : Answer → Type 0
Plain (Done v) = v < 2 ^ 16
Plain (Refused f) = Own f.layer f.number × (f.item < 2 ^ 8) × (f.amount < 2 ^ 16)
Plain (Told f) = ⊥
Plain (Stopped n p) = ⊥

pub plain-proper : (a : Answer) → Plain a → Proper a
plain-proper (Done v) p = p
plain-proper (Refused f) p = p
plain-proper (Told f) p = absurd p
plain-proper (Stopped n p) q = absurd q

by_test : (t : Bool) (x y : Answer) → (t ≡ true → Plain x) → (t ≡ false → Plain y) → Plain (cond t x y)
by_test t x y when-so when-not = cond_both t x y Plain when-so when-not

refusal : (n i a : ℕ) → 5 ≤ n → n ≤ 11 → i < 2 ^ 8 → a < 2 ^ 16 → Plain (refused n i a)
refusal n i a low high small fits = ((low, high), small, fits)

tree-refusal : (n i a : ℕ) → 12 ≤ n → n ≤ 17 → i < 2 ^ 8 → a < 2 ^ 16 → Plain (refused_by_tree n i a)
tree-refusal n i a low high small fits = ((low, high), small, fits)

-- not of a volume, or a folder, or a dataset that may be set
no_such : (d : ℕ) → d < 2 ^ 8 → Plain (refused_by_tree 12 d 0)
no_such d small = tree-refusal 12 d 0 (omega arith) (omega arith) small (omega arith)

wrong_state_lem : (t : ℕ) (s : Transaction) → t < 2 ^ 8 → Plain (wrong_state t s)
wrong_state_lem t Idle small = refusal 6 t 0 (omega arith) (omega arith) small (omega arith)
wrong_state_lem t (Created v) small = refusal 6 t 1 (omega arith) (omega arith) small (omega arith)
wrong_state_lem t (Held v w f) small = refusal 6 t 2 (omega arith) (omega arith) small (omega arith)
wrong_state_lem t (Assigned v w f) small = refusal 6 t 3 (omega arith) (omega arith) small (omega arith)

of-transaction : (t : ℕ) (a : Answer) → t < 2 ^ 8 → (t < 32 → Plain a) → Plain (of_transaction t a)
of-transaction t a small others =
    by_test (ltb t 32) a (refused 5 t 0) (λ e. others (ltb-true t 32 e)) (λ e. refusal 5 t 0 (omega arith) (omega arith) small (omega arith))

short : (o : Option (ℕ × ℕ)) (a : Answer) → ((d s : ℕ) → o ≡ Some (d, s) → (d < 2 ^ 8) × (s < 2 ^ 16)) → Plain a → Plain (unless_short o a)
short None a fits granted = granted
short (Some x) a fits granted =
    let f = fits x.0 x.1 refl in
    tree-refusal 17 x.0 x.1 (omega arith) (omega arith) f.0 f.1

more-held : (t held n : ℕ) (a : Answer) → t < 2 ^ 8 → held ≤ 64 → (held + n ≤ 64 → Plain a) → Plain (counted t held n a)
more-held t held n a small few accepted =
    by_test (eqb n 0 || ltb 64 (held + n)) (refused 7 t held) a
    (λ e. refusal 7 t held (omega arith) (omega arith) small (omega arith))
    (λ e. accepted (ltb-false 64 (held + n) (or_parts (eqb n 0) (ltb 64 (held + n)) e).1))

-- the dataset that a walk names is on its path
nearest_le : (limit : ℕ) (rs rs' : List Row) (v d s : ℕ) → Rooted rs → v < length rs → Nearest limit rs' (path rs v) d s → d ≤ v
nearest_le limit rs rs' v d s rooted l n =
    path_le rs rooted v d l (on_reaches v d (rw n.order (has_append_right n.before (d ∷ n.above) d (has_first d n.above))))

module _ (F : Figures) (b : Book) (sane : Sane F) (shaped : Shaped F b) where
  make : (p : ℕ) (a : Answer) → p < 2 ^ 8 → Plain a → Plain (to_make b p a)
  make p a small others =
      by_test (is_folder b p) (cond (ltb (made b) 64) a (refused_by_tree 13 0 64)) (refused_by_tree 12 p 0)
      (λ e. by_test (ltb (made b) 64) a (refused_by_tree 13 0 64) (λ l. others) (λ l. tree-refusal 13 0 64 (omega arith) (omega arith) (omega arith) (omega arith)))
      (λ e. no_such p small)

  to_quota_lem : (d u : ℕ) → d < made b → d < 2 ^ 8 → Plain (to_quota F b d u)
  to_quota_lem d u l small =
      by_test (not (eqb u 0) && ltb u (weight F b d)) (refused_by_tree 15 d (weight F b d - u)) (Done (charge F b d))
      (λ e. tree-refusal 15 d (weight F b d - u) (omega arith) (omega arith) small (omega (arith, weight_le F b sane shaped d l)))
      (λ e. omega (arith, charge_le F b sane shaped d l))

  -- the walk for a reservation names a dataset on the parent's path
  reserve-short : (d u : ℕ) → 0 < d → d < made b → u < 2 ^ 16 → (e s : ℕ) →
      walk (room F) (rows F b) (dataset b d).parent (reweighed (charge F b d) (dataset b d).reservation u) ≡ Some (e, s) → (e < 2 ^ 8) × (s < 2 ^ 16)
  reserve-short d u gt l small e s named =
      let rs = rows F b in
      let rooted = rows-rooted F b shaped in
      let lt : d < length rs = omega (arith, rows-length F b) in
      let walked : walk (room F) rs (row rs d).parent (reweighed (charge F b d) (row rs d).reservation u) ≡ Some (e, s) =
      ap (λ (r : Row). walk (room F) rs r.parent (reweighed (charge F b d) r.reservation u)) (rows_at F b d l) ∙ named in
      let n = ((reserve-law (room F) rs d u rooted shaped.within lt gt).some e s).0 walked in
      let below : (row rs d).parent < d = rooted d gt lt in
      let le : e ≤ (row rs d).parent = nearest_le (room F) rs _ (row rs d).parent e s rooted (omega arith) n in
      (omega (arith, shaped.few), (excess-law.by_reservation (room F) rs d u rooted shaped.within lt gt small e s walked).1)

  to_reserve_lem : (d u : ℕ) → 0 < d → d < made b → d < 2 ^ 8 → u < 2 ^ 16 → Plain (to_reserve F b d u)
  to_reserve_lem d u gt l small fits =
      by_test (not (eqb (dataset b d).quota 0) && ltb (dataset b d).quota u) (refused_by_tree 16 d (u - (dataset b d).quota)) _
      (λ e. tree-refusal 16 d (u - (dataset b d).quota) (omega arith) (omega arith) small (omega arith))
      (λ e. short (walk (room F) (rows F b) (dataset b d).parent (reweighed (charge F b d) (dataset b d).reservation u)) (Done (weight_of (charge F b d) u))
      (reserve-short d u gt l fits) (omega (arith, charge_le F b sane shaped d l)))

  to_begin_lem : (t v : ℕ) (s : Transaction) → t < 2 ^ 8 → v < 2 ^ 8 → Plain (to_begin F b t v s)
  to_begin_lem t v Idle small fits =
      by_test (is_volume b v) (Done F.worst) (refused_by_tree 12 v 0) (λ e. omega (arith, sane.bounded.small)) (λ e. no_such v fits)
  to_begin_lem t v (Created u) small fits = wrong_state_lem t (Created u) small
  to_begin_lem t v (Held u w f) small fits = wrong_state_lem t (Held u w f) small
  to_begin_lem t v (Assigned u w f) small fits = wrong_state_lem t (Assigned u w f) small

  estimated : (w : ℕ) → w ≤ 64 → Plain (Done (estimate F w))
  estimated w few = omega (arith, estimate_le F w sane few)

  to_hold_writes_lem : (t n : ℕ) (s : Transaction) → t < 2 ^ 8 → ShapedTransaction b s → Plain (to_hold_writes F t n s)
  to_hold_writes_lem t n Idle small x = wrong_state_lem t Idle small
  to_hold_writes_lem t n (Created v) small x = more-held t 0 n (Done (estimate F n)) small (omega arith) (λ le. estimated n (omega arith))
  to_hold_writes_lem t n (Held v w f) small x = more-held t w n (Done (estimate F (w + n))) small x.few_writes (λ le. estimated (w + n) le)
  to_hold_writes_lem t n (Assigned v w f) small x = wrong_state_lem t (Assigned v w f) small

  to_hold_frees_lem : (t n : ℕ) (s : Transaction) → t < 2 ^ 8 → ShapedTransaction b s → Plain (to_hold_frees F t n s)
  to_hold_frees_lem t n Idle small x = wrong_state_lem t Idle small
  to_hold_frees_lem t n (Created v) small x = more-held t 0 n (Done (estimate F 0)) small (omega arith) (λ le. estimated 0 (omega arith))
  to_hold_frees_lem t n (Held v w f) small x = more-held t f n (Done (estimate F w)) small x.few_frees (λ le. estimated w x.few_writes)
  to_hold_frees_lem t n (Assigned v w f) small x = wrong_state_lem t (Assigned v w f) small

  assign-short : (v w : ℕ) → v < made b → w ≤ 64 → (e s : ℕ) → walk (room F) (rows F b) v (pos (estimate F w)) ≡ Some (e, s) → (e < 2 ^ 8) × (s < 2 ^ 16)
  assign-short v w l few e s named =
      let rs = rows F b in
      let rooted = rows-rooted F b shaped in
      let lt : v < length rs = omega (arith, rows-length F b) in
      let n = ((rise_law (room F) rs v (estimate F w) rooted shaped.within lt).some e s).0 named in
      let le : e ≤ v = nearest_le (room F) rs _ v e s rooted lt n in
      (omega (arith, shaped.few), (excess-law.by_own (room F) rs v (estimate F w) rooted shaped.within lt (omega (arith, estimate_le F w sane few)) e s named).1)

  to_assign_lem : (t : ℕ) (s : Transaction) → t < 2 ^ 8 → ShapedTransaction b s → Plain (to_assign F b t s)
  to_assign_lem t Idle small x = wrong_state_lem t Idle small
  to_assign_lem t (Created v) small x = wrong_state_lem t (Created v) small
  to_assign_lem t (Held v w f) small x =
      let on = x.on_volume (λ i. let z : ◌≡◌ {A = ℕ} 0 1 = cc in omega arith) in
      short (walk (room F) (rows F b) v (pos (estimate F w))) (Done (estimate F w)) (assign-short v w on.0 x.few_writes) (estimated w x.few_writes)
  to_assign_lem t (Assigned v w f) small x = wrong_state_lem t (Assigned v w f) small

  to_abort_lem : (t : ℕ) (s : Transaction) → t < 2 ^ 8 → ShapedTransaction b s → Plain (to_abort F t s)
  to_abort_lem t Idle small x = wrong_state_lem t Idle small
  to_abort_lem t (Created v) small x = estimated 0 (omega arith)
  to_abort_lem t (Held v w f) small x = estimated w x.few_writes
  to_abort_lem t (Assigned v w f) small x = wrong_state_lem t (Assigned v w f) small

  on_record_lem : (t v n r : ℕ) (a : Answer) → t < 2 ^ 8 → r < 2 ^ 8 → (r < records b v → Plain a) → Plain (on_record b t v n r a)
  on_record_lem t v n r a small fits accepted =
      by_test (eqb n 0) (refused 8 t 0) (cond (ltb r (records b v)) a (refused 9 r (records b v)))
      (λ e. refusal 8 t 0 (omega arith) (omega arith) small (omega arith))
      (λ e. by_test (ltb r (records b v)) a (refused 9 r (records b v)) (λ l. accepted (ltb-true r (records b v) l))
      (λ l. refusal 9 r (records b v) (omega arith) (omega arith) fits (omega (arith, (shaped.datasets v).contents.records_few))))

  to_write_lem : (t r z : ℕ) (s : Transaction) → t < 2 ^ 8 → r < 2 ^ 8 → z < 2 ^ 8 → Plain (to_write F b t r z s)
  to_write_lem t r z Idle small fits few = wrong_state_lem t Idle small
  to_write_lem t r z (Created v) small fits few = wrong_state_lem t (Created v) small
  to_write_lem t r z (Held v w f) small fits few = wrong_state_lem t (Held v w f) small
  to_write_lem t r z (Assigned v w f) small fits few =
      on_record_lem t v w r (cond (leb z 16) (Done (F.cost z)) (refused 10 z 16)) small fits
      (λ l. by_test (leb z 16) (Done (F.cost z)) (refused 10 z 16)
      (λ e. omega (arith, sane.bounded.within z (leb-true z 16 e), sane.bounded.small))
      (λ e. refusal 10 z 16 (omega arith) (omega arith) few (omega arith)))

  to_free_lem : (t r : ℕ) (s : Transaction) → t < 2 ^ 8 → r < 2 ^ 8 → ShapedTransaction b s → Plain (to_free b t r s)
  to_free_lem t r Idle small fits x = wrong_state_lem t Idle small
  to_free_lem t r (Created v) small fits x = wrong_state_lem t (Created v) small
  to_free_lem t r (Held v w f) small fits x = wrong_state_lem t (Held v w f) small
  to_free_lem t r (Assigned v w f) small fits x =
      let on = x.on_volume (λ i. let z : ◌≡◌ {A = ℕ} 0 1 = cc in omega arith) in
      on_record_lem t v f r (Done (units b v r)) small fits
      (λ l. omega (
        arith,
        record-units_le F b sane shaped v on.0,
        (shaped.datasets v).contents.records_few,
        get_or-le-sum_by (λ n. n) (dataset b v).contents.units r 0 (omega (arith, (shaped.datasets v).contents.records_few, (shaped.datasets v).contents.units_long)),
      ))

  to_commit_lem : (t : ℕ) (s : Transaction) → t < 2 ^ 8 → ShapedTransaction b s → Plain (to_commit F t s)
  to_commit_lem t Idle small x = wrong_state_lem t Idle small
  to_commit_lem t (Created v) small x = wrong_state_lem t (Created v) small
  to_commit_lem t (Held v w f) small x = wrong_state_lem t (Held v w f) small
  to_commit_lem t (Assigned v w f) small x = estimated w x.few_writes

  to_turn_lem : Plain (to_turn b)
  to_turn_lem =
      let xs = b.transactions in
      by_test (eqb (count_by is_assigned xs) 0) (Done (all_deferred b)) (refused 11 (first_assigned 0 xs) (count_by is_assigned xs))
      (λ e. omega (arith, all-deferred_le F b sane shaped))
      (λ e. refusal 11 (first_assigned 0 xs) (count_by is_assigned xs) (omega arith) (omega arith)
      (omega (arith, first_le 0 xs, shaped.transactions_long)) (omega (arith, count_by-le-length is_assigned xs, shaped.transactions_long)))

  to_resize_lem : (v n : ℕ) → v < 2 ^ 8 → n < 2 ^ 8 → Plain (answer F b (resize v n))
  to_resize_lem v n small fits =
      by_test (is_volume b v) (cond (records_fit n) (Done (sum (drop n (dataset b v).contents.units))) (refused_by_tree 14 n 0)) (refused_by_tree 12 v 0)
      (λ e. by_test (records_fit n) (Done (sum (drop n (dataset b v).contents.units))) (refused_by_tree 14 n 0)
      (λ k. omega (arith, record-units_le F b sane shaped v (ltb-true v (made b) (and_parts (ltb v (made b)) _ e).0), sum_by-take-drop (λ u. u) (dataset b v).contents.units n))
      (λ k. tree-refusal 14 n 0 (omega arith) (omega arith) fits (omega arith)))
      (λ e. no_such v small)

  -- every order but tell is answered plainly
  pub plain : (m : Meaning) → Fits m → Plain (answer F b m) ⊎ ((d : ℕ) × (m ≡ tell d))
  plain (folder p n) fits = inl (make p (Done (made b)) fits.0 (omega (arith, shaped.few)))
  plain (volume p r n) fits =
      inl (make p (cond (records_fit r) (Done (made b)) (refused_by_tree 14 r 0)) fits.0
      (by_test (records_fit r) (Done (made b)) (refused_by_tree 14 r 0) (λ e. omega (arith, shaped.few))
      (λ e. tree-refusal 14 r 0 (omega arith) (omega arith) fits.1 (omega arith))))
  plain (quota d u) fits =
      inl (by_test (is_settable b d) (to_quota F b d u) (refused_by_tree 12 d 0) (λ e. to_quota_lem d u (settable b d e).1 fits.0) (λ e. no_such d fits.0))
  plain (reserve d u) fits =
      inl (by_test (is_settable b d) (to_reserve F b d u) (refused_by_tree 12 d 0)
      (λ e. to_reserve_lem d u (settable b d e).0 (settable b d e).1 fits.0 fits.1) (λ e. no_such d fits.0))
  plain (resize v n) fits = inl (to_resize_lem v n fits.0 fits.1)
  plain (begin t v) fits = inl (of-transaction t _ fits.0 (λ l. to_begin_lem t v (transaction b t) fits.0 fits.1))
  plain (hold_writes t n) fits = inl (of-transaction t _ fits.0 (λ l. to_hold_writes_lem t n (transaction b t) fits.0 (shaped.transactions t)))
  plain (hold_frees t n) fits = inl (of-transaction t _ fits.0 (λ l. to_hold_frees_lem t n (transaction b t) fits.0 (shaped.transactions t)))
  plain (assign t) fits = inl (of-transaction t _ fits (λ l. to_assign_lem t (transaction b t) fits (shaped.transactions t)))
  plain (abort t) fits = inl (of-transaction t _ fits (λ l. to_abort_lem t (transaction b t) fits (shaped.transactions t)))
  plain (write t r s) fits = inl (of-transaction t _ fits.0 (λ l. to_write_lem t r s (transaction b t) fits.0 fits.1 fits.2))
  plain (free t r) fits = inl (of-transaction t _ fits.0 (λ l. to_free_lem t r (transaction b t) fits.0 fits.1 (shaped.transactions t)))
  plain (commit t) fits = inl (of-transaction t _ fits (λ l. to_commit_lem t (transaction b t) fits (shaped.transactions t)))
  plain turn fits = inl to_turn_lem
  plain (tell d) fits = inr (d, refl)

  to_tell_lem : (d : ℕ) → d < 2 ^ 8 → Proper (answer F b (tell d))
  to_tell_lem d small =
      cond_both (ltb d (made b)) (to_tell F b d) (refused_by_tree 12 d 0) Proper
      (λ e.
      let l : d < made b = ltb-true d (made b) e in (
        shaped.named d l,
        omega (arith, charge_le F b sane shaped d l),
        omega (arith, record-units_le F b sane shaped d l),
        omega (arith, deferred_le F b sane shaped d l),
        omega (arith, grants_le F b sane shaped d l),
      ))
      (λ e. plain-proper (refused_by_tree 12 d 0) (no_such d small))

  pub proper : (m : Meaning) → Fits m → Proper (answer F b m)
  proper m fits = elim (plain m fits) [
    | inl p ↦ plain-proper (answer F b m) p
    | inr t ↦ subst (λ (x : Meaning). Proper (answer F b x)) (sym t.1) (to_tell_lem t.0 (subst Fits t.1 fits))
  ]
