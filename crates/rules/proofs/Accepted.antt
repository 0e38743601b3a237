-- What must have been so where an order was accepted.
use Rattle.std.proofs.Common.{◌≡◌, ℕ, ◌+◌, ◌<◌, ◌≤◌, Bool, true, false, cond, not, ◌&&◌, eqb, ltb, ◌≢◌, List, pos, Some, None, count_by, Option, sym, refl, inl, inr, arith}
use Rattle.std.proofs.lemmas.Bool.{cases_lt, both_ways, and_parts, or_parts, ltb-true, ltb-false, leb-true, eqb-true, eqb-false, not_from_false, and_from, lt-ltb, ne_eqb}
use Rattle.orders.specs.declared.answer.Answer.{Answer}
use Rattle.orders.specs.declared.answer.Answer.TheVariants.{Done, Refused}
use Rattle.orders.specs.declared.answer.Refusal.{Refusal}
use Rattle.orders.specs.Meaning.{folder, volume, quota, reserve, resize, begin, hold_writes, hold_frees, assign, abort, write, free, commit, turn}
use Rattle.charges.specs.Amounts.{reweighed}
use Rattle.charges.specs.Walk.{walk}
use Rattle.rules.specs.declared.state.Kind.{Kind}
use Rattle.rules.specs.declared.state.Kind.TheVariants.{Folder, Volume}
use Rattle.rules.specs.declared.state.Transaction.{Transaction}
use Rattle.rules.specs.declared.state.Transaction.TheVariants.{Idle, Created, Held, Assigned}
use Rattle.rules.specs.Figures.{Figures, room}
use Rattle.rules.specs.Book.{Book, dataset, transaction, made, is_folder_kind, is_volume_kind, is_folder, is_volume, records, units, volume_of, writes_of, frees_of, is_assigned, estimate, grant_on, all_deferred, rows, charge, weight}
use Rattle.rules.specs.Answers.{unless_short, records_fit, is_settable, to_begin, counted, to_hold_writes, to_hold_frees, to_assign, to_abort, on_record, to_write, to_free, to_commit, to_make, answer}

-- a refusal is not an acceptance
pub refused-not-done : {T : Type 0} (f : Refusal) (k : ℕ) → ◌≡◌ {A = Answer} (Refused f) (Done k) → T
refused-not-done f k e = let z : ◌≡◌ {A = ℕ} 0 1 = cc in absurd (omega arith)

-- a test that stands before an acceptance was true, or false
pub yes_then : (b : Bool) (x : Answer) (f : Refusal) (k : ℕ) → cond b x (Refused f) ≡ Done k → (b ≡ true) × (x ≡ Done k)
yes_then true x f k e = (refl, e)
yes_then false x f k e = refused-not-done f k e

pub no_then : (b : Bool) (x : Answer) (f : Refusal) (k : ℕ) → cond b (Refused f) x ≡ Done k → (b ≡ false) × (x ≡ Done k)
no_then true x f k e = refused-not-done f k e
no_then false x f k e = (refl, e)

pub done-is : (a k : ℕ) → ◌≡◌ {A = Answer} (Done a) (Done k) → a ≡ k
done-is a k e = cc

walk-then : (o : Option (ℕ × ℕ)) (a : Answer) (k : ℕ) → unless_short o a ≡ Done k → (o ≡ None) × (a ≡ Done k)
walk-then None a k e = (refl, e)
walk-then (Some s) a k e = refused-not-done _ k e

is-folder : (x : Kind) → is_folder_kind x ≡ true → x ≡ Folder
is-folder Folder e = refl
is-folder Volume e = let z : ◌≡◌ {A = ℕ} 0 1 = cc in absurd (omega arith)

is-volume : (x : Kind) → is_volume_kind x ≡ true → x ≡ Volume
is-volume Folder e = let z : ◌≡◌ {A = ℕ} 0 1 = cc in absurd (omega arith)
is-volume Volume e = refl

positive : (n : ℕ) → eqb n 0 ≡ false → 0 < n
positive n e = omega (arith, eqb-false n 0 e)

-- a value that is there was not too small
at_least : (u w : ℕ) → (not (eqb u 0) && ltb u w) ≡ false → u ≢ 0 → w ≤ u
at_least u w e ne = elim (cases_lt u w) [
  | inl l ↦ absurd (both_ways (not (eqb u 0) && ltb u w) e (and_from _ _ (not_from_false _ (ne_eqb u 0 ne)) (lt-ltb u w l)))
  | inr ge ↦ ge
]

module _ (b : Book) where
  folder-there : (d : ℕ) → is_folder b d ≡ true → (d < made b) × ((dataset b d).kind ≡ Folder)
  folder-there d e = let p = and_parts _ _ e in (ltb-true _ _ p.0, is-folder _ p.1)

  volume-there : (d : ℕ) → is_volume b d ≡ true → (d < made b) × ((dataset b d).kind ≡ Volume)
  volume-there d e = let p = and_parts _ _ e in (ltb-true _ _ p.0, is-volume _ p.1)

  pub settable : (d : ℕ) → is_settable b d ≡ true → (0 < d) × (d < made b)
  settable d e = let p = and_parts _ _ e in (ltb-true _ _ p.0, ltb-true _ _ p.1)

  records_fit_lem : (n : ℕ) → records_fit n ≡ true → (0 < n) × (n ≤ 64)
  records_fit_lem n e = let p = and_parts _ _ e in (ltb-true _ _ p.0, leb-true _ _ p.1)

module _ (F : Figures) (b : Book) (k : ℕ) where
  made-under : (p : ℕ) (others : Answer) → to_make b p others ≡ Done k → (p < made b) × ((dataset b p).kind ≡ Folder) × (made b < 64) × (others ≡ Done k)
  made-under p others e =
      let x = yes_then _ _ _ k e in
      let y = yes_then _ _ _ k x.1 in
      let there = folder-there b p x.0 in
      (there.0, there.1, ltb-true _ _ y.0, y.1)

  pub folder_ok : (p : ℕ) (n : List ℕ) → answer F b (folder p n) ≡ Done k → (p < made b) × ((dataset b p).kind ≡ Folder) × (made b < 64) × (k ≡ made b)
  folder_ok p n e = let x = made-under p _ e in (x.0, x.1, x.2, sym (done-is _ _ x.3))

  pub volume_ok : (p r : ℕ) (n : List ℕ) → answer F b (volume p r n) ≡ Done k →
      (p < made b) × ((dataset b p).kind ≡ Folder) × (made b < 64) × (0 < r) × (r ≤ 64) × (k ≡ made b)
  volume_ok p r n e =
      let x = made-under p _ e in
      let y = yes_then _ _ _ k x.3 in
      let fit = records_fit_lem b r y.0 in
      (x.0, x.1, x.2, fit.0, fit.1, sym (done-is _ _ y.1))

  pub quota_ok : (d u : ℕ) → answer F b (quota d u) ≡ Done k → (0 < d) × (d < made b) × (u ≢ 0 → weight F b d ≤ u) × (k ≡ charge F b d)
  quota_ok d u e =
      let x = yes_then _ _ _ k e in
      let y = no_then _ _ _ k x.1 in
      let there = settable b d x.0 in
      (there.0, there.1, at_least u (weight F b d) y.0, sym (done-is _ _ y.1))

  pub reserve_ok : (d u : ℕ) → answer F b (reserve d u) ≡ Done k →
      (0 < d) × (d < made b) × ((dataset b d).quota ≢ 0 → u ≤ (dataset b d).quota)
      × (walk (room F) (rows F b) (dataset b d).parent (reweighed (charge F b d) (dataset b d).reservation u) ≡ None)
  reserve_ok d u e =
      let x = yes_then _ _ _ k e in
      let y = no_then _ _ _ k x.1 in
      let there = settable b d x.0 in
      (there.0, there.1, at_least (dataset b d).quota u y.0, (walk-then _ _ k y.1).0)

  pub resize_ok : (v n : ℕ) → answer F b (resize v n) ≡ Done k → (v < made b) × ((dataset b v).kind ≡ Volume) × (0 < n) × (n ≤ 64)
  resize_ok v n e =
      let x = yes_then _ _ _ k e in
      let y = yes_then _ _ _ k x.1 in
      let there = volume-there b v x.0 in
      let fit = records_fit_lem b n y.0 in
      (there.0, there.1, fit.0, fit.1)

  begin_state : (t v : ℕ) (x : Transaction) → to_begin F b t v x ≡ Done k → (x ≡ Idle) × (v < made b) × ((dataset b v).kind ≡ Volume)
  begin_state t v Idle e = let there = volume-there b v (yes_then _ _ _ k e).0 in (refl, there.0, there.1)
  begin_state t v (Created u) e = refused-not-done _ k e
  begin_state t v (Held u w f) e = refused-not-done _ k e
  begin_state t v (Assigned u w f) e = refused-not-done _ k e

  pub begin_ok : (t v : ℕ) → answer F b (begin t v) ≡ Done k → (t < 32) × (transaction b t ≡ Idle) × (v < made b) × ((dataset b v).kind ≡ Volume)
  begin_ok t v e =
      let x = yes_then _ _ _ k e in
      let s = begin_state t v (transaction b t) x.1 in
      (ltb-true _ _ x.0, s.0, s.1, s.2)

  counted_ok : (t held n : ℕ) (a : Answer) → counted t held n a ≡ Done k → (0 < n) × (held + n ≤ 64)
  counted_ok t held n a e =
      let p = or_parts _ _ (no_then _ _ _ k e).0 in
      (positive n p.0, ltb-false _ _ p.1)

  hold_writes_state : (t n : ℕ) (x : Transaction) → to_hold_writes F t n x ≡ Done k →
      (x ≢ Idle) × (0 < n) × (writes_of x + n ≤ 64) × ((d : ℕ) → grant_on F d x ≡ 0)
  hold_writes_state t n Idle e = refused-not-done _ k e
  hold_writes_state t n (Created v) e =
      let c = counted_ok t 0 n _ e in
      ((λ i. let z : ◌≡◌ {A = ℕ} 0 1 = cc in omega arith), c.0, c.1, λ d. refl)
  hold_writes_state t n (Held v w f) e =
      let c = counted_ok t w n _ e in
      ((λ i. let z : ◌≡◌ {A = ℕ} 0 1 = cc in omega arith), c.0, c.1, λ d. refl)
  hold_writes_state t n (Assigned v w f) e = refused-not-done _ k e

  pub hold_writes_ok : (t n : ℕ) → answer F b (hold_writes t n) ≡ Done k →
      (t < 32) × (transaction b t ≢ Idle) × (0 < n) × (writes_of (transaction b t) + n ≤ 64) × ((d : ℕ) → grant_on F d (transaction b t) ≡ 0)
  hold_writes_ok t n e =
      let x = yes_then _ _ _ k e in
      let s = hold_writes_state t n (transaction b t) x.1 in
      (ltb-true _ _ x.0, s.0, s.1, s.2, s.3)

  hold_frees_state : (t n : ℕ) (x : Transaction) → to_hold_frees F t n x ≡ Done k →
      (x ≢ Idle) × (0 < n) × (frees_of x + n ≤ 64) × ((d : ℕ) → grant_on F d x ≡ 0)
  hold_frees_state t n Idle e = refused-not-done _ k e
  hold_frees_state t n (Created v) e =
      let c = counted_ok t 0 n _ e in
      ((λ i. let z : ◌≡◌ {A = ℕ} 0 1 = cc in omega arith), c.0, c.1, λ d. refl)
  hold_frees_state t n (Held v w f) e =
      let c = counted_ok t f n _ e in
      ((λ i. let z : ◌≡◌ {A = ℕ} 0 1 = cc in omega arith), c.0, c.1, λ d. refl)
  hold_frees_state t n (Assigned v w f) e = refused-not-done _ k e

  pub hold_frees_ok : (t n : ℕ) → answer F b (hold_frees t n) ≡ Done k →
      (t < 32) × (transaction b t ≢ Idle) × (0 < n) × (frees_of (transaction b t) + n ≤ 64) × ((d : ℕ) → grant_on F d (transaction b t) ≡ 0)
  hold_frees_ok t n e =
      let x = yes_then _ _ _ k e in
      let s = hold_frees_state t n (transaction b t) x.1 in
      (ltb-true _ _ x.0, s.0, s.1, s.2, s.3)

  assign_state : (t : ℕ) (x : Transaction) → to_assign F b t x ≡ Done k →
      (x ≡ Held (volume_of x) (writes_of x) (frees_of x)) × (walk (room F) (rows F b) (volume_of x) (pos (estimate F (writes_of x))) ≡ None)
      × (k ≡ estimate F (writes_of x))
  assign_state t Idle e = refused-not-done _ k e
  assign_state t (Created v) e = refused-not-done _ k e
  assign_state t (Held v w f) e = let x = walk-then _ _ k e in (refl, x.0, sym (done-is _ _ x.1))
  assign_state t (Assigned v w f) e = refused-not-done _ k e

  pub assign_ok : (t : ℕ) → answer F b (assign t) ≡ Done k →
      (t < 32) × (transaction b t ≡ Held (volume_of (transaction b t)) (writes_of (transaction b t)) (frees_of (transaction b t)))
      × (walk (room F) (rows F b) (volume_of (transaction b t)) (pos (estimate F (writes_of (transaction b t)))) ≡ None)
      × (k ≡ estimate F (writes_of (transaction b t)))
  assign_ok t e =
      let x = yes_then _ _ _ k e in
      let s = assign_state t (transaction b t) x.1 in
      (ltb-true _ _ x.0, s.0, s.1, s.2)

  abort_state : (t : ℕ) (x : Transaction) → to_abort F t x ≡ Done k → (x ≢ Idle) × ((d : ℕ) → grant_on F d x ≡ 0)
  abort_state t Idle e = refused-not-done _ k e
  abort_state t (Created v) e = ((λ i. let z : ◌≡◌ {A = ℕ} 0 1 = cc in omega arith), λ d. refl)
  abort_state t (Held v w f) e = ((λ i. let z : ◌≡◌ {A = ℕ} 0 1 = cc in omega arith), λ d. refl)
  abort_state t (Assigned v w f) e = refused-not-done _ k e

  pub abort_ok : (t : ℕ) → answer F b (abort t) ≡ Done k → (t < 32) × (transaction b t ≢ Idle) × ((d : ℕ) → grant_on F d (transaction b t) ≡ 0)
  abort_ok t e =
      let x = yes_then _ _ _ k e in
      let s = abort_state t (transaction b t) x.1 in
      (ltb-true _ _ x.0, s.0, s.1)

  on_record_lem : (t v n r : ℕ) (a : Answer) → on_record b t v n r a ≡ Done k → (0 < n) × (r < records b v) × (a ≡ Done k)
  on_record_lem t v n r a e =
      let x = no_then _ _ _ k e in
      let y = yes_then _ _ _ k x.1 in
      (positive n x.0, ltb-true _ _ y.0, y.1)

  write_state : (t r s : ℕ) (x : Transaction) → to_write F b t r s x ≡ Done k →
      (x ≡ Assigned (volume_of x) (writes_of x) (frees_of x)) × (0 < writes_of x) × (r < records b (volume_of x)) × (s ≤ 16) × (k ≡ F.cost s)
  write_state t r s Idle e = refused-not-done _ k e
  write_state t r s (Created v) e = refused-not-done _ k e
  write_state t r s (Held v w f) e = refused-not-done _ k e
  write_state t r s (Assigned v w f) e =
      let x = on_record_lem t v w r _ e in
      let y = yes_then _ _ _ k x.2 in
      (refl, x.0, x.1, leb-true _ _ y.0, sym (done-is _ _ y.1))

  pub write_ok : (t r s : ℕ) → answer F b (write t r s) ≡ Done k →
      (t < 32) × (transaction b t ≡ Assigned (volume_of (transaction b t)) (writes_of (transaction b t)) (frees_of (transaction b t)))
      × (0 < writes_of (transaction b t)) × (r < records b (volume_of (transaction b t))) × (s ≤ 16) × (k ≡ F.cost s)
  write_ok t r s e =
      let x = yes_then _ _ _ k e in
      let y = write_state t r s (transaction b t) x.1 in
      (ltb-true _ _ x.0, y.0, y.1, y.2, y.3, y.4)

  free_state : (t r : ℕ) (x : Transaction) → to_free b t r x ≡ Done k →
      (x ≡ Assigned (volume_of x) (writes_of x) (frees_of x)) × (0 < frees_of x) × (r < records b (volume_of x)) × (k ≡ units b (volume_of x) r)
  free_state t r Idle e = refused-not-done _ k e
  free_state t r (Created v) e = refused-not-done _ k e
  free_state t r (Held v w f) e = refused-not-done _ k e
  free_state t r (Assigned v w f) e = let x = on_record_lem t v f r _ e in (refl, x.0, x.1, sym (done-is _ _ x.2))

  pub free_ok : (t r : ℕ) → answer F b (free t r) ≡ Done k →
      (t < 32) × (transaction b t ≡ Assigned (volume_of (transaction b t)) (writes_of (transaction b t)) (frees_of (transaction b t)))
      × (0 < frees_of (transaction b t)) × (r < records b (volume_of (transaction b t))) × (k ≡ units b (volume_of (transaction b t)) r)
  free_ok t r e =
      let x = yes_then _ _ _ k e in
      let y = free_state t r (transaction b t) x.1 in
      (ltb-true _ _ x.0, y.0, y.1, y.2, y.3)

  commit_state : (t : ℕ) (x : Transaction) → to_commit F t x ≡ Done k →
      (x ≡ Assigned (volume_of x) (writes_of x) (frees_of x)) × (k ≡ estimate F (writes_of x))
  commit_state t Idle e = refused-not-done _ k e
  commit_state t (Created v) e = refused-not-done _ k e
  commit_state t (Held v w f) e = refused-not-done _ k e
  commit_state t (Assigned v w f) e = (refl, sym (done-is _ _ e))

  pub commit_ok : (t : ℕ) → answer F b (commit t) ≡ Done k →
      (t < 32) × (transaction b t ≡ Assigned (volume_of (transaction b t)) (writes_of (transaction b t)) (frees_of (transaction b t)))
      × (k ≡ estimate F (writes_of (transaction b t)))
  commit_ok t e =
      let x = yes_then _ _ _ k e in
      let s = commit_state t (transaction b t) x.1 in
      (ltb-true _ _ x.0, s.0, s.1)

  pub turn_ok : answer F b turn ≡ Done k → (count_by is_assigned b.transactions ≡ 0) × (k ≡ all_deferred b)
  turn_ok e = let x = yes_then _ _ _ k e in (eqb-true _ _ x.0, sym (done-is _ _ x.1))
