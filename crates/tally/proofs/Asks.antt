-- The steps of a transaction against the rules' answers and effects.
use Rattle.std.proofs.Common.{◌≡◌, ℕ, ◌+◌, ◌-◌, ◌<◌, Bool, true, false, cond, ◌||◌, eqb, ltb, leb, List, get_or, pos, Ok, Err, Result, sym, refl, ap, ◌∙◌, zero-add}
use Rattle.std.proofs.lemmas.Bool.{ltb-true}
use Rattle.orders.specs.declared.answer.Answer.{Answer}
use Rattle.orders.specs.declared.answer.Answer.TheVariants.{Done, Refused}
use Rattle.orders.specs.Meaning.{begin, hold_writes, hold_frees, assign, abort, write, free, commit}
use Rattle.charges.specs.Walk.{walk}
use Rattle.rules.specs.declared.state.Transaction.{Transaction}
use Rattle.rules.specs.declared.state.Transaction.TheVariants.{Idle, Created, Held, Assigned}
use Rattle.rules.specs.Figures.{Figures, room}
use Rattle.rules.specs.Book.{Book, transaction, is_volume, records, units, volume_of, writes_of, frees_of, estimate, rows}
use Rattle.rules.specs.Answers.{refused, refused_by_tree, unless_short, to_begin, to_hold_writes, to_hold_frees, to_assign, to_abort, to_write, to_free, to_commit, of_transaction, answer}
use Rattle.tally.specs.declared.fault.LedgerFault.{LedgerFault}
use Rattle.tally.specs.declared.fault.LedgerFault.TheVariants.{NoSuchTransaction, BadCount, NoneLeft}
use Rattle.tally.specs.declared.step.Asked.{Asked}
use Rattle.tally.specs.declared.step.Asked.TheVariants.{Begin, HoldWrites, HoldFrees, Assign, Abort, Write, Free, Commit}
use Rattle.tally.specs.declared.step.Change.{Change}
use Rattle.tally.specs.Faults.{refusal_of}
use Rattle.tally.specs.Steps.{step_of, changed_by, change_of}

-- what is answered after a check
abbrev pub and_then : {X : Type 0} → Result X LedgerFault → (X → Answer) → Answer
and_then (Ok x) k = k x
and_then (Err f) k = Refused (refusal_of f)

err_not_ok : {X T : Type 0} (f : LedgerFault) (x : X) → ◌≡◌ {A = Result X LedgerFault} (Err f) (Ok x) → T
err_not_ok f x e = absurd cc

ok_is : {X : Type 0} (x y : X) → ◌≡◌ {A = Result X LedgerFault} (Ok x) (Ok y) → x ≡ y
ok_is x y e = cc

pub ok_not_err : {X T E : Type 0} (x : X) (f : E) → ◌≡◌ {A = Result X E} (Ok x) (Err f) → T
ok_not_err x f e = absurd cc

-- what a change that is allowed says
pub record Allowed (ts : List Transaction) (t : ℕ) (a : Asked) (c : Change) : Type 0 where
  pub listed : t < 32
  pub before : c.before ≡ get_or ts t Idle
  pub after : step_of t (get_or ts t Idle) a ≡ Ok c.after

allowed_by : (q : Bool) (x : Transaction) (r : Result Transaction LedgerFault) (f : LedgerFault) (c : Change) → cond q (changed_by x r) (Err f) ≡ Ok c →
    (q ≡ true) × (c.before ≡ x) × (r ≡ Ok c.after)
allowed_by true x (Ok y) f c e =
    let s : ◌≡◌ {A = Change} (record { before = x; after = y }) c = ok_is (record { before = x; after = y }) c e in
    (refl, ap (λ (z : Change). z.before) (sym s), ap (λ (z : Change). Ok z.after) s)
allowed_by true x (Err g) f c e = err_not_ok g c e
allowed_by false x r f c e = err_not_ok f c e

pub allowed : (ts : List Transaction) (t : ℕ) (a : Asked) (c : Change) → change_of ts t a ≡ Ok c → Allowed ts t a c
allowed ts t a c e =
    let p = allowed_by (ltb t 32) (get_or ts t Idle) (step_of t (get_or ts t Idle) a) (NoSuchTransaction t) c e in
    record { listed = ltb-true t 32 p.0; before = p.1; after = p.2 }

-- one that is allowed goes on
pub goes_on : (ts : List Transaction) (t : ℕ) (a : Asked) (c : Change) (k : Transaction → Answer) → change_of ts t a ≡ Ok c →
    of_transaction t (and_then (step_of t (get_or ts t Idle) a) k) ≡ k c.after
goes_on ts t a c k e =
    let p = allowed_by (ltb t 32) (get_or ts t Idle) (step_of t (get_or ts t Idle) a) (NoSuchTransaction t) c e in
    ap (λ (q : Bool). cond q (and_then (step_of t (get_or ts t Idle) a) k) (refused 5 t 0)) p.0 ∙ ap (λ r. and_then r k) p.2

-- the rules' answers by steps
both_counts : {X : Type 0} (p q : Bool) (f : LedgerFault) (x : X) (k : X → Answer) →
    cond (p || q) (Refused (refusal_of f)) (k x) ≡ and_then (cond p (Err f) (cond q (Err f) (Ok x))) k
both_counts true q f x k = refl
both_counts false true f x k = refl
both_counts false false f x k = refl

none_left : {X : Type 0} (p : Bool) (f : LedgerFault) (x : X) (k : X → Answer) → cond p (Refused (refusal_of f)) (k x) ≡ and_then (cond p (Err f) (Ok x)) k
none_left true f x k = refl
none_left false f x k = refl

module _ (F : Figures) (b : Book) (t : ℕ) where
  abbrev pub on_begin : ℕ → Transaction → Answer
  on_begin v y = cond (is_volume b v) (Done F.worst) (refused_by_tree 12 v 0)

  begin_by : (v : ℕ) (x : Transaction) → to_begin F b t v x ≡ and_then (step_of t x (Begin v)) (on_begin v)
  begin_by v Idle = refl
  begin_by v (Created u) = refl
  begin_by v (Held u w f) = refl
  begin_by v (Assigned u w f) = refl

  pub begin_steps : (v : ℕ) → answer F b (begin t v) ≡ of_transaction t (and_then (step_of t (transaction b t) (Begin v)) (on_begin v))
  begin_steps v = ap (of_transaction t) (begin_by v (transaction b t))

  abbrev pub estimated : Transaction → Answer
  estimated y = Done (estimate F (writes_of y))

  writes_by : (n : ℕ) (x : Transaction) → to_hold_writes F t n x ≡ and_then (step_of t x (HoldWrites n)) estimated
  writes_by n Idle = refl
  writes_by n (Created v) =
      ap (λ (m : ℕ). cond (eqb n 0 || ltb 64 (0 + n)) (refused 7 t 0) (Done (estimate F m))) (sym (zero-add n))
      ∙ both_counts (eqb n 0) (ltb 64 (0 + n)) (BadCount t 0) (Held v (0 + n) 0) estimated
  writes_by n (Held v w f) = both_counts (eqb n 0) (ltb 64 (w + n)) (BadCount t w) (Held v (w + n) f) estimated
  writes_by n (Assigned v w f) = refl

  pub hold_writes_steps : (n : ℕ) → answer F b (hold_writes t n) ≡ of_transaction t (and_then (step_of t (transaction b t) (HoldWrites n)) estimated)
  hold_writes_steps n = ap (of_transaction t) (writes_by n (transaction b t))

  frees_by : (n : ℕ) (x : Transaction) → to_hold_frees F t n x ≡ and_then (step_of t x (HoldFrees n)) estimated
  frees_by n Idle = refl
  frees_by n (Created v) = both_counts (eqb n 0) (ltb 64 (0 + n)) (BadCount t 0) (Held v 0 (0 + n)) estimated
  frees_by n (Held v w f) = both_counts (eqb n 0) (ltb 64 (f + n)) (BadCount t f) (Held v w (f + n)) estimated
  frees_by n (Assigned v w f) = refl

  pub hold_frees_steps : (n : ℕ) → answer F b (hold_frees t n) ≡ of_transaction t (and_then (step_of t (transaction b t) (HoldFrees n)) estimated)
  hold_frees_steps n = ap (of_transaction t) (frees_by n (transaction b t))

  abbrev pub granted : Transaction → Answer
  granted y = unless_short (walk (room F) (rows F b) (volume_of y) (pos (estimate F (writes_of y)))) (Done (estimate F (writes_of y)))

  assign_by : (x : Transaction) → to_assign F b t x ≡ and_then (step_of t x Assign) granted
  assign_by Idle = refl
  assign_by (Created v) = refl
  assign_by (Held v w f) = refl
  assign_by (Assigned v w f) = refl

  pub assign_steps : answer F b (assign t) ≡ of_transaction t (and_then (step_of t (transaction b t) Assign) granted)
  assign_steps = ap (of_transaction t) (assign_by (transaction b t))

  abort_by : (x : Transaction) → to_abort F t x ≡ and_then (step_of t x Abort) (λ y. estimated x)
  abort_by Idle = refl
  abort_by (Created v) = refl
  abort_by (Held v w f) = refl
  abort_by (Assigned v w f) = refl

  pub abort_steps : answer F b (abort t) ≡ of_transaction t (and_then (step_of t (transaction b t) Abort) (λ y. estimated (transaction b t)))
  abort_steps = ap (of_transaction t) (abort_by (transaction b t))

  commit_by : (x : Transaction) → to_commit F t x ≡ and_then (step_of t x Commit) (λ y. estimated x)
  commit_by Idle = refl
  commit_by (Created v) = refl
  commit_by (Held v w f) = refl
  commit_by (Assigned v w f) = refl

  pub commit_steps : answer F b (commit t) ≡ of_transaction t (and_then (step_of t (transaction b t) Commit) (λ y. estimated (transaction b t)))
  commit_steps = ap (of_transaction t) (commit_by (transaction b t))

  -- a record below the volume's end
  abbrev pub on_record : ℕ → Answer → Transaction → Answer
  on_record r accepted y = cond (ltb r (records b (volume_of y))) accepted (refused 9 r (records b (volume_of y)))

  write_by : (r s : ℕ) (x : Transaction) → to_write F b t r s x ≡ and_then (step_of t x Write) (on_record r (cond (leb s 16) (Done (F.cost s)) (refused 10 s 16)))
  write_by r s Idle = refl
  write_by r s (Created v) = refl
  write_by r s (Held v w f) = refl
  write_by r s (Assigned v w f) = none_left (eqb w 0) (NoneLeft t) (Assigned v (w - 1) f) _

  pub write_steps : (r s : ℕ) →
      answer F b (write t r s) ≡ of_transaction t (and_then (step_of t (transaction b t) Write) (on_record r (cond (leb s 16) (Done (F.cost s)) (refused 10 s 16))))
  write_steps r s = ap (of_transaction t) (write_by r s (transaction b t))

  abbrev pub freed : ℕ → Transaction → Answer
  freed r y = on_record r (Done (units b (volume_of y) r)) y

  free_by : (r : ℕ) (x : Transaction) → to_free b t r x ≡ and_then (step_of t x Free) (freed r)
  free_by r Idle = refl
  free_by r (Created v) = refl
  free_by r (Held v w f) = refl
  free_by r (Assigned v w f) = none_left (eqb f 0) (NoneLeft t) (Assigned v w (f - 1)) (freed r)

  pub free_steps : (r : ℕ) → answer F b (free t r) ≡ of_transaction t (and_then (step_of t (transaction b t) Free) (freed r))
  free_steps r = ap (of_transaction t) (free_by r (transaction b t))

-- where a step that is allowed leads
counted_ok : (p q : Bool) (f : LedgerFault) (x y : Transaction) → cond p (Err f) (cond q (Err f) (Ok x)) ≡ Ok y → y ≡ x
counted_ok true q f x y e = err_not_ok f y e
counted_ok false true f x y e = err_not_ok f y e
counted_ok false false f x y e = sym (ok_is x y e)

left_ok : (p : Bool) (f : LedgerFault) (x y : Transaction) → cond p (Err f) (Ok x) ≡ Ok y → y ≡ x
left_ok true f x y e = err_not_ok f y e
left_ok false f x y e = sym (ok_is x y e)

pub begun : (t v : ℕ) (x y : Transaction) → step_of t x (Begin v) ≡ Ok y → y ≡ Created v
begun t v Idle y e = sym (ok_is (Created v) y e)
begun t v (Created u) y e = err_not_ok _ y e
begun t v (Held u w f) y e = err_not_ok _ y e
begun t v (Assigned u w f) y e = err_not_ok _ y e

pub held_writes : (t n : ℕ) (x y : Transaction) → step_of t x (HoldWrites n) ≡ Ok y → y ≡ Held (volume_of x) (writes_of x + n) (frees_of x)
held_writes t n Idle y e = err_not_ok _ y e
held_writes t n (Created v) y e = counted_ok (eqb n 0) (ltb 64 (0 + n)) _ (Held v (0 + n) 0) y e
held_writes t n (Held v w f) y e = counted_ok (eqb n 0) (ltb 64 (w + n)) _ (Held v (w + n) f) y e
held_writes t n (Assigned v w f) y e = err_not_ok _ y e

pub held_frees : (t n : ℕ) (x y : Transaction) → step_of t x (HoldFrees n) ≡ Ok y → y ≡ Held (volume_of x) (writes_of x) (frees_of x + n)
held_frees t n Idle y e = err_not_ok _ y e
held_frees t n (Created v) y e = counted_ok (eqb n 0) (ltb 64 (0 + n)) _ (Held v 0 (0 + n)) y e
held_frees t n (Held v w f) y e = counted_ok (eqb n 0) (ltb 64 (f + n)) _ (Held v w (f + n)) y e
held_frees t n (Assigned v w f) y e = err_not_ok _ y e

pub assigned : (t : ℕ) (x y : Transaction) → step_of t x Assign ≡ Ok y →
    (x ≡ Held (volume_of x) (writes_of x) (frees_of x)) × (y ≡ Assigned (volume_of x) (writes_of x) (frees_of x))
assigned t Idle y e = err_not_ok _ y e
assigned t (Created v) y e = err_not_ok _ y e
assigned t (Held v w f) y e = (refl, sym (ok_is (Assigned v w f) y e))
assigned t (Assigned v w f) y e = err_not_ok _ y e

pub aborted : (t : ℕ) (x y : Transaction) → step_of t x Abort ≡ Ok y → y ≡ Idle
aborted t Idle y e = err_not_ok _ y e
aborted t (Created v) y e = sym (ok_is Idle y e)
aborted t (Held v w f) y e = sym (ok_is Idle y e)
aborted t (Assigned v w f) y e = err_not_ok _ y e

pub committed : (t : ℕ) (x y : Transaction) → step_of t x Commit ≡ Ok y → (x ≡ Assigned (volume_of x) (writes_of x) (frees_of x)) × (y ≡ Idle)
committed t Idle y e = err_not_ok _ y e
committed t (Created v) y e = err_not_ok _ y e
committed t (Held v w f) y e = err_not_ok _ y e
committed t (Assigned v w f) y e = (refl, sym (ok_is Idle y e))

pub spent_write : (t : ℕ) (x y : Transaction) → step_of t x Write ≡ Ok y →
    (x ≡ Assigned (volume_of x) (writes_of x) (frees_of x)) × (y ≡ Assigned (volume_of x) (writes_of x - 1) (frees_of x))
spent_write t Idle y e = err_not_ok _ y e
spent_write t (Created v) y e = err_not_ok _ y e
spent_write t (Held v w f) y e = err_not_ok _ y e
spent_write t (Assigned v w f) y e = (refl, left_ok (eqb w 0) _ (Assigned v (w - 1) f) y e)

pub spent_free : (t : ℕ) (x y : Transaction) → step_of t x Free ≡ Ok y →
    (x ≡ Assigned (volume_of x) (writes_of x) (frees_of x)) × (y ≡ Assigned (volume_of x) (writes_of x) (frees_of x - 1))
spent_free t Idle y e = err_not_ok _ y e
spent_free t (Created v) y e = err_not_ok _ y e
spent_free t (Held v w f) y e = err_not_ok _ y e
spent_free t (Assigned v w f) y e = (refl, left_ok (eqb f 0) _ (Assigned v w (f - 1)) y e)
