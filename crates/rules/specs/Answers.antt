-- What each order is answered: the checks in rising number, the first that bites, and otherwise the value. No unit is seen here.
use Rattle.std.specs.Prelude.{ℕ, suc, ◌+◌, ◌-◌, Bool, cond, not, ◌&&◌, ◌||◌, List, [], ◌∷◌, drop, pos, Some, None, sum, count_by, Option, ◌==◌, nat_le, nat_lt}
use Rattle.orders.specs.declared.answer.Answer.{Answer}
use Rattle.orders.specs.declared.answer.Answer.TheVariants.{Done, Refused, Told}
use Rattle.orders.specs.declared.answer.Layer.TheVariants.{Transactions, Tree}
use Rattle.orders.specs.Meaning.{Meaning, folder, volume, quota, reserve, resize, begin, hold_writes, hold_frees, assign, abort, write, free, commit, turn, tell}
use Rattle.charges.specs.Amounts.{weight_of, reweighed}
use Rattle.charges.specs.Walk.{walk}
use Rattle.rules.specs.declared.state.Transaction.{Transaction}
use Rattle.rules.specs.declared.state.Transaction.TheVariants.{Idle, Created, Held, Assigned}
use Rattle.rules.specs.Figures.{Figures, room}
use Rattle.rules.specs.Book.{Book, dataset, transaction, made, is_folder, is_volume, records, units, record_units, deferred, all_deferred, is_assigned, state_number, estimate, unspent_grants, rows, charge, weight}

-- refused by the transactions, numbers 5 to 11, and by the tree, 12 to 17: with an item and an amount
abbrev pub refused : ℕ → ℕ → ℕ → Answer
refused n i a = Refused (record { number = n; layer = Transactions; item = i; amount = a })

abbrev pub refused_by_tree : ℕ → ℕ → ℕ → Answer
refused_by_tree n i a = Refused (record { number = n; layer = Tree; item = i; amount = a })

abbrev pub wrong_state : ℕ → Transaction → Answer
wrong_state t s = refused 6 t (state_number s)

-- a walk that names a dataset with its shortfall refuses
abbrev pub unless_short : Option (ℕ × ℕ) → Answer → Answer
unless_short None granted = granted
unless_short (Some short) granted = refused_by_tree 17 short.0 short.1

-- a number of records that a volume may have
abbrev pub records_fit : ℕ → Bool
records_fit n = nat_lt 0 n && nat_le n 64

-- quotas and reservations are set of any dataset but the root
abbrev pub is_settable : Book → ℕ → Bool
is_settable b d = nat_lt 0 d && nat_lt d (made b)

abbrev pub to_quota : Figures → Book → ℕ → ℕ → Answer
to_quota F b d u = cond (not (u == 0) && nat_lt u (weight F b d)) (refused_by_tree 15 d (weight F b d - u)) (Done (charge F b d))

abbrev pub to_reserve : Figures → Book → ℕ → ℕ → Answer
to_reserve F b d u =
    cond (not ((dataset b d).quota == 0) && nat_lt (dataset b d).quota u) (refused_by_tree 16 d (u - (dataset b d).quota))
    (unless_short (walk (room F) (rows F b) (dataset b d).parent (reweighed (charge F b d) (dataset b d).reservation u))
    (Done (weight_of (charge F b d) u)))

abbrev pub to_begin : Figures → Book → ℕ → ℕ → Transaction → Answer
to_begin F b t v Idle = cond (is_volume b v) (Done F.worst) (refused_by_tree 12 v 0)
to_begin F b t v (Created u) = wrong_state t (Created u)
to_begin F b t v (Held u w f) = wrong_state t (Held u w f)
to_begin F b t v (Assigned u w f) = wrong_state t (Assigned u w f)

-- n more of those held of one sort: at least one, and together at most 64
abbrev pub counted : ℕ → ℕ → ℕ → Answer → Answer
counted t held n accepted = cond (n == 0 || nat_lt 64 (held + n)) (refused 7 t held) accepted

abbrev pub to_hold_writes : Figures → ℕ → ℕ → Transaction → Answer
to_hold_writes F t n Idle = wrong_state t Idle
to_hold_writes F t n (Created v) = counted t 0 n (Done (estimate F n))
to_hold_writes F t n (Held v w f) = counted t w n (Done (estimate F (w + n)))
to_hold_writes F t n (Assigned v w f) = wrong_state t (Assigned v w f)

abbrev pub to_hold_frees : Figures → ℕ → ℕ → Transaction → Answer
to_hold_frees F t n Idle = wrong_state t Idle
to_hold_frees F t n (Created v) = counted t 0 n (Done (estimate F 0))
to_hold_frees F t n (Held v w f) = counted t f n (Done (estimate F w))
to_hold_frees F t n (Assigned v w f) = wrong_state t (Assigned v w f)

abbrev pub to_assign : Figures → Book → ℕ → Transaction → Answer
to_assign F b t Idle = wrong_state t Idle
to_assign F b t (Created v) = wrong_state t (Created v)
to_assign F b t (Held v w f) = unless_short (walk (room F) (rows F b) v (pos (estimate F w))) (Done (estimate F w))
to_assign F b t (Assigned v w f) = wrong_state t (Assigned v w f)

abbrev pub to_abort : Figures → ℕ → Transaction → Answer
to_abort F t Idle = wrong_state t Idle
to_abort F t (Created v) = Done (estimate F 0)
to_abort F t (Held v w f) = Done (estimate F w)
to_abort F t (Assigned v w f) = wrong_state t (Assigned v w f)

-- an order on record r, where n are left of its sort
abbrev pub on_record : Book → ℕ → ℕ → ℕ → ℕ → Answer → Answer
on_record b t v n r accepted = cond (n == 0) (refused 8 t 0) (cond (nat_lt r (records b v)) accepted (refused 9 r (records b v)))

abbrev pub to_write : Figures → Book → ℕ → ℕ → ℕ → Transaction → Answer
to_write F b t r s Idle = wrong_state t Idle
to_write F b t r s (Created v) = wrong_state t (Created v)
to_write F b t r s (Held v w f) = wrong_state t (Held v w f)
to_write F b t r s (Assigned v w f) = on_record b t v w r (cond (nat_le s 16) (Done (F.cost s)) (refused 10 s 16))

abbrev pub to_free : Book → ℕ → ℕ → Transaction → Answer
to_free b t r Idle = wrong_state t Idle
to_free b t r (Created v) = wrong_state t (Created v)
to_free b t r (Held v w f) = wrong_state t (Held v w f)
to_free b t r (Assigned v w f) = on_record b t v f r (Done (units b v r))

abbrev pub to_commit : Figures → ℕ → Transaction → Answer
to_commit F t Idle = wrong_state t Idle
to_commit F t (Created v) = wrong_state t (Created v)
to_commit F t (Held v w f) = wrong_state t (Held v w f)
to_commit F t (Assigned v w f) = Done (estimate F w)

-- the number of the first assigned transaction, of those from t on
abbrev pub first_assigned : ℕ → List Transaction → ℕ
first_assigned t [] = t
first_assigned t (x ∷ xs) = cond (is_assigned x) t (first_assigned (suc t) xs)

abbrev pub to_turn : Book → Answer
to_turn b =
    cond (count_by is_assigned b.transactions == 0) (Done (all_deferred b))
    (refused 11 (first_assigned 0 b.transactions) (count_by is_assigned b.transactions))

abbrev pub to_tell : Figures → Book → ℕ → Answer
to_tell F b d =
    Told
    (record {
      name = (dataset b d).contents.name;
      charge = charge F b d;
      record_units = record_units b d;
      deferred_units = deferred b d;
      unspent_grants = unspent_grants F b d;
    })

-- there are 32 transactions
abbrev pub of_transaction : ℕ → Answer → Answer
of_transaction t others = cond (nat_lt t 32) others (refused 5 t 0)

-- a new dataset under p, of which there are at most 64
abbrev pub to_make : Book → ℕ → Answer → Answer
to_make b p others = cond (is_folder b p) (cond (nat_lt (made b) 64) others (refused_by_tree 13 0 64)) (refused_by_tree 12 p 0)

abbrev pub answer : Figures → Book → Meaning → Answer
answer F b (folder p n) = to_make b p (Done (made b))
answer F b (volume p r n) = to_make b p (cond (records_fit r) (Done (made b)) (refused_by_tree 14 r 0))
answer F b (quota d u) = cond (is_settable b d) (to_quota F b d u) (refused_by_tree 12 d 0)
answer F b (reserve d u) = cond (is_settable b d) (to_reserve F b d u) (refused_by_tree 12 d 0)
answer F b (resize v n) =
    cond (is_volume b v) (cond (records_fit n) (Done (sum (drop n (dataset b v).contents.units))) (refused_by_tree 14 n 0)) (refused_by_tree 12 v 0)
answer F b (begin t v) = of_transaction t (to_begin F b t v (transaction b t))
answer F b (hold_writes t n) = of_transaction t (to_hold_writes F t n (transaction b t))
answer F b (hold_frees t n) = of_transaction t (to_hold_frees F t n (transaction b t))
answer F b (assign t) = of_transaction t (to_assign F b t (transaction b t))
answer F b (abort t) = of_transaction t (to_abort F t (transaction b t))
answer F b (write t r s) = of_transaction t (to_write F b t r s (transaction b t))
answer F b (free t r) = of_transaction t (to_free b t r (transaction b t))
answer F b (commit t) = of_transaction t (to_commit F t (transaction b t))
answer F b turn = to_turn b
answer F b (tell d) = cond (nat_lt d (made b)) (to_tell F b d) (refused_by_tree 12 d 0)
