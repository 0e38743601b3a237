-- The state before and what is asked together decide the state after.
use Rattle.std.specs.Prelude.{ℕ, ◌+◌, ◌-◌, cond, List, Some, Ok, Err, Option, Result, ◌==◌, nat_lt, slice_index_or}
use Rattle.rules.specs.declared.state.Contents.{Contents}
use Rattle.rules.specs.declared.state.Transaction.{Transaction}
use Rattle.rules.specs.declared.state.Transaction.TheVariants.{Idle, Created, Held, Assigned}
use Rattle.tree.specs.declared.Tree.{Tree}
use Rattle.tree.specs.declared.fault.TreeFault.{TreeFault}
use Rattle.tree.specs.Parts.{rows_of, kinds_of}
use Rattle.tree.specs.Answers.{as_volume}
use Rattle.tally.specs.Joined.{contents_at}
use Rattle.tally.specs.declared.fault.LedgerFault.{LedgerFault}
use Rattle.tally.specs.declared.fault.LedgerFault.TheVariants.{NoSuchTransaction, WrongState, BadCount, NoneLeft, NoSuchRecord, InTree}
use Rattle.tally.specs.declared.step.Asked.{Asked}
use Rattle.tally.specs.declared.step.Change.{Change}
use Rattle.tally.specs.declared.step.Asked.TheVariants.{Begin, HoldWrites, HoldFrees, Assign, Abort, Write, Free, Commit}

-- n more of those held: at least one, and together at most 64
abbrev pub counted_or : {X : Type 0} → ℕ → ℕ → ℕ → X → Result X LedgerFault
counted_or t held n x = cond (n == 0) (Err (BadCount t held)) (cond (nat_lt 64 (held + n)) (Err (BadCount t held)) (Ok x))

-- one of those left
abbrev pub left_or : {X : Type 0} → ℕ → ℕ → X → Result X LedgerFault
left_or t left x = cond (left == 0) (Err (NoneLeft t)) (Ok x)

abbrev pub wrong : ℕ → Transaction → Result Transaction LedgerFault
wrong t x = Err (WrongState t x)

abbrev pub from_idle : ℕ → Asked → Result Transaction LedgerFault
from_idle t (Begin v) = Ok (Created v)
from_idle t (HoldWrites n) = wrong t Idle
from_idle t (HoldFrees n) = wrong t Idle
from_idle t Assign = wrong t Idle
from_idle t Abort = wrong t Idle
from_idle t Write = wrong t Idle
from_idle t Free = wrong t Idle
from_idle t Commit = wrong t Idle

abbrev pub from_created : ℕ → ℕ → Asked → Result Transaction LedgerFault
from_created t v (Begin u) = wrong t (Created v)
from_created t v (HoldWrites n) = counted_or t 0 n (Held v (0 + n) 0)
from_created t v (HoldFrees n) = counted_or t 0 n (Held v 0 (0 + n))
from_created t v Assign = wrong t (Created v)
from_created t v Abort = Ok Idle
from_created t v Write = wrong t (Created v)
from_created t v Free = wrong t (Created v)
from_created t v Commit = wrong t (Created v)

abbrev pub from_held : ℕ → ℕ → ℕ → ℕ → Asked → Result Transaction LedgerFault
from_held t v w f (Begin u) = wrong t (Held v w f)
from_held t v w f (HoldWrites n) = counted_or t w n (Held v (w + n) f)
from_held t v w f (HoldFrees n) = counted_or t f n (Held v w (f + n))
from_held t v w f Assign = Ok (Assigned v w f)
from_held t v w f Abort = Ok Idle
from_held t v w f Write = wrong t (Held v w f)
from_held t v w f Free = wrong t (Held v w f)
from_held t v w f Commit = wrong t (Held v w f)

abbrev pub from_assigned : ℕ → ℕ → ℕ → ℕ → Asked → Result Transaction LedgerFault
from_assigned t v w f (Begin u) = wrong t (Assigned v w f)
from_assigned t v w f (HoldWrites n) = wrong t (Assigned v w f)
from_assigned t v w f (HoldFrees n) = wrong t (Assigned v w f)
from_assigned t v w f Assign = wrong t (Assigned v w f)
from_assigned t v w f Abort = wrong t (Assigned v w f)
from_assigned t v w f Write = left_or t w (Assigned v (w - 1) f)
from_assigned t v w f Free = left_or t f (Assigned v w (f - 1))
from_assigned t v w f Commit = Ok Idle

abbrev pub step_of : ℕ → Transaction → Asked → Result Transaction LedgerFault
step_of t Idle a = from_idle t a
step_of t (Created v) a = from_created t v a
step_of t (Held v w f) a = from_held t v w f a
step_of t (Assigned v w f) a = from_assigned t v w f a

-- the state before and the state after
abbrev pub changed_by : Transaction → Result Transaction LedgerFault → Result Change LedgerFault
changed_by x (Ok y) = Ok (record { before = x; after = y })
changed_by x (Err f) = Err f

-- there are 32 transactions
abbrev pub change_of : List Transaction → ℕ → Asked → Result Change LedgerFault
change_of ts t a = cond (nat_lt t 32) (changed_by (slice_index_or ts t Idle) (step_of t (slice_index_or ts t Idle) a)) (Err (NoSuchTransaction t))

-- a refusal of the tree, with the transaction where the order has one
abbrev pub lifted : {X : Type 0} → Option ℕ → Result X TreeFault → Result X LedgerFault
lifted t (Ok x) = Ok x
lifted t (Err f) = Err (InTree f t)

-- a transaction's volume is one of the tree's
abbrev pub as_volume_of : Tree → ℕ → ℕ → Result (Unit {0}) LedgerFault
as_volume_of tree t v = lifted (Some t) (as_volume (rows_of tree) (kinds_of tree) v)

-- a record below the volume's end
abbrev pub record_or : List Contents → ℕ → ℕ → ℕ → Result (Unit {0}) LedgerFault
record_or contents t v r = cond (nat_lt r (contents_at contents v).records) (Ok tt) (Err (NoSuchRecord t r (contents_at contents v).records))
