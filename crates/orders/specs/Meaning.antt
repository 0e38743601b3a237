-- What an order says, apart from where its name lies in memory or in a script.
use Rattle.std.specs.Prelude.{ℕ, List, Some, None, Option}
use Rattle.orders.specs.declared.order.Order.{Order}
use Rattle.orders.specs.declared.order.Order.TheVariants.{Folder, Volume, Quota, Reserve, Resize, Begin, HoldWrites, HoldFrees, Assign, Abort, Write, Free, Commit, Turn, Tell}

pub data Meaning : Type 0 where
  folder : (parent : ℕ) (name : List ℕ) → Meaning
  volume : (parent : ℕ) (records : ℕ) (name : List ℕ) → Meaning
  quota : (dataset : ℕ) (units : ℕ) → Meaning
  reserve : (dataset : ℕ) (units : ℕ) → Meaning
  resize : (volume : ℕ) (records : ℕ) → Meaning
  begin : (transaction : ℕ) (volume : ℕ) → Meaning
  hold_writes : (transaction : ℕ) (count : ℕ) → Meaning
  hold_frees : (transaction : ℕ) (count : ℕ) → Meaning
  assign : (transaction : ℕ) → Meaning
  abort : (transaction : ℕ) → Meaning
  write : (transaction : ℕ) (item : ℕ) (size : ℕ) → Meaning
  free : (transaction : ℕ) (item : ℕ) → Meaning
  commit : (transaction : ℕ) → Meaning
  turn : Meaning
  tell : (dataset : ℕ) → Meaning

abbrev pub meaning : Order → Meaning
meaning (Folder p n) = folder p n.bytes.now
meaning (Volume p r n) = volume p r n.bytes.now
meaning (Quota d u) = quota d u
meaning (Reserve d u) = reserve d u
meaning (Resize v r) = resize v r
meaning (Begin t v) = begin t v
meaning (HoldWrites t c) = hold_writes t c
meaning (HoldFrees t c) = hold_frees t c
meaning (Assign t) = assign t
meaning (Abort t) = abort t
meaning (Write t r s) = write t r s
meaning (Free t r) = free t r
meaning (Commit t) = commit t
meaning Turn = turn
meaning (Tell d) = tell d

-- where the order's name begins in the script, if it has a name
abbrev pub name_place : Order → Option ℕ
name_place (Folder p n) = Some n.place
name_place (Volume p r n) = Some n.place
name_place (Quota d u) = None
name_place (Reserve d u) = None
name_place (Resize v r) = None
name_place (Begin t v) = None
name_place (HoldWrites t c) = None
name_place (HoldFrees t c) = None
name_place (Assign t) = None
name_place (Abort t) = None
name_place (Write t r s) = None
name_place (Free t r) = None
name_place (Commit t) = None
name_place Turn = None
name_place (Tell d) = None
