-- A byte that is that of no kind has no body in the order table.
use Rattle.std.proofs.Common.{rules}
use Rattle.orders.specs.declared.order.OrderKind.TheVariants.{Folder, Volume, Quota, Reserve, Resize, Begin, HoldWrites, HoldFrees, Assign, Abort, Write, Free, Commit, Turn, Tell}
use Rattle.reader.proofs.cursor.Cursor.order.Goals as goal

pub returns-in_err-try_from-clause-value : goal.returns-in_err-try_from-clause-value
returns-in_err-try_from-clause-value c =
    let other = c.in_err-try_from.ensures.1 in
    let not_folder = other Folder in
    let not_volume = other Volume in
    let not_quota = other Quota in
    let not_reserve = other Reserve in
    let not_resize = other Resize in
    let not_begin = other Begin in
    let not_hold_writes = other HoldWrites in
    let not_hold_frees = other HoldFrees in
    let not_assign = other Assign in
    let not_abort = other Abort in
    let not_write = other Write in
    let not_free = other Free in
    let not_commit = other Commit in
    let not_turn = other Turn in
    let not_tell = other Tell in
    search rules
