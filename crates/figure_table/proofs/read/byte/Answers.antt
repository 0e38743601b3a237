-- The text is parted at its first space, which stands after the number's digits.
use Rattle.std.proofs.Common.{rules}
use Rattle.figure_table.proofs.Numbers.{byte_parted, byte_read}
use Rattle.figure_table.proofs.read.byte.Goals as goal

pub returns-in_err-word : goal.returns-in_err-word
returns-in_err-word c n after small e = absurd (byte_parted n after small e c.in_err-word.ensures.cases)

pub returns-in_err-ok : goal.returns-in_err-ok
returns-in_err-ok c n after small e =
    let read = byte_read n after c.in_ok-word.word c.in_ok-word.rest c.parse.result small e c.in_ok-word.ensures.cases c.parse.ensures.value.0 in
    search rules

pub returns : goal.returns
returns c n after small e =
    let read = byte_read n after c.in_ok-word.word c.in_ok-word.rest c.parse.result small e c.in_ok-word.ensures.cases c.parse.ensures.value.0 in
    search rules
