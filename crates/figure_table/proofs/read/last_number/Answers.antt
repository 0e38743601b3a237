-- The text is parsed.
use Rattle.std.proofs.Common.{arith, rules}
use Rattle.std.proofs.lemmas.Fmt.{parse-decimal}
use Rattle.figure_table.proofs.read.last_number.Goals as goal

pub returns : goal.returns
returns c n small e =
    let read = parse-decimal 16 n _ c.parse.result small (omega arith) e c.parse.ensures.value.0 in
    search rules
