use Rattle.std.proofs.Common.{◌≡◌, ◌<◌, length, arith, rules}
use Rattle.charges.specs.Tree.{row}
use Rattle.tree.specs.Parts.{rows_of}
use Rattle.tree.proofs.Granted.{lower-within}
use Rattle.tree.proofs.Tree.lower.Goals as goal

pub put_own-requires-clause-within : goal.put_own-requires-clause-within
put_own-requires-clause-within c =
    let inside : c.args.d < length (rows_of c.args.self.now) = search rules in
    let own : c.in_ok-node.node.row.own ≡ (row (rows_of c.args.self.now) c.args.d).own = search rules in
    lower-within c.args.self.now c.args.d c.saturating_sub-own.result inside
    (omega (arith, c.saturating_sub-own.ensures, own))
