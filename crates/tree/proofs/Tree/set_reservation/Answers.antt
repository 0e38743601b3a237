use Rattle.std.proofs.Common.{◌≡◌, rules}
use Rattle.tree.specs.Parts.{kinds_of, rows_of}
use Rattle.tree.specs.Answers.{node_in}
use Rattle.tree.proofs.Tree.set_reservation.Goals as goal

pub returns-clause-answer : goal.returns-clause-answer
returns-clause-answer c =
    let node : c.in_ok-node.node ≡ node_in (rows_of c.args.self.now) (kinds_of c.args.self.now) c.args.d = search rules in
    search (rules, node)
