use Rattle.std.proofs.Common.{◌≡◌, Bool, List, sym, ap, ◌∙◌, subst}
use Rattle.ledger.specs.Parts.{pool_of}
use Rattle.ledger.specs.Serves.{planned}
use Rattle.setup.specs.Setups.{RunWith}
use Rattle.setup.proofs.Runs as runs
use Rattle.setup.proofs.calls.run_over.Goals as goal

pub returns : goal.returns
returns g c =
    let U = g.A.Allocator.units in
    let L = g.A.Allocator.lent in
    let m = c.make-ledger.ensures in
    let r = c.run-ended.ensures in
    let given : c.close-pool.result.0 ≡ pool_of c.run-ended.new.ledger = ap (λ (x : g.row.A.Denot × g.row.P.Denot). x.0) c.close-pool.ensures in
    record {
      ran =
          subst (λ (us : List Bool). RunWith (planned g.P.CostPolicy (U c.args.pool) c.args.policy c.args.slop) c.args.script.now c.args.answers.now c.run-ended.new.answers us c.run-ended.result)
          (ap U (sym given))
          (runs.run_with c.make-ledger.result c.run-ended.new.ledger c.args.pool c.args.policy c.args.slop
          c.args.script.now c.args.answers.now c.run-ended.new.answers c.run-ended.result m.made m.stands r.ended r.bytes r.within r.through);
      lent = ap L given ∙ r.through.lent ∙ ap L m.made.pool_is;
    }
