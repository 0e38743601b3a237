use Rattle.ledger.proofs.Serving.{through-sound}
use Rattle.runner.proofs.run.run.Goals as goal

pub returns-clause-sound : goal.returns-clause-sound
returns-clause-sound g c = through-sound c.args.ledger.now _ _ c.run_orders-stop.ensures.through
