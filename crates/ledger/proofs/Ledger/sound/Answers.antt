use Rattle.ledger.proofs.Laws as laws
use Rattle.ledger.proofs.Ledger.sound.Goals as goal

pub returns-clause-each : goal.returns-clause-each
returns-clause-each g c = laws.sound_with c.args.self.now
