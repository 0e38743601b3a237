use Rattle.ledger.proofs.Laws as laws
use Rattle.ledger.proofs.Ledger.obey.Goals as goal

pub returns-clause-sound : goal.returns-clause-sound
returns-clause-sound g c = laws.sound' c.args.self.now _ _ _ _ _ c.carry_out.ensures

pub returns-clause-law : goal.returns-clause-law
returns-clause-law g c = laws.law c.args.self.now _ _ _ _ _ c.carry_out.ensures

pub returns-clause-untouched : goal.returns-clause-untouched
returns-clause-untouched g c =
    let d = c.carry_out.ensures in
    laws.untouched_by c.args.self.now c.carry_out.new.self _ d.tally_left d.marks_left d.policy_same
