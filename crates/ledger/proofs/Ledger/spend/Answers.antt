use Rattle.std.proofs.Common.{◌≡◌, ℕ, ◌<◌, refl, arith}
use Rattle.ledger.proofs.Laws as laws
use Rattle.ledger.proofs.Moves as moves
use Rattle.ledger.proofs.Ledger.spend.Goals as goal

-- a size that was checked has a cost
pub unreachable-requires : goal.unreachable-requires
unreachable-requires g c =
    let small = moves.size_fits c.args.self.now c.args.t c.args.number c.args.size c.args.volume _ c.requires refl in
    let large : 16 < c.args.size = c.in_default.ensures.0 in
    omega arith

-- a write that is accepted finds its units
pub unreachable-requires-in_default-take : goal.unreachable-requires-in_default-take
unreachable-requires-in_default-take g c =
    let found = moves.finds-units c.args.self.now c.args.t c.args.number c.args.size c.args.volume c.in-Ok.cost c.requires c.in-Ok.ensures.1
    c.defer.new.self c.defer.ensures.kept in
    let a = c.take.ensures.answered in
    let b = c.in_default-take.is in
    let z : ◌≡◌ {A = ℕ} 0 1 = cc in
    omega arith

pub wrote-requires-clause-cheap : goal.wrote-requires-clause-cheap
wrote-requires-clause-cheap g c =
    moves.cheap c.args.self.now c.args.t c.args.number c.args.size c.args.volume c.in-Ok.cost c.requires c.in-Ok.ensures.1

pub invariant_of-self : goal.invariant_of-self
invariant_of-self g c =
    let e = c.defer.ensures in
    let k = c.in-Ok-take.ensures in
    record {
      sound = laws.kept c.args.self.now _ _ _ _ _
          (moves.writing c.args.self.now c.args.t c.args.number c.args.size c.args.volume c.in-Ok.cost c.requires c.in-Ok.ensures.1
          c.wrote.new.self c.defer.new.self c.take.new.self (omega arith, omega arith, omega arith) c.wrote.ensures.same c.wrote.ensures.booked
          e.holders e.kept e.sized k.took.0 k.sized k.lent);
    }
