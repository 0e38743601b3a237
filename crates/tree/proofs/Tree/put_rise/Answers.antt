use Rattle.std.proofs.Common.{ℕ, ◌+◌, sym, ap, subst, arith}
use Rattle.charges.specs.declared.Row.{Row}
use Rattle.charges.specs.Tree.{WithinLimits, with_own}
use Rattle.tree.specs.Parts.{room_of, rows_of}
use Rattle.tree.proofs.Granted.{raise_within, raise_sum}
use Rattle.tree.proofs.Tree.put_rise.Goals as goal

pub overflow_add-own : goal.overflow_add-own
overflow_add-own c =
    omega (
      arith,
      raise_sum c.args.self.now c.args.d c.args.units c.requires.inside c.requires.granted,
      ap (λ (r : Row). r.own) c.node.ensures.row,
    )

pub put_own-requires-clause-within : goal.put_own-requires-clause-within
put_own-requires-clause-within c =
    subst (λ (n : ℕ). WithinLimits (room_of c.args.self.now) (with_own (rows_of c.args.self.now) c.args.d (n + c.args.units)))
    (sym (ap (λ (r : Row). r.own) c.node.ensures.row))
    (raise_within c.args.self.now c.args.d c.args.units c.requires.inside c.requires.granted)
