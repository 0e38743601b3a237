use Rattle.std.proofs.Common.{◌≡◌, ◌+◌, ◌-◌, ◌≤◌}
use Rattle.marks.specs.Sound.{pool_of, holders_of, size_of}
use Rattle.rules.specs.Marks.{defer_from}
use Rattle.ledger.proofs.units.defer_from.Given as goal

abbrev pub invariant-loop-number : goal.invariant-loop-number
invariant-loop-number g l =
    (holders_of l.marks ≡ defer_from l.volume l.start (l.number - l.start) (holders_of l.initial.marks))
    × (pool_of l.marks ≡ pool_of l.initial.marks)
    × (size_of l.marks ≡ size_of l.initial.marks)
    × (l.number ≤ l.start + (l.end - l.start))
