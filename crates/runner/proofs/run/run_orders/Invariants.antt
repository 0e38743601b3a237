use Rattle.std.proofs.Common.{◌≡◌, ◌-◌, length}
use Rattle.reader.specs.Decode.{place_of, script_of}
use Rattle.runner.proofs.Running.{Running}
use Rattle.runner.proofs.run.run_orders.Given as goal

abbrev pub invariant-orders : goal.invariant-orders
invariant-orders g l = record {
  same : script_of l.reader ≡ l.initial.script;
  named : l.out.bytes.ghost_name ≡ l.initial.out.bytes.ghost_name;
  run : Running l.initial.ledger l.ledger l.initial.script l.initial.out.bytes.now (place_of l.reader) l.out.answered l.out.written l.out.bytes.now;
}

abbrev pub decreases-orders : goal.decreases-orders
decreases-orders g l = length l.initial.script - place_of l.reader
