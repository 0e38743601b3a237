use Rattle.std.proofs.Common.{◌≡◌, ◌-◌, length}
use Rattle.reader.specs.Decode.{place_of, script_of}
use Rattle.orderdump.proofs.list.Given as goal

abbrev pub invariant-orders : goal.invariant-orders
invariant-orders l = script_of l.reader ≡ l.script

abbrev pub decreases-orders : goal.decreases-orders
decreases-orders l = length l.script - place_of l.reader
