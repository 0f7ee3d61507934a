use Rattle.std.proofs.Common.{◌≡◌, ◌++◌, take, drop}
use Rattle.tx_change.specs.Exchange.{applied, exchanged, AreWithin, sizes_of}
use Rattle.tx_change.proofs.log.apply_from.Given as goal

abbrev pub invariant-loop-i : goal.invariant-loop-i
invariant-loop-i l = record {
  parts : applied l.parts (drop l.i l.changes.items) ≡ applied l.initial.parts (drop l.from l.initial.changes.items);
  changes : take l.i l.changes.items ++ exchanged l.parts (drop l.i l.changes.items) ≡ take l.from l.initial.changes.items ++ exchanged l.initial.parts (drop l.from l.initial.changes.items);
  named : AreWithin (sizes_of l.initial.parts) (drop l.i l.changes.items);
  sized : sizes_of l.parts ≡ sizes_of l.initial.parts;
}
