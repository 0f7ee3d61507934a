use Rattle.std.proofs.Common.{◌≡◌, ◌≤◌, ◌++◌, take, drop, vec_len}
use Rattle.tx_change.specs.Exchange.{undone, reverted, AreWithin, sizes_of}
use Rattle.tx_change.proofs.run.revert.Given as goal

abbrev pub invariant-loop-i : goal.invariant-loop-i
invariant-loop-i l = record {
  parts : undone l.parts (take l.i l.changes.items) ≡ undone l.initial.parts l.initial.changes.items;
  changes : reverted l.parts (take l.i l.changes.items) ++ drop l.i l.changes.items ≡ reverted l.initial.parts l.initial.changes.items;
  named : AreWithin (sizes_of l.initial.parts) (take l.i l.changes.items);
  sized : sizes_of l.parts ≡ sizes_of l.initial.parts;
  few : l.i ≤ vec_len l.changes;
}
