use Rattle.std.proofs.Common.{◌≡◌, ◌+◌, ◌-◌, ◌++◌, length, take, vec_capacity}
use Rattle.tx_change.specs.Exchange.{applied, exchanged, sizes_of, AreWithin}
use Rattle.tx_change.specs.Stacks.{top_of}
use Rattle.tx_change.proofs.log.move_last_forward.Given as goal

abbrev pub invariant-loop-done : goal.invariant-loop-done
invariant-loop-done l = record {
  parts : applied l.parts (top_of (l.count - l._done) l.stack.items) ≡ applied l.initial.parts (top_of l.count l.initial.stack.items);
  changes : l.changes.items ++ exchanged l.parts (top_of (l.count - l._done) l.stack.items)
      ≡ l.initial.changes.items ++ exchanged l.initial.parts (top_of l.count l.initial.stack.items);
  named : AreWithin (sizes_of l.initial.parts) (top_of (l.count - l._done) l.stack.items);
  sized : sizes_of l.parts ≡ sizes_of l.initial.parts;
  stack : l.stack.items ≡ take (length l.initial.stack.items - l._done) l.initial.stack.items;
  long : length l.stack.items ≡ length l.initial.stack.items - l._done;
  room : length l.changes.items ≡ length l.initial.changes.items + l._done;
  places : vec_capacity l.changes ≡ vec_capacity l.initial.changes;
  capacity : vec_capacity l.stack ≡ vec_capacity l.initial.stack;
}
