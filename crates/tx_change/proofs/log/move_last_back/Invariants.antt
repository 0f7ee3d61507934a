use Rattle.std.proofs.Common.{◌≡◌, ◌+◌, ◌-◌, ◌++◌, length, drop, reverse, vec_capacity}
use Rattle.tx_change.specs.Exchange.{undone, reverted}
use Rattle.tx_change.proofs.log.move_last_back.Given as goal

abbrev pub invariant-loop-done : goal.invariant-loop-done
invariant-loop-done l = record {
  whole : l.changes.items ++ drop (length l.initial.changes.items - l._done) l.initial.changes.items ≡ l.initial.changes.items;
  long : length l.changes.items ≡ length l.initial.changes.items - l._done;
  parts : l.parts ≡ undone l.initial.parts (drop (length l.initial.changes.items - l._done) l.initial.changes.items);
  stack : l.stack.items ≡ l.initial.stack.items ++ reverse (reverted l.initial.parts (drop (length l.initial.changes.items - l._done) l.initial.changes.items));
  room : length l.stack.items ≡ length l.initial.stack.items + l._done;
  capacity : vec_capacity l.stack ≡ vec_capacity l.initial.stack;
}
