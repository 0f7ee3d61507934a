use Rattle.std.proofs.Common.{◌≡◌, ◌+◌, ◌-◌, ◌≤◌, length, take}
use Rattle.std.specs.Io.KnownBytes.{Appends}
use Rattle.tx_lines.proofs.ends.whole.write_whole.Given as goal

abbrev pub invariant-loop-at : goal.invariant-loop-at
invariant-loop-at g l = record {
  written : Appends (g.S.Sink.written l.initial.sink) (g.S.Sink.written l.sink) (take l.at l.text);
  inside : l.at ≤ length l.text;
  few : l.interruptions ≤ 1000;
  counts : g.S.Sink.counts l.sink ≡ record (g.S.Sink.counts l.initial.sink) { again = (g.S.Sink.counts l.initial.sink).again + l.interruptions };
}

abbrev pub decreases-loop-at : goal.decreases-loop-at
decreases-loop-at g l = length l.text + 1001 - l.at - l.interruptions
