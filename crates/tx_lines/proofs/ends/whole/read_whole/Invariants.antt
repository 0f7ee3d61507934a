use Rattle.std.proofs.Common.{◌≡◌, ◌+◌, ◌-◌, ◌≤◌, length}
use Rattle.std.specs.Io.KnownBytes.{Consumes}
use Rattle.tx_lines.proofs.ends.whole.read_whole.Given as goal

abbrev pub invariant-loop-text : goal.invariant-loop-text
invariant-loop-text g l = record {
  read : Consumes (g.S.Source.left l.initial.source) (g.S.Source.left l.source) l.text.items;
  short : length l.text.items ≤ 1048576;
  few : l.interruptions ≤ 1000;
  counts : g.S.Source.counts l.source ≡ record (g.S.Source.counts l.initial.source) { again = (g.S.Source.counts l.initial.source).again + l.interruptions };
  room : length l.buffer ≡ 512;
}

abbrev pub decreases-loop-text : goal.decreases-loop-text
decreases-loop-text g l = 1049576 - length l.text.items - l.interruptions
