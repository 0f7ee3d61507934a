use Rattle.std.proofs.Common.{◌<◌, ◌≤◌, drop, length, arith, ◌∙◌}
use Rattle.std.proofs.lemmas.List.{take_rest, length-drop}
use Rattle.tx_lines.proofs.Written.{more_written}
use Rattle.tx_lines.proofs.ends.whole.write_whole.Goals as goal

pub loop-at-preserved-in-Bytes : goal.loop-at-preserved-in-Bytes
loop-at-preserved-in-Bytes g c =
    let did = c.in-Bytes.ensures in
    let so_far = c.loop-at.invariant in
    let more : c.in-Bytes.count ≤ length (drop c.loop-at.at c.args.text.now) = rw take_rest at did.0 in
    let some : 0 < c.in-Bytes.count = omega (arith, c.in-Bytes.count-test.1) in
    record {
      written = more_written (g.S.Sink.written c.args.sink.now) (g.S.Sink.written c.loop-at.sink) (g.S.Sink.written c.write.new.self) c.args.text.now c.loop-at.at c.in-Bytes.count so_far.written did.1;
      inside = omega (arith, length-drop c.loop-at.at c.args.text.now);
      few = so_far.few;
      counts = did.3 some ∙ so_far.counts;
    }
