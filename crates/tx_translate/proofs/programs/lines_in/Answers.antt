use Rattle.std.proofs.Common.{rules}
use Rattle.tx_lines.specs.Programs.{line_text, AreLines, IsLineOf}
use Rattle.tx_translate.proofs.FirstLines.{one_more}
use Rattle.tx_translate.specs.MeantLines.{left_of}
use Rattle.tx_translate.proofs.programs.lines_in.Goals as goal

pub loop-line-preserved : goal.loop-line-preserved
loop-line-preserved c =
    let at = c.loop-line in
    let version = c.args.version in
    let of = c.in_ok-add_line.ensures in
    record {
      so = one_more line_text (AreLines version) (IsLineOf version) at.lines.items c.add_line.new.lines.items c.in-Some.line (left_of at.left) (left_of c.in-Some.rest) (left_of c.args.left)
          at.invariant.so c.in-Some.ensures.line (of.ended (search rules)) (of.added (search rules)) (of.good (search rules));
      labels = of.labels (search rules);
    }
