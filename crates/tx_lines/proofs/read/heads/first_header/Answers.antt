use Rattle.tx_lines.specs.Lines.{header_text}
use Rattle.tx_lines.proofs.LineEnds.{line_spelled}
use Rattle.tx_lines.proofs.read.heads.first_header.Goals as goal

pub returns-in-Some : goal.returns-in-Some
returns-in-Some c = record {
  spelled = line_spelled c.args.text.now c.in_ok-line.line.now (header_text c.args.kind c.in-Some.header) c.in_ok-line.rest.now c.in_ok-line.ensures c.in-Some.ensures.found;
  fits = c.in-Some.ensures.fits;
}
