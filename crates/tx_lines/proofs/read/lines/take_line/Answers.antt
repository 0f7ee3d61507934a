use Rattle.tx_lines.proofs.LineEnds.{line_found, line_none}
use Rattle.tx_lines.proofs.read.lines.take_line.Goals as goal

pub returns-in-Some-clause-line : goal.returns-in-Some-clause-line
returns-in-Some-clause-line c = (line_found c.args.text.now c.in-Some.line.now c.in-Some.rest.now c.in-Some.ensures).0

pub returns-in-Some-clause-rest : goal.returns-in-Some-clause-rest
returns-in-Some-clause-rest c = (line_found c.args.text.now c.in-Some.line.now c.in-Some.rest.now c.in-Some.ensures).1

pub returns-in-None-clause-line : goal.returns-in-None-clause-line
returns-in-None-clause-line c = (line_none c.args.text.now c.in-None.ensures).0

pub returns-in-None-clause-rest : goal.returns-in-None-clause-rest
returns-in-None-clause-rest c = (line_none c.args.text.now c.in-None.ensures).1
