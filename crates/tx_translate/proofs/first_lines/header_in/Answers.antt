use Rattle.std.proofs.Common.{List, ℕ, subst}
use Rattle.tx_translate.proofs.FirstLines.{spells_header}
use Rattle.tx_translate.specs.Meant.{meant_of}
use Rattle.tx_translate.specs.MeantLines.{left_of, IsNextLine}
use Rattle.tx_translate.proofs.first_lines.header_in.Goals as goal

pub returns-in-Some : goal.returns-in-Some
returns-in-Some c =
    let head = rw c.in-Some.is at c.in_ok-header.ensures in
    let next = subst (λ (text : List ℕ). IsNextLine text c.cut.result.0 (left_of c.cut.result.1)) c.of.ensures.left c.cut.ensures.line in
    spells_header c.args.kind (meant_of c.args.text.now) c.in-Some.header c.cut.result.0 (left_of c.cut.result.1) next head.1 head.0 head.2
