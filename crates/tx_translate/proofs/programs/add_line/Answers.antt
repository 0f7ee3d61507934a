use Rattle.std.proofs.Common.{◌∙◌, ap, arith, length, subst}
use Rattle.std.specs.List.{IsDistinct}
use Rattle.std.specs.Map.{keys_of}
use Rattle.tx_lines.proofs.ProgramParts.{few_lines}
use Rattle.tx_lines.specs.Programs.{same_name}
use Rattle.tx_translate.proofs.FirstLines.{program_lines}
use Rattle.tx_translate.specs.MeantLines.{line_of}
use Rattle.tx_translate.proofs.programs.add_line.Goals as goal

pub push_line-requires-clause-few : goal.push_line-requires-clause-few
push_line-requires-clause-few c = few_lines c.args.version c.args.lines.now.items c.requires.good

pub returns-in-Ok-clause-good : goal.returns-in-Ok-clause-good
returns-in-Ok-clause-good c = λ is.
    let of = c.in-Ok.ensures in
    let few = c.are_few.ensures is in
    let more = c.push_line.new.lines.items in
    let distinct = subst (λ labels. IsDistinct same_name (keys_of labels)) of.labels of.distinct in
    program_lines c.args.version (line_of c.args.line) c.args.lines.now.items more c.len.result c.len-in-Ok.result c.requires.good (rw c.meaning-meaning.ensures at of.added) distinct
    (omega (arith, c.len.ensures)) (c.len-in-Ok.ensures.len ∙ ap length of.labels) few.0 few.1
