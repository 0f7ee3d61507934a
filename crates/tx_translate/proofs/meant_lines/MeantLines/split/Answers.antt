use Rattle.std.proofs.Common.{◌≡◌, ◌∙◌, length, rules, sym}
use Rattle.std.proofs.lemmas.Bool.{both_ways}
use Rattle.tx_translate.specs.MeantLines.{left_of}
use Rattle.tx_translate.proofs.NextMeant.{nothing_left}
use Rattle.tx_translate.proofs.WordParts.{none_left}
use Rattle.tx_translate.proofs.meant_lines.MeantLines.split.Goals as goal
use Rattle.tx_translate.proofs.meant_lines.MeantLines.split.Goals.{then-line, else-line}

pub returns-else-not-is_empty-clause-none : goal.returns-else-not-is_empty-clause-none
returns-else-not-is_empty-clause-none c =
    elim c.if-line.branch [
      | then-line w ↦ absurd (both_ways c.if-line.value c.if-not-is_empty.false (w.value-is ∙ w.if-line.true))
      | else-line w ↦
          let none : length c.cut.result.0.bytes.now ≡ 0 = search rules in
          nothing_left (left_of c.args.self) (sym (c.cut.ensures.end w.if-line.false) ∙ none_left c.cut.result.0.bytes.now none)
          (sym c.cut.ensures.line.ended ∙ w.if-line.false)
    ]
