use Rattle.std.proofs.Common.{◌≡◌, ◌∙◌, ◌-◌, ◌++◌, [], ◌∷◌, ℕ, List, length, ap, sym, arith}
use Rattle.tx_lines.specs.Programs.{labels_of}
use Rattle.tx_lines.specs.declared.instructions.Name.{Name}
use Rattle.tx_lines.proofs.ProgramParts.{counts, instruction_more, label_more, on_ok_then}
use Rattle.tx_lines.proofs.read.program_lines.push_line.Goals as goal

pub push_label-requires-clause-among : goal.push_label-requires-clause-among
push_label-requires-clause-among c = omega (arith, counts c.args.lines.now.items, ap length c.requires.labels, c.len.ensures)

pub returns-in_ok-push_label-in-Some-Label-clause-labels : goal.returns-in_ok-push_label-in-Some-Label-clause-labels
returns-in_ok-push_label-in-Some-Label-clause-labels c =
    let lines = c.args.lines.now.items in
    let name = c.in-Some-Label.name in
    let entry : List (Name × ℕ) → ℕ → List (Name × ℕ) = λ labels number. labels ++ (name, number) ∷ [] in
    let count : c.len.result - length c.args.labels.now.entries ≡ length lines - length (labels_of lines) = omega (arith, ap length c.requires.labels, c.len.ensures) in
    on_ok_then c.push.result
    (λ more.
    c.in_ok-push_label-in-Some-Label.ensures.labels
    ∙ ap (entry c.args.labels.now.entries) count
    ∙ ap (λ labels. entry labels (length lines - length (labels_of lines))) c.requires.labels
    ∙ sym (label_more lines name)
    ∙ ap labels_of (sym more))
    c.push.ensures.more

pub returns-in-Some-Instruction-clause-labels : goal.returns-in-Some-Instruction-clause-labels
returns-in-Some-Instruction-clause-labels c =
    on_ok_then c.push-in-Some-Instruction.result
    (λ more. c.requires.labels ∙ sym (instruction_more c.args.lines.now.items c.in-Some-Instruction.instruction) ∙ ap labels_of (sym more))
    c.push-in-Some-Instruction.ensures.more
