use Rattle.std.proofs.Common.{◌≡◌, ◌∙◌, ℕ, List, true, Some, Option, sym, ap}
use Rattle.std.proofs.lemmas.Bool.{both_ways}
use Rattle.std.proofs.lemmas.List.{append_cancel_left}
use Rattle.tx_lines.specs.Instructions.{is_name}
use Rattle.tx_lines.specs.Programs.{label_front}
use Rattle.tx_lines.specs.declared.instructions.Line.{Line}
use Rattle.tx_lines.specs.declared.instructions.Line.TheVariants as line
use Rattle.tx_lines.proofs.ProgramLines.{no_label}
use Rattle.tx_lines.proofs.read.program_lines.read_line.Goals as goal

pub returns-in_err-name-clause-only : goal.returns-in_err-name-clause-only
returns-in_err-name-clause-only c (line.Label name) is e =
    let word = append_cancel_left label_front c.in-Some.word.now name.bytes.items (sym c.in-Some.ensures ∙ e) in
    let named : is_name c.in-Some.word.now ≡ true = ap is_name word ∙ is in
    absurd (both_ways (is_name c.in-Some.word.now) c.in_err-name.ensures.none named)
returns-in_err-name-clause-only c (line.Instruction i) is e = absurd (no_label c.args.version i c.in-Some.word.now is (sym e ∙ c.in-Some.ensures))

pub returns-in-Some-clause-only : goal.returns-in-Some-clause-only
returns-in-Some-clause-only c (line.Label name) is e =
    let word = append_cancel_left label_front c.in-Some.word.now name.bytes.items (sym c.in-Some.ensures ∙ e) in
    let label : List ℕ → Option Line = λ bytes. Some (line.Label (record { bytes = record { items = bytes } })) in
    ap label (c.in_ok-name.ensures.found ∙ word)
returns-in-Some-clause-only c (line.Instruction i) is e = absurd (no_label c.args.version i c.in-Some.word.now is (sym e ∙ c.in-Some.ensures))
