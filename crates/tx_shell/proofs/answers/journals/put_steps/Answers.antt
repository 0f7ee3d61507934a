use Rattle.std.proofs.Common.{◌≡◌, ◌+◌, suc, ℕ, [], ◌∷◌, ◌++◌, List, append_assoc, drop, string_bytes, sym, ap, ◌∙◌, add-one, drop-cons}
use Rattle.tx_journal.specs.declared.entry.Entry.{Entry}
use Rattle.tx_lines.specs.Lines.{step_text}
use Rattle.tx_shell.proofs.Listed.{all_steps, one_step_more}
use Rattle.tx_shell.proofs.answers.journals.put_steps.Goals as goal

pub loop-entry-preserved : goal.loop-entry-preserved
loop-entry-preserved c =
    let i = c.loop-entry.entry-index in
    let entries = c.args.entries.now in
    let entry = c.entry-item.result in
    let text = string_bytes c.loop-entry.text in
    let cut : drop i entries ≡ entry ∷ drop (i + 1) entries =
    drop-cons entries i entry c.loop-entry-test.true
    ∙ ap (λ (x : Entry). x ∷ drop (suc i) entries) (sym c.entry-item.is)
    ∙ ap (λ (n : ℕ). entry ∷ drop n entries) (sym (add-one i)) in
    one_step_more entries (string_bytes c.args.text.now) text (string_bytes c.put.new.text) i entry c.loop-entry.invariant cut
    (c.in_ok-put.ensures ∙ ap (λ (t : List ℕ). t ++ 10 ∷ []) c.in_ok-put_step.ensures ∙ append_assoc text (step_text entry.step) (10 ∷ []))

pub returns : goal.returns
returns c = all_steps c.args.entries.now (string_bytes c.args.text.now) (string_bytes c.loop-entry.text) c.loop-entry.entry-index c.loop-entry.invariant c.loop-entry-test.false
