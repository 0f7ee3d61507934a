use Rattle.std.proofs.Common.{◌∙◌, ◌++◌, ◌∷◌, [], ℕ, List, ap, append_assoc}
use Rattle.tx_base.specs.declared.steps.Step.{Step}
use Rattle.tx_journal.specs.Entries.{history_of}
use Rattle.tx_journal.specs.Sessions.{position_of, start_of}
use Rattle.tx_lines.specs.Lines.{header_text}
use Rattle.tx_lines.specs.Schedule.{steps_text}
use Rattle.tx_lines.specs.declared.read.header.TextKind.TheVariants.{Schedule}
use Rattle.tx_shell.proofs.Listed.{made_steps}
use Rattle.tx_shell.proofs.Replayed.{replayed}
use Rattle.tx_shell.specs.Journals.{steps_of}
use Rattle.tx_shell.specs.Origins.{grammar_of}
use Rattle.tx_shell.proofs.answers.journals.print_schedule.Goals as goal

pub returns-clause-leads : goal.returns-clause-leads
returns-clause-leads c = replayed (start_of c.args.session.now) (position_of c.args.session.now) (history_of c.args.session.now.entries) c.is_lawful.ensures.lawful

pub returns-clause-text : goal.returns-clause-text
returns-clause-text c =
    let k = c.args.session.now in
    let header : ℕ → List ℕ = λ count. header_text Schedule (record { version = grammar_of c.args.version; count = count }) in
    c.in_ok-put_steps.ensures
    ∙ ap (λ (front : List ℕ). front ++ steps_text (steps_of c.entries_made.result.now))
    (c.in_ok-put_header.ensures ∙ ap (λ (bytes : List ℕ). bytes ++ (header c.count.result ++ 10 ∷ [])) c.new-text.ensures.bytes)
    ∙ append_assoc (header c.count.result) (10 ∷ []) (steps_text (steps_of c.entries_made.result.now))
    ∙ ap (λ (n : ℕ). header n ++ 10 ∷ steps_text (steps_of c.entries_made.result.now)) c.count.ensures
    ∙ ap (λ (steps : List Step). header k.count ++ 10 ∷ steps_text steps) (ap steps_of c.entries_made.ensures ∙ made_steps (position_of k) k.entries)
