use Rattle.std.proofs.Common.{◌∙◌, ◌++◌, ℕ, List, ap}
use Rattle.tx_journal.specs.Entries.{history_of}
use Rattle.tx_journal.specs.Sessions.{position_of, start_of}
use Rattle.tx_lines.specs.declared.read.command.Command.{Command}
use Rattle.tx_script.proofs.StepsMade.{said_of}
use Rattle.tx_script.specs.Debug.{answers_at, walk_answers}
use Rattle.tx_script.specs.JsonLines.{written_in}
use Rattle.tx_script.proofs.commands.answer_walk.Goals as goal

pub returns-clause-text : goal.returns-clause-text
returns-clause-text c =
    let written = written_in c.args.form in
    let schedule = c.args.walk.schedule in
    let commands = c.as_slice.result.now in
    let session = c.in_ok-session.session in
    c.in_ok-put_answers.ensures.text
    ∙ ap (λ (t : List ℕ). t ++ answers_at written (start_of session) (history_of session.entries) (position_of session) commands) c.new-text.ensures.bytes
    ∙ said_of (λ start history at. answers_at written start history at commands) schedule.header schedule.steps.items session c.in_ok-session.ensures.made
    ∙ ap (λ (cs : List Command). walk_answers written schedule.header schedule.steps.items cs) c.as_slice.ensures.value
