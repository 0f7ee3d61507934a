use Rattle.std.proofs.Common.{◌++◌, List, [], ap, ◌∙◌, ℕ}
use Rattle.tx_base.specs.declared.steps.Step.{Step}
use Rattle.tx_content.specs.Content.{view_of}
use Rattle.tx_model.specs.Schedules.{answers_of, history_of}
use Rattle.tx_model.specs.View.{View, view}
use Rattle.tx_script.proofs.Reported.{after_nothing}
use Rattle.tx_script.specs.Report.{lines_text, start_state}
use Rattle.tx_state_text.specs.State.{state_text}
use Rattle.tx_script.proofs.reports.report.Goals as goal

pub returns-clause-text : goal.returns-clause-text
returns-clause-text c =
    let start = start_state c.args.schedule.now.header in
    let booted = after_nothing start c.in_ok-machine.machine c.in_ok-machine.ensures.view in
    let lines : List Step → List ℕ = λ steps. lines_text 1 (answers_of start [] steps) in
    c.in_ok-put_state.ensures
    ∙ ap (λ (bytes : List ℕ). bytes ++ state_text (view_of c.put_replies.new.machine)) (c.in_ok-put_replies.ensures.text start [] booted ∙ ap (λ (front : List ℕ). front ++ lines c.as_slice.result.now) c.new-text.ensures.bytes)
    ∙ ap (λ (V : View). lines c.as_slice.result.now ++ state_text V) (c.in_ok-put_replies.ensures.after start [] booted).view
    ∙ ap (λ (steps : List Step). lines steps ++ state_text (view start (history_of start [] steps))) c.as_slice.ensures.value
