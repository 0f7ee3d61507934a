use Rattle.std.proofs.Common.{◌++◌, List, [], ap, ◌∙◌}
use Rattle.tx_base.specs.declared.steps.Reply.{Reply}
use Rattle.tx_model.specs.Schedules.{answers_of}
use Rattle.tx_script.proofs.Reported.{after_nothing}
use Rattle.tx_script.specs.Report.{last_view, start_state}
use Rattle.tx_script.proofs.answered.make_all.Goals as goal

pub returns-clause-replies : goal.returns-clause-replies
returns-clause-replies c =
    let start = start_state c.args.schedule.now.header in
    let booted = after_nothing start c.in_ok-machine.machine c.in_ok-machine.ensures.view in
    c.in_ok-make_steps.ensures.replies start [] booted
    ∙ ap (λ (replies : List Reply). replies ++ answers_of start [] c.as_slice.result.now) c.in_ok-replies.ensures.items
    ∙ ap (answers_of start []) c.as_slice.ensures.value

pub returns-clause-view : goal.returns-clause-view
returns-clause-view c =
    let header = c.args.schedule.now.header in
    let booted = after_nothing (start_state header) c.in_ok-machine.machine c.in_ok-machine.ensures.view in
    (c.in_ok-make_steps.ensures.after (start_state header) [] booted).view
    ∙ ap (last_view header) c.as_slice.ensures.value
