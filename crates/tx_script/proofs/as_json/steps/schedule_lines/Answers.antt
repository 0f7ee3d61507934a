use Rattle.std.proofs.Common.{◌∙◌, List, ap, string_bytes}
use Rattle.tx_base.specs.declared.steps.Step.{Step}
use Rattle.tx_model.specs.State.{boot_state}
use Rattle.tx_script.proofs.JsonLined.{schedule_whole}
use Rattle.tx_script.specs.JsonLines.{schedule_lines, text_of}
use Rattle.tx_script.specs.Report.{start_state}
use Rattle.tx_script.proofs.as_json.steps.schedule_lines.Goals as goal

pub returns-clause-text : goal.returns-clause-text
returns-clause-text c =
    let made = c.in_ok-put_replies.ensures in
    let header = c.args.schedule.header in
    schedule_whole (start_state header) c.as_mut_slice.result.now c.in_ok-session.session c.reserve.new.self c.put_replies.new.session
    (string_bytes c.new-text.result) (string_bytes c.put_replies.new.text) (string_bytes c.put_line.new.text) (λ j. boot_state (c.in_ok-session.ensures.width j) (c.in_ok-session.ensures.count j)) c.in_ok-session.ensures.entries c.reserve.ensures c.new-text.ensures.bytes
    made.text made.history made.boot made.at_end c.in_ok-put_line.ensures
    ∙ ap (λ (steps : List Step). text_of (schedule_lines header steps)) c.as_mut_slice.ensures.value
