use Rattle.std.proofs.Common.{None}
use Rattle.tx_lines.specs.Schedule.{IsFaultOf}
use Rattle.tx_translate.specs.Meant.{meant_of}
use Rattle.tx_script.proofs.JsonAnswered.{answers_text, as_schedule, faulted, own_as}
use Rattle.tx_script.specs.JsonTexts.{texts}
use Rattle.tx_script.proofs.as_json.texts.schedule_text.Goals as goal

pub returns : goal.returns
returns c =
    let schedule = c.in_ok-schedule.schedule in
    answers_text c.args.text.now (schedule.header, schedule.steps.items, None) c.schedule_lines.result c.in_ok-schedule.ensures.0 c.in_ok-schedule.ensures.1
    c.schedule_lines.ensures.text c.schedule_lines.ensures.fault

pub returns-in_err-schedule : goal.returns-in_err-schedule
returns-in_err-schedule c =
    let text = c.args.text.now in
    let fault = c.in_err-schedule.field-0.0 in
    faulted text c.from_residual.result fault c.from_residual.ensures.1 (own_as IsFaultOf texts.IsFault text fault (as_schedule (meant_of text) c.requires) c.in_err-schedule.ensures)
