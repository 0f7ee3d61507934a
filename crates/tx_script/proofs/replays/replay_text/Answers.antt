use Rattle.tx_script.proofs.AnsweredTexts.{answers_text}
use Rattle.tx_script.specs.Grammars.{schedules}
use Rattle.tx_script.proofs.replays.replay_text.Goals as goal

pub returns : goal.returns
returns c =
    let schedule = c.in_ok-schedule.schedule in
    answers_text schedules c.args.text.now (schedule.header, schedule.steps.items) c.report.result c.in_ok-schedule.ensures.0 c.in_ok-schedule.ensures.1 c.report.ensures.text c.report.ensures.fault
