use Rattle.tx_script.proofs.AnsweredTexts.{answers_text}
use Rattle.tx_script.specs.Grammars.{walks}
use Rattle.tx_script.proofs.debugs.debug_text.Goals as goal

pub returns : goal.returns
returns c =
    let walk = c.in_ok-walk.walk in
    answers_text walks c.args.text.now (walk.schedule.header, walk.schedule.steps.items, walk.commands.items) c.answer_walk.result c.in_ok-walk.ensures.0 c.in_ok-walk.ensures.1
    c.answer_walk.ensures.text c.answer_walk.ensures.fault
