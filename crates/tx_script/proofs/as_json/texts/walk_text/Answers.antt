use Rattle.std.proofs.Common.{Some}
use Rattle.tx_lines.specs.Walks.{IsWalkFault}
use Rattle.tx_translate.specs.Meant.{meant_of}
use Rattle.tx_script.proofs.JsonAnswered.{answers_text, as_walk, faulted, own_as}
use Rattle.tx_script.specs.JsonTexts.{texts}
use Rattle.tx_script.proofs.as_json.texts.walk_text.Goals as goal

pub returns : goal.returns
returns c =
    let walk = c.in_ok-walk.walk in
    answers_text c.args.text.now (walk.schedule.header, walk.schedule.steps.items, Some walk.commands.items) c.answer_walk.result c.in_ok-walk.ensures.0 c.in_ok-walk.ensures.1
    c.answer_walk.ensures.text c.answer_walk.ensures.fault

pub returns-in_err-walk : goal.returns-in_err-walk
returns-in_err-walk c =
    let text = c.args.text.now in
    let fault = c.in_err-walk.field-0.0 in
    faulted text c.from_residual.result fault c.from_residual.ensures.1 (own_as IsWalkFault texts.IsFault text fault (as_walk (meant_of text) c.requires) c.in_err-walk.ensures)
