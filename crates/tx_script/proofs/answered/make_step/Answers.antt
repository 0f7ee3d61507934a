use Rattle.std.proofs.Common.{sym, true≢false}
use Rattle.tx_content.specs.Content.{view_of}
use Rattle.tx_script.proofs.Reported.{after_reply, replied_answer}
use Rattle.tx_script.proofs.answered.make_step.Goals as goal

pub returns-clause-answer : goal.returns-clause-answer
returns-clause-answer c =
    replied_answer (view_of c.args.machine.now) c.args.step.now c.step_into-accepted.new.reply c.step_into-accepted.ensures.answer
    (λ want. true≢false (sym (c.if-wants_memory.ensures.1 want)))

pub returns-clause-after : goal.returns-clause-after
returns-clause-after c start earlier so =
    after_reply start earlier c.args.step.now c.step_into-accepted.new.reply c.step_into-accepted.result c.args.machine.now c.step_into-accepted.new.self so
    c.step_into-accepted.ensures.inverse.0 c.step_into-accepted.ensures.refused
    (λ made. c.step_into-accepted.ensures.history made start earlier so.lawful so.view)
