use Rattle.std.proofs.Common.{None, ap, sym, ◌∙◌}
use Rattle.tx_laws.specs.Endings.{end_reply}
use Rattle.tx_content.specs.Content.{view_of}
use Rattle.tx_model.specs.View.{role_on}
use Rattle.tx_step.specs.Requests.{step_of}
use Rattle.tx_step.proofs.Idle.{idle_mark}
use Rattle.tx_step.proofs.RolesTold.{call_role, outside_delivery}
use Rattle.tx_reserve.specs.Footprints.{ends_part}
use Rattle.tx_txn.specs.Marks.{table_at}
use Rattle.tx_step.proofs.request.Request.beginning.Goals as goal

pub returns-in-Call : goal.returns-in-Call
returns-in-Call c =
    c.beginning.ensures (table_at c.args.content.now.marks) c.args.pid.0 (end_reply (ends_part c.args.pid.0 c.in-Call.call.now))
    ∙ call_role c.laws.ensures.present c.args.content.now c.args.pid c.requires.running None (idle_mark c.args.content.now c.requires.content c.requires.idle c.args.pid)
    c.endings.ensures.other_call c.endings.ensures.exit c.in-Call.call.now
    ∙ ap (λ request. role_on (view_of c.args.content.now) (step_of c.args.pid request)) (sym c.in-Call.is)

pub returns-in-Delivery : goal.returns-in-Delivery
returns-in-Delivery c =
    outside_delivery c.laws.ensures.present c.endings.ensures.delivery c.args.content.now c.args.pid c.requires.running
    (idle_mark c.args.content.now c.requires.content c.requires.idle c.args.pid) c.in-Delivery.field-0
    ∙ ap (λ request. role_on (view_of c.args.content.now) (step_of c.args.pid request)) (sym c.in-Delivery.is)
