use Rattle.std.proofs.Common.{◌∙◌, ap, sym}
use Rattle.tx_kernel.specs.Plans.{sending_of, sent_at_once}
use Rattle.tx_kernel.specs.declared.planned.Sends.{Sends}
use Rattle.tx_laws.specs.OneMoment.{is_sent_to}
use Rattle.tx_journal.proofs.PostedTo.{one_sent, not_at_once}
use Rattle.tx_journal.proofs.posted.is_sent_at_once.Goals as goal

pub returns-in-AtOnce : goal.returns-in-AtOnce
returns-in-AtOnce c =
    c.eq.ensures ∙ one_sent c.args.pid.0 (sending_of c.in-AtOnce.sending) ∙ ap (λ (first : Sends). is_sent_to c.args.pid.0 (sent_at_once first)) (sym c.in-AtOnce.is)

pub returns-in_default : goal.returns-in_default
returns-in_default c = not_at_once c.args.pid.0 c.args.first.now c.in_default.not-AtOnce
