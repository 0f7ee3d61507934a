use Rattle.std.proofs.Common.{◌∙◌, ap, sym}
use Rattle.tx_step.specs.Faces.{sent_at_commit}
use Rattle.tx_kernel.specs.Plans.{sending_of}
use Rattle.tx_kernel.specs.declared.planned.Sends.{Sends}
use Rattle.tx_laws.specs.OneMoment.{is_sent_to}
use Rattle.tx_journal.proofs.PostedTo.{one_sent, not_at_commit}
use Rattle.tx_journal.proofs.posted.is_handed_out.Goals as goal

pub returns-in-AtCommit : goal.returns-in-AtCommit
returns-in-AtCommit c =
    c.eq.ensures ∙ one_sent c.args.pid.0 (sending_of c.in-AtCommit.sending) ∙ ap (λ (first : Sends). is_sent_to c.args.pid.0 (sent_at_commit first)) (sym c.in-AtCommit.is)

pub returns-in_default : goal.returns-in_default
returns-in_default c = not_at_commit c.args.pid.0 c.args.first.now c.in_default.not-AtCommit
