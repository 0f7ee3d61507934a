use Rattle.std.proofs.Common.{◌≡◌, refl, sym, subst}
use Rattle.tx_base.specs.Slots.{slot_at}
use Rattle.tx_content.specs.Progresses.{part_of}
use Rattle.tx_content.specs.declared.marking.Progress.{Progress}
use Rattle.tx_model.specs.Membership.{marks_after, Within}
use Rattle.tx_content.proofs.marking.mark_progress.Goals as goal

pub returns-in-Continues-clause-marks : goal.returns-in-Continues-clause-marks
returns-in-Continues-clause-marks c = λ n.
    subst (λ (progress : Progress). slot_at c.args.marks.now n ≡ marks_after (Within c.args.member.starter.0 (part_of progress)) c.args.member.pid.0 (slot_at c.args.marks.now) n) (sym c.in-Continues.is) refl
