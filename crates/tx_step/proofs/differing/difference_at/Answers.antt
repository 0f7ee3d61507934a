use Rattle.std.proofs.Common.{sym, ap, ◌∙◌}
use Rattle.std.specs.Option.{option_copied}
use Rattle.tx_base.specs.Slots.{slot_at}
use Rattle.tx_proc.specs.Parts.{process_in}
use Rattle.tx_step.proofs.KeptStarters.{difference_kept}
use Rattle.tx_step.specs.Faces.{sent, starter_difference}
use Rattle.tx_step.proofs.differing.difference_at.Goals as goal

pub returns : goal.returns
returns c = λ event sends out.
    let k = c.args.content.now in
    let laws = c.posts_by_faces.ensures in
    c.difference.ensures
    ∙ c.of-faces.ensures (sent c.args.first.now c.args.held.now)
    ∙ (λ j. starter_difference c.args.starter.0 (sym sends j) (process_in (slot_at k.parts.procs c.args.starter.0)) (c.deref.ensures j).kept)
    ∙ sym (difference_kept k c.requires.content c.args.starter.0 c.answers_of_states.ensures.present event out c.locality.ensures.writes laws.answer laws.face laws.queued c.unwrap-boxed.result.now
    (sym c.get.ensures ∙ ap option_copied c.unwrap-boxed.ensures))
