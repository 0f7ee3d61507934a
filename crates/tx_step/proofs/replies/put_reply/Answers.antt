use Rattle.std.proofs.Common.{ap, ◌∙◌}
use Rattle.tx_step.proofs.ShownBytes.{few_shown}
use Rattle.tx_step.specs.declared.answered.Answered.TheVariants.{Acted}
use Rattle.tx_step.proofs.replies.put_reply.Goals as goal

pub put_shown-requires-clause-few : goal.put_shown-requires-clause-few
put_shown-requires-clause-few c =
    few_shown c.args.content.now c.args.pid.0 c.args.inverse.now c.args.answered c.in-Out.shown (c.in-Acted.is ∙ ap Acted c.in-Out.is) c.requires.fits
