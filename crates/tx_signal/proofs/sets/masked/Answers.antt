use Rattle.std.proofs.Common.{◌<◌, ◌^◌, ap, ◌∙◌, arith}
use Rattle.tx_base.specs.Signals.{bits_of}
use Rattle.tx_model.specs.SignalSets.{maskable}
use Rattle.tx_signal.proofs.SetFacts.{without-less}
use Rattle.tx_signal.proofs.sets.masked.Goals as goal
use Rattle.tx_signal.proofs.sets.masked.Goals.{in-Block, in-Unblock, in-Set}

pub returns : goal.returns
returns c =
    let set_fits : c.args.set.0 < 2 ^ 64 = omega arith in
    let mask_fits : c.args.mask.0 < 2 ^ 64 = omega arith in
    let made = c.maskable.ensures in
    elim c.match-how.branch [
      | in-Block w ↦ rw w.in-Block.is (made ∙ ap maskable (ap bits_of w.maskable-is ∙ w.union.ensures tt))
      | in-Unblock w ↦ rw w.in-Unblock.is (made ∙ ap maskable (ap bits_of w.maskable-is ∙ w.difference.ensures tt ∙ without-less c.args.mask.0 c.args.set.0 mask_fits set_fits))
      | in-Set w ↦ rw w.in-Set.is (made ∙ ap maskable (ap bits_of w.maskable-is))
    ]
