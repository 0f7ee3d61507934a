use Rattle.std.proofs.Common.{ap, length}
use Rattle.tx_check.proofs.LineParts.{no_other}
use Rattle.tx_translate.specs.MeantLines.{left_of}
use Rattle.tx_check.proofs.labels.Labels.later_place.Goals as goal

pub returns-clause-none : goal.returns-clause-none
returns-clause-none c =
    no_other (left_of c.args.self.now.text) (left_of c.loop-line.left) c.args.name.now c.loop-line.passed c.loop-line.invariant.at
    (ap length c.in_default.ensures.none) c.loop-line.invariant.others
