use Rattle.std.proofs.Common.{refl}
use Rattle.tx_check.proofs.NamedLabels.{names_nowhere}
use Rattle.tx_translate.specs.MeantLines.{left_of}
use Rattle.tx_check.proofs.diagnose.labels.link_trouble.Goals as goal

pub returns-then-is_unlinked-clause-nowhere : goal.returns-then-is_unlinked-clause-nowhere
returns-then-is_unlinked-clause-nowhere c =
    let right = c.requires.right in
    names_nowhere c.args.version (left_of c.args.text.now.text) c.args.line.now right ((c.if-is_unlinked.ensures right.one right.fits right.spelled).0 refl)

pub returns-clause-linked : goal.returns-clause-linked
returns-clause-linked c = λ one good spelled nowhere. let bad = (c.if-is_unlinked.ensures one good spelled).1 nowhere in absurd (cc)
