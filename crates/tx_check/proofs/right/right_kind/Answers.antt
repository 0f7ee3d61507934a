use Rattle.tx_check.proofs.OwnKinds.{own_kind}
use Rattle.tx_check.specs.declared.kinds.Kind.TheVariants as kinds
use Rattle.tx_translate.specs.Meant.{meant_of}
use Rattle.tx_translate.specs.MeantTexts.{MeansText}
use Rattle.tx_translate.specs.declared.texts.Text.TheVariants as found
use Rattle.tx_check.proofs.right.right_kind.Goals as goal

pub returns-in-Ok-Some-Schedule-clause-read : goal.returns-in-Ok-Some-Schedule-clause-read
returns-in-Ok-Some-Schedule-clause-read c =
    let here = c.in-Ok-Some-Schedule in
    let means : MeansText c.args.text.now (found.Schedule here._schedule) = rw (here.field-0-is, here.field-0-0-is) at here.ensures in
    (here._schedule, (means.1, means.0))

pub returns-in-Ok-Some-Schedule-clause-own : goal.returns-in-Ok-Some-Schedule-clause-own
returns-in-Ok-Some-Schedule-clause-own c =
    let here = c.in-Ok-Some-Schedule in
    let means : MeansText c.args.text.now (found.Schedule here._schedule) = rw (here.field-0-is, here.field-0-0-is) at here.ensures in
    own_kind kinds.Schedule (meant_of c.args.text.now) (here._schedule, (means.1, means.0))

pub returns-in-Ok-Some-Walk-clause-read : goal.returns-in-Ok-Some-Walk-clause-read
returns-in-Ok-Some-Walk-clause-read c =
    let here = c.in-Ok-Some-Walk in
    let means : MeansText c.args.text.now (found.Walk here._walk) = rw (here.field-0-is, here.field-0-0-is) at here.ensures in
    (here._walk, (means.1, means.0))

pub returns-in-Ok-Some-Walk-clause-own : goal.returns-in-Ok-Some-Walk-clause-own
returns-in-Ok-Some-Walk-clause-own c =
    let here = c.in-Ok-Some-Walk in
    let means : MeansText c.args.text.now (found.Walk here._walk) = rw (here.field-0-is, here.field-0-0-is) at here.ensures in
    own_kind kinds.Walk (meant_of c.args.text.now) (here._walk, (means.1, means.0))

pub returns-in-Ok-Some-Program-clause-read : goal.returns-in-Ok-Some-Program-clause-read
returns-in-Ok-Some-Program-clause-read c =
    let here = c.in-Ok-Some-Program in
    let means : MeansText c.args.text.now (found.Program here._program) = rw (here.field-0-is, here.field-0-0-is) at here.ensures in
    (here._program, means)

pub returns-in-Ok-Some-Program-clause-own : goal.returns-in-Ok-Some-Program-clause-own
returns-in-Ok-Some-Program-clause-own c =
    let here = c.in-Ok-Some-Program in
    let means : MeansText c.args.text.now (found.Program here._program) = rw (here.field-0-is, here.field-0-0-is) at here.ensures in
    own_kind kinds.Program (meant_of c.args.text.now) (here._program, means)
