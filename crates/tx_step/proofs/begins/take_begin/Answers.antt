use Rattle.tx_step.proofs.Alone.{alone, begun_step, refused}
use Rattle.tx_step.proofs.Taken.{runs}
use Rattle.tx_step.specs.declared.roles.StepRole.TheVariants as the
use Rattle.tx_step.proofs.begins.take_begin.Goals as goal

pub begin-requires-clause-running : goal.begin-requires-clause-running
begin-requires-clause-running c = runs c.laws.ensures c.args.content.now c.requires.content c.args.pid c.requires.through.0 (the.Begins c.args.defers) c.requires.through.1

pub begin-requires-clause-alone : goal.begin-requires-clause-alone
begin-requires-clause-alone c = alone c.laws.ensures c.args.content.now c.requires.content c.args.pid c.requires.through.0 c.args.defers c.requires.through.1

pub returns-in-Ok : goal.returns-in-Ok
returns-in-Ok c = λ request through.
    begun_step c.laws.ensures c.args.content.now c.requires.content c.args.pid request c.args.defers through c.begin.new.self c.begin.new.inverse c.in-Ok.ensures.made

pub returns-in-Err : goal.returns-in-Err
returns-in-Err c = λ request through. refused c.laws.ensures c.args.content.now c.requires.content c.args.pid request c.args.defers through c.begin.new.self c.in-Err.ensures.err
