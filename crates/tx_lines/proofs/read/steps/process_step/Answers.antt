use Rattle.tx_lines.proofs.read.steps.process_step.Goals as goal

pub returns-in-Some-clause-within : goal.returns-in-Some-clause-within
returns-in-Some-clause-within c = c.delivery.ensures.within c.args.version
