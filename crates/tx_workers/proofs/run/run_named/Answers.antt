use Rattle.tx_workers.proofs.run.run_named.Goals as goal

pub returns-clause-outcome : goal.returns-clause-outcome
returns-clause-outcome g c = c.checked.ensures.outcome c.args.session c.requires.given
