use Rattle.tx_lines.proofs.read.command.read_command.Goals as goal

pub returns-clause-fits : goal.returns-clause-fits
returns-clause-fits c = c.goto.ensures.fits c.args.version
