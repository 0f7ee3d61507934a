use Rattle.tx_shell.proofs.lines.asks.read_ask.Goals as goal

pub returns-in-Some-read_words-clause-fits : goal.returns-in-Some-read_words-clause-fits
returns-in-Some-read_words-clause-fits c = c.in-Some-read_words.ensures.fits c.args.version

pub returns-in-Some-read_numbered-clause-fits : goal.returns-in-Some-read_numbered-clause-fits
returns-in-Some-read_numbered-clause-fits c = c.in-Some-read_numbered.ensures.fits c.args.version
