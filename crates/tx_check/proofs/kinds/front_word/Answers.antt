use Rattle.tx_check.proofs.FrontWord.{found_short}
use Rattle.tx_check.proofs.kinds.front_word.Goals as goal

pub returns-in-Some-clause-within : goal.returns-in-Some-clause-within
returns-in-Some-clause-within c = found_short c.args.line.now c.in-Some.word.now c.in-Some._rest.now c.in-Some.ensures
