use Rattle.std.proofs.Common.{◌∙◌, ap, sym}
use Rattle.tx_check.proofs.SaidWords.{before_return, no_return}
use Rattle.tx_translate.specs.OwnLines.{without_return}
use Rattle.tx_check.proofs.placed.before_return.Goals as goal

pub returns-in-Some-clause-same : goal.returns-in-Some-clause-same
returns-in-Some-clause-same c = sym (ap without_return c.in-Some.ensures ∙ before_return c.in-Some.front.now)

pub returns-in-None-clause-same : goal.returns-in-None-clause-same
returns-in-None-clause-same c = sym (no_return c.args.line.now c.in-None.ensures)
