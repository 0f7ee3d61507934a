use Rattle.std.proofs.Common.{ap}
use Rattle.tx_model.specs.Words.{called_by_status}
use Rattle.tx_step.proofs.Aborted.{called_live, called_step, negated}
use Rattle.tx_step.proofs.aborts.take_abort.Goals as goal

pub abort-requires-clause-live : goal.abort-requires-clause-live
abort-requires-clause-live c = called_live c.laws.ensures c.args.content.now c.requires.content c.args.pid c.args.starter c.requires.through.0 c.requires.through.1

pub returns : goal.returns
returns c = λ request through.
    called_step c.laws.ensures c.args.content.now c.requires.content c.args.pid c.args.starter request through (negated c.from.result) (ap negated c.from.ensures)
    c.abort.new.self c.abort.new.inverse (c.abort.ensures called_by_status)
