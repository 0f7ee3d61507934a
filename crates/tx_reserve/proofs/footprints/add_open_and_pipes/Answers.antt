use Rattle.std.proofs.Common.{arith}
use Rattle.tx_change.specs.States.{state_of}
use Rattle.tx_desc.specs.Places.{number_in}
use Rattle.tx_model.specs.Descriptors.{open_in, pipes_of}
use Rattle.tx_reserve.proofs.Rows.{adds_none, one_more_pipe, all_open_pipes}
use Rattle.tx_reserve.proofs.footprints.add_open_and_pipes.Goals as goal

pub loop-fd-init : goal.loop-fd-init
unfolding open_in pipes_of
loop-fd-init c = λ held. adds_none c.args.set.now

pub loop-fd-preserved : goal.loop-fd-preserved
loop-fd-preserved c = λ held. one_more_pipe c.args.actor.now.proc.now.descriptors c.loop-fd.fd (number_in c.get.result) (state_of held c.args.actor.now.parts.now) (omega (arith, c.sized.ensures)) c.get.ensures (c.loop-fd.invariant held) (c.add_desc_and_pipe.ensures held)

pub returns : goal.returns
returns c = λ held. all_open_pipes c.args.actor.now.proc.now.descriptors c.loop-fd.fd (state_of held c.args.actor.now.parts.now) (omega (arith, c.sized.ensures)) (c.loop-fd.invariant held)
