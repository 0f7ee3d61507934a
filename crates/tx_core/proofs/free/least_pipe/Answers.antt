use Rattle.std.proofs.Common.{arith, sym, ◌∙◌}
use Rattle.tx_core.proofs.LeastNumbers.{least_none, least_some}
use Rattle.tx_content.specs.Content.{view_of}
use Rattle.tx_model.specs.FreeNumbers.{is_free_pipe}
use Rattle.tx_core.proofs.free.least_pipe.Goals as goal

pub returns-then-is_free_pipe : goal.returns-then-is_free_pipe
returns-then-is_free_pipe c =
    least_some (is_free_pipe (view_of c.args.content.now) c.args.pid.0) 31 c.loop-number.number c.loop-number.invariant (sym c.is_free_pipe.ensures ∙ c.if-is_free_pipe.true) (omega arith)

pub returns : goal.returns
returns c = least_none (is_free_pipe (view_of c.args.content.now) c.args.pid.0) 31 (λ m below. c.loop-number.invariant m (omega (arith, below)))
