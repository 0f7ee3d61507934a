use Rattle.std.proofs.Common.{◌≡◌, arith, length, sym, ◌∙◌}
use Rattle.tx_core.proofs.Reading.{width_read}
use Rattle.tx_core.proofs.LeastNumbers.{least_none, least_some}
use Rattle.tx_content.specs.Content.{view_of}
use Rattle.tx_model.specs.FreeNumbers.{is_free_process}
use Rattle.tx_core.proofs.free.least_process.Goals as goal

pub returns-then-is_free_process : goal.returns-then-is_free_process
returns-then-is_free_process c =
    let width : length c.args.content.now.parts.procs ≡ (view_of c.args.content.now).table.width = width_read c.args.content.now c.requires in
    least_some (is_free_process (view_of c.args.content.now) c.args.pid.0) (view_of c.args.content.now).table.width c.loop-number.number c.loop-number.invariant
    (sym c.is_free_process.ensures ∙ c.if-is_free_process.true) (omega (arith, width))

pub returns : goal.returns
returns c =
    let width : length c.args.content.now.parts.procs ≡ (view_of c.args.content.now).table.width = width_read c.args.content.now c.requires in
    least_none (is_free_process (view_of c.args.content.now) c.args.pid.0) (view_of c.args.content.now).table.width (λ m below. c.loop-number.invariant m (omega (arith, width, below)))
