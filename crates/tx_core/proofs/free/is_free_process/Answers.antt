use Rattle.std.proofs.Common.{◌≡◌, true, is_none}
use Rattle.tx_core.proofs.FreeNumbers.{free_else, free_then, no_process, number_there}
use Rattle.tx_content.specs.Content.{view_of}
use Rattle.tx_model.specs.FreeNumbers.{is_reserved_from}
use Rattle.tx_model.specs.State.{Proc, is_between}
use Rattle.tx_model.specs.View.{present}
use Rattle.tx_core.proofs.free.is_free_process.Goals as goal

pub returns-then-is_none : goal.returns-then-is_none
returns-then-is_none c =
    let there : is_between (view_of c.args.content.now).table.width c.args.number.0 ≡ true = number_there c.args.content.now c.requires.content c.args.number.0 c.requires.low c.requires.high in
    rw there (free_then c.is_none.result c.is_reserved_from.result (is_none ((present (view_of c.args.content.now)).procs c.args.number.0)) (is_reserved_from (view_of c.args.content.now) c.args.pid.0 (Proc c.args.number.0))
    (no_process c.laws.ensures c.args.content.now c.args.number.0 c.proc.result c.is_none.result c.proc.ensures c.is_none.ensures) c.if-is_none.true c.is_reserved_from.ensures)

pub returns-else-is_none : goal.returns-else-is_none
returns-else-is_none c =
    let there : is_between (view_of c.args.content.now).table.width c.args.number.0 ≡ true = number_there c.args.content.now c.requires.content c.args.number.0 c.requires.low c.requires.high in
    rw there (free_else c.is_none.result (is_none ((present (view_of c.args.content.now)).procs c.args.number.0)) (is_reserved_from (view_of c.args.content.now) c.args.pid.0 (Proc c.args.number.0))
    (no_process c.laws.ensures c.args.content.now c.args.number.0 c.proc.result c.is_none.result c.proc.ensures c.is_none.ensures) c.if-is_none.false)
