use Rattle.std.proofs.Common.{rules, ◌≡◌, ◌+◌, length}
use Rattle.std.proofs.lemmas.Result.{err_from_is_err_and}
use Rattle.tx_lines.proofs.WalkParts.{commands_fault}
use Rattle.tx_lines.proofs.read.walk_text.read_walk.Goals as goal

pub returns-in_err-commands : goal.returns-in_err-commands
returns-in_err-commands c =
    let up = err_from_is_err_and c.from_residual-in_err-commands.result c.from_residual-in_err-commands.ensures.1 in
    let steps = c.in_ok-steps.steps.items in
    let same : c.len.result + 3 ≡ length steps + 3 = search (rules, c.len.ensures) in
    rw (up.1, up.2) (commands_fault c.args.text.now c.in_ok-header.header c.in_ok-header.left.now steps c.in_ok-steps.left.now (c.len.result + 3) c.in_err-commands.field-0.0 c.in_ok-header.ensures
    c.in_ok-steps.ensures.0 c.in_ok-steps.ensures.1 same c.in_err-commands.ensures)
