use Rattle.std.proofs.Common.{◌<◌, ◌∙◌, sym, ap, arith, length, Some, None}
use Rattle.std.proofs.Math.ListN.{set}
use Rattle.tx_desc.specs.Places.{Descriptors}
use Rattle.tx_desc.proofs.Free.{free_inside, two_second}
use Rattle.tx_desc.proofs.table.FdTable.two_lowest_free.Goals as goal

pub swap-requires : goal.swap-requires
swap-requires c =
    let inside : c.in_ok-first.first < length c.args.self.now = free_inside c.args.self.now c.in_ok-first.first (sym c.in_ok-first.ensures) in
    omega arith

pub returns-in_err-second : goal.returns-in_err-second
returns-in_err-second c = λ d.
    c.from_residual-in_err-second.ensures
    ∙ two_second d c.in_ok-first.first c.args.self.now c.swap.new.self None (sym c.in_ok-first.ensures)
    (c.swap.ensures.exchanged ∙ ap (λ (t : Descriptors). set t c.in_ok-first.first (Some 0)) c.copy-taken.ensures) c.in_err-second.ensures

pub returns : goal.returns
returns c = λ d.
    two_second d c.in_ok-first.first c.args.self.now c.swap.new.self (Some c.in_ok-second.second) (sym c.in_ok-first.ensures)
    (c.swap.ensures.exchanged ∙ ap (λ (t : Descriptors). set t c.in_ok-first.first (Some 0)) c.copy-taken.ensures) c.in_ok-second.ensures
