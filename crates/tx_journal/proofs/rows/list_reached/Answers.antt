use Rattle.std.proofs.Common.{◌∙◌, ◌++◌, Bool, List, ap}
use Rattle.std.specs.List.{filter}
use Rattle.tx_journal.proofs.Chosen.{all_found}
use Rattle.tx_journal.specs.Reach.{is_reached}
use Rattle.tx_journal.specs.Rows.{row_pieces}
use Rattle.tx_journal.specs.declared.pieces.Piece.{Piece}
use Rattle.tx_journal.specs.declared.rows.Row.TheVariants.{Procs}
use Rattle.tx_content.specs.Content.{view_of}
use Rattle.tx_journal.proofs.rows.list_reached.Goals as goal

pub returns : goal.returns
returns c =
    let V = view_of c.args.machine.now in
    let step = c.args.step.now in
    let chosen : Piece → Bool = is_reached V step in
    let reaches = c.in_ok-reach.ensures in
    all_found chosen V.table.width c.put_row.new.found.items c.put_row-2.new.found.items c.put_row-3.new.found.items c.put_row-4.new.found.items
    (c.in_ok-put_row.ensures step reaches ∙ ap (λ (found : List Piece). found ++ filter chosen (row_pieces Procs V.table.width)) c.new-found.ensures.items)
    (c.in_ok-put_row-2.ensures step reaches) (c.in_ok-put_row-3.ensures step reaches) (c.in_ok-put_row-4.ensures step reaches)
