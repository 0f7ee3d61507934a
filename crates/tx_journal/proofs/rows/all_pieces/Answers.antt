use Rattle.std.proofs.Common.{◌∙◌, ◌++◌, List, ap}
use Rattle.tx_journal.proofs.Chosen.{all_listed}
use Rattle.tx_journal.specs.Rows.{row_pieces, state_pieces}
use Rattle.tx_journal.specs.declared.pieces.Piece.{Piece}
use Rattle.tx_journal.specs.declared.rows.Row.TheVariants.{Procs}
use Rattle.tx_journal.proofs.rows.all_pieces.Goals as goal

pub returns : goal.returns
returns c =
    all_listed c.processes-width.result c.put_all.new.found.items c.put_all-2.new.found.items c.put_all-3.new.found.items c.put_all-4.new.found.items
    (c.in_ok-put_all.ensures ∙ ap (λ (found : List Piece). found ++ row_pieces Procs c.processes-width.result) c.new-found.ensures.items) c.in_ok-put_all-2.ensures c.in_ok-put_all-3.ensures c.in_ok-put_all-4.ensures
    ∙ ap state_pieces c.processes-width.ensures.table
