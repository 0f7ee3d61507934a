use Rattle.std.proofs.Common.{◌+◌, ◌++◌, ◌∙◌, ap, string_bytes}
use Rattle.tx_picture.proofs.Numbered.{row_more, rows_whole}
use Rattle.tx_picture.specs.Sheets.{page_as}
use Rattle.tx_picture.specs.Steps.{row_text}
use Rattle.tx_picture.specs.declared.rows.Row.{Row}
use Rattle.tx_picture.proofs.steps.put_rows.Goals as goal

pub loop-i-preserved : goal.loop-i-preserved
loop-i-preserved c =
    let page = page_as c.args.sheet in
    row_more page c.args.rows.now c.loop-i.i c.index-rows-i.result (string_bytes c.args.text.now) (string_bytes c.loop-i.text) (string_bytes c.put_row.new.text) c.loop-i-test.true c.loop-i.invariant
    (c.in_ok-put_row.ensures ∙ ap (λ (row : Row). string_bytes c.loop-i.text ++ row_text page (c.loop-i.i + 1) row) c.index-rows-i.is)

pub returns : goal.returns
returns c = rows_whole (page_as c.args.sheet) c.args.rows.now c.loop-i.i (string_bytes c.args.text.now) (string_bytes c.loop-i.text) c.loop-i-test.false c.loop-i.invariant
