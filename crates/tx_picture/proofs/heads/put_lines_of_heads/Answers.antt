use Rattle.std.proofs.Common.{string_bytes}
use Rattle.tx_picture.proofs.HeadLines.{heads_more}
use Rattle.tx_picture.specs.Sheets.{page_as}
use Rattle.tx_picture.proofs.heads.put_lines_of_heads.Goals as goal

pub loop-line-preserved : goal.loop-line-preserved
loop-line-preserved c =
    heads_more (page_as c.args.sheet) c.loop-line.line (string_bytes c.args.text.now) (string_bytes c.loop-line.text) (string_bytes c.put_line_of_heads.new.text) c.loop-line.invariant
    c.in_ok-put_line_of_heads.ensures
