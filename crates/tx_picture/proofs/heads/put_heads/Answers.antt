use Rattle.std.proofs.Common.{string_bytes}
use Rattle.tx_picture.proofs.OneMore.{each_more, each_whole}
use Rattle.tx_picture.specs.Heads.{head_text}
use Rattle.tx_picture.specs.Sheets.{page_as}
use Rattle.tx_picture.proofs.heads.put_heads.Goals as goal

pub loop-i-preserved : goal.loop-i-preserved
loop-i-preserved c =
    each_more (head_text (page_as c.args.sheet) c.args.line) c.args.sheet.columns.now c.loop-i.i _ (string_bytes c.args.text.now) (string_bytes c.loop-i.text) (string_bytes c.put_head.new.text) c.loop-i-test.true
    c.loop-i.invariant c.in_ok-put_head.ensures

pub returns : goal.returns
returns c =
    each_whole (head_text (page_as c.args.sheet) c.args.line) c.args.sheet.columns.now c.loop-i.i (string_bytes c.args.text.now) (string_bytes c.loop-i.text) c.loop-i-test.false c.loop-i.invariant
