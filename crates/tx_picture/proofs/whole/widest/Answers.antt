use Rattle.std.proofs.Common.{◌+◌, ◌∙◌, ap, length}
use Rattle.tx_picture.proofs.Numbered.{wider, widest_whole}
use Rattle.tx_picture.specs.Pictures.{longer}
use Rattle.tx_picture.specs.Sheets.{page_as}
use Rattle.tx_picture.specs.Steps.{shown_words}
use Rattle.tx_picture.proofs.whole.widest.Goals as goal

pub loop-i-preserved : goal.loop-i-preserved
loop-i-preserved c =
    let page = page_as c.args.sheet in
    wider page c.args.rows.now c.loop-i.i c.index-rows-i.result _ c.loop-i.most c.longer-most.result c.loop-i-test.true c.loop-i.invariant
    (c.longer-most.ensures ∙ ap (longer c.loop-i.most)
    (c.width.ensures ∙ ap length c.in_ok-words.ensures.shown ∙ ap (λ row. length (shown_words page (c.loop-i.i + 1) row)) c.index-rows-i.is))

pub returns : goal.returns
returns c = widest_whole (page_as c.args.sheet) c.args.rows.now c.loop-i.i _ c.loop-i.most c.loop-i-test.false c.loop-i.invariant
