use Rattle.std.proofs.Common.{◌≡◌, ◌+◌, ◌*◌, ◌++◌, ap₂, string_bytes}
use Rattle.tx_picture.proofs.HeadLines.{head_named}
use Rattle.tx_picture.proofs.OneMore.{appended}
use Rattle.tx_picture.specs.Heads.{head_text, name_text}
use Rattle.tx_picture.specs.Sheets.{page_as}
use Rattle.tx_picture.proofs.heads.put_head.Goals as goal

pub returns : goal.returns
returns c =
    let page = page_as c.args.sheet in
    let old = string_bytes c.args.text.now in
    let mid = string_bytes c.put_numeral.new.text in
    let new = string_bytes c.put_name.new.text in
    let k = c.from-2.result + 40 * c.from-3.result in
    appended c.put_name.result (new ≡ mid ++ name_text page k (c.heads_y-y.result + 10) c.args.process) (new ≡ old ++ head_text page c.args.line c.args.process)
    (head_named page c.args.line c.args.process old mid new c.x_of-x.result c.heads_y-y.result k c.from.result c.x_of-x.ensures c.heads_y-y.ensures
    (ap₂ (λ b l. b + 40 * l) c.from-2.ensures c.from-3.ensures) c.from.ensures c.in_ok-put_numeral.ensures)
    c.put_name.ensures
