use Rattle.std.proofs.Common.{◌≡◌, ◌++◌, codes, string_bytes}
use Rattle.tx_picture.proofs.OneMore.{appended, appended_thrice}
use Rattle.tx_picture.specs.Pictures.{moved_text, point_text}
use Rattle.tx_picture.proofs.whole.put_moved.Goals as goal

pub returns : goal.returns
unfolding moved_text
returns c =
    let old = string_bytes c.args.text.now in
    let new = string_bytes c.put-2.new.text in
    let before = string_bytes c.put_point.new.text in
    appended c.put-2.result (new ≡ before ++ codes "\"") (new ≡ old ++ moved_text c.args.x c.args.y)
    (appended_thrice old (codes " transform=\"") (point_text c.args.x c.args.y) (codes "\"") (string_bytes c.put.new.text) before new c.in_ok-put.ensures c.in_ok-put_point.ensures)
    c.put-2.ensures
