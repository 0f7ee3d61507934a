use Rattle.std.proofs.Common.{string_bytes}
use Rattle.tx_picture.proofs.OneMore.{each_more, each_whole}
use Rattle.tx_picture.specs.Svg.{escaped_byte}
use Rattle.tx_picture.proofs.escape.put_escaped.Goals as goal

pub loop-i-preserved : goal.loop-i-preserved
loop-i-preserved c =
    each_more escaped_byte c.args.words.now c.loop-i.i _ (string_bytes c.args.text.now) (string_bytes c.loop-i.text) (string_bytes c.put_escaped_byte.new.text) c.loop-i-test.true c.loop-i.invariant
    c.in_ok-put_escaped_byte.ensures

pub returns : goal.returns
returns c = each_whole escaped_byte c.args.words.now c.loop-i.i (string_bytes c.args.text.now) (string_bytes c.loop-i.text) c.loop-i-test.false c.loop-i.invariant
