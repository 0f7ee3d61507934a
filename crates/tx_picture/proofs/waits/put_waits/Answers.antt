use Rattle.std.proofs.Common.{string_bytes}
use Rattle.tx_picture.proofs.OneMore.{each_more, each_whole}
use Rattle.tx_picture.specs.Waits.{wait_text}
use Rattle.tx_picture.proofs.waits.put_waits.Goals as goal

pub loop-i-preserved : goal.loop-i-preserved
loop-i-preserved c =
    each_more (wait_text c.args.columns.now) c.args.waits.now c.loop-i.i _ (string_bytes c.args.text.now) (string_bytes c.loop-i.text) (string_bytes c.put_wait.new.text) c.loop-i-test.true
    c.loop-i.invariant c.in_ok-put_wait.ensures

pub returns : goal.returns
returns c = each_whole (wait_text c.args.columns.now) c.args.waits.now c.loop-i.i (string_bytes c.args.text.now) (string_bytes c.loop-i.text) c.loop-i-test.false c.loop-i.invariant
