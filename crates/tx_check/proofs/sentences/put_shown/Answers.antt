use Rattle.std.proofs.Common.{arith, string_bytes}
use Rattle.tx_check.proofs.SaidWords.{more_shown}
use Rattle.tx_check.proofs.sentences.put_shown.Goals as goal

pub loop-at-preserved : goal.loop-at-preserved
loop-at-preserved c =
    more_shown c.args.bytes.now c.loop-at.at (string_bytes c.args.text.now) (string_bytes c.loop-at.text) c.shown.result (string_bytes c.put_ascii.new.text) (omega (arith, c.loop-at-test.true)) c.loop-at.invariant c.shown.ensures.shown
    c.in_ok-put_ascii.ensures
