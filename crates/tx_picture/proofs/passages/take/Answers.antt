use Rattle.std.proofs.Common.{ap}
use Rattle.tx_picture.proofs.OneMore.{folded_more, folded_whole}
use Rattle.tx_picture.proofs.Settled.{none_older}
use Rattle.tx_picture.specs.Passages.{taken_from, Taking}
use Rattle.tx_picture.proofs.passages.take.Goals as goal

pub loop-i-preserved : goal.loop-i-preserved
loop-i-preserved c =
    folded_more (taken_from c.args.reading) (record { rest = c.args.reading.held; passages = c.args.passages.now.items }) c.args.written.now c.loop-i.i _
    (record { rest = c.loop-i.rest; passages = c.loop-i.passages.items }) (record { rest = c.in_ok-rest.rest; passages = c.take_from.new.passages.items }) c.loop-i-test.true c.loop-i.invariant
    c.in_ok-rest.ensures

pub returns : goal.returns
returns c =
    ap (λ (taking : Taking). taking.passages)
    (folded_whole (taken_from c.args.reading) (record { rest = c.args.reading.held; passages = c.args.passages.now.items }) c.args.written.now c.loop-i.i
    (record { rest = c.loop-i.rest; passages = c.loop-i.passages.items }) c.loop-i-test.false c.loop-i.invariant)

pub returns-then-rest-eq0 : goal.returns-then-rest-eq0
returns-then-rest-eq0 c =
    none_older c.args.reading (record { rest = c.args.reading.held; passages = c.args.passages.now.items }) c.args.written.now c.loop-i.i c.loop-i.rest c.loop-i.passages.items c.if-rest-eq0.true
    c.loop-i.invariant
