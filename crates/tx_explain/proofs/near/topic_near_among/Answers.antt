use Rattle.std.proofs.Common.{sym, arith}
use Rattle.tx_explain.specs.Edits.{is_near_topic}
use Rattle.tx_explain.proofs.FoundAt.{found_at, none_and_one}
use Rattle.tx_explain.proofs.NearWord.{is_far}
use Rattle.tx_explain.proofs.near.topic_near_among.Goals as goal

pub returns-then-branch-most : goal.returns-then-branch-most
returns-then-branch-most c =
    sym (found_at (is_near_topic c.args.most c.args.word.now) c.args.topics.now c.loop-topic.topic-index _ (omega (arith, c.loop-topic-test.true)) c.loop-topic.invariant
    (grind (arith, c.distance.ensures, c.in_ok-distance.is, c.in_ok-distance.ensures, c.if-branch-most.true)))

pub loop-topic-preserved : goal.loop-topic-preserved
loop-topic-preserved c =
    let far = is_far _ _ _ _ c.in_ok-distance.ensures c.if-branch-most.false in
    none_and_one (is_near_topic c.args.most c.args.word.now) c.args.topics.now c.loop-topic.topic-index _ (omega (arith, c.loop-topic-test.true)) c.loop-topic.invariant far
