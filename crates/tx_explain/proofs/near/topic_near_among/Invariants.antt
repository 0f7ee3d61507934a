use Rattle.std.proofs.Common.{◌≡◌, take, None}
use Rattle.std.specs.List.{find}
use Rattle.tx_explain.specs.Edits.{is_near_topic}
use Rattle.tx_explain.proofs.near.topic_near_among.Given as goal

abbrev pub invariant-loop-topic : goal.invariant-loop-topic
invariant-loop-topic l = find (is_near_topic l.most l.word) (take l.topic-index l.topics) ≡ None
