use Rattle.std.proofs.Common.{◌≡◌, take, None}
use Rattle.std.specs.List.{find}
use Rattle.tx_explain.specs.Edits.{is_near_topic}
use Rattle.tx_explain.specs.Topics.{topics_in}
use Rattle.tx_explain.proofs.near.topic_near.Given as goal

abbrev pub invariant-loop-group : goal.invariant-loop-group
invariant-loop-group l = find (is_near_topic l.most l.word) (topics_in (take l.group-index l.groups)) ≡ None
