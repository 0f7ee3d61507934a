use Rattle.std.proofs.Common.{◌≡◌, ◌++◌, drop, map, string_bytes}
use Rattle.tx_explain.specs.Topics.{row_of, words_listed}
use Rattle.tx_explain.proofs.list.put_words.Given as goal

abbrev pub invariant-loop-topic : goal.invariant-loop-topic
invariant-loop-topic l = string_bytes l.text ++ words_listed (map row_of (drop l.topic-index l.topics)) ≡ string_bytes l.initial.text ++ words_listed (map row_of l.topics)
