use Rattle.std.proofs.Common.{IfSome, string_bytes}
use Rattle.tx_check.proofs.FaultKinds.{ok_map, word_kind}
use Rattle.tx_check.specs.Speaking.{kind_of_what, word_of, IsOfKind, SpeaksAfter}
use Rattle.tx_check.proofs.sentences.word_sentence.Goals as goal

pub returns-clause-kind : goal.returns-clause-kind
returns-clause-kind c =
    let what = c.args.what.now in
    ok_map c.joined.result (λ sentence. SpeaksAfter c.front.result.now c.in-Word.word.now (string_bytes sentence)) (λ sentence. IfSome (word_of what) (λ word. IsOfKind (kind_of_what what) (string_bytes sentence)))
    (λ sentence behind. word_kind what c.front.result.now c.in-Word.word.now (string_bytes sentence) c.front.ensures.front c.front.ensures.label c.front.ensures.other behind) c.joined.ensures.behind
