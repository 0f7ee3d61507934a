use Rattle.std.proofs.Common.{◌≡◌, ◌++◌, length, map}
use Rattle.tx_picture.specs.Captions.{short}
use Rattle.tx_translate.specs.Lines.{spaced}
use Rattle.tx_translate.specs.Words.{words_in}
use Rattle.tx_picture.proofs.wording.Wording.add_others.Given as goal

abbrev pub invariant-loop-word : goal.invariant-loop-word
invariant-loop-word l = record {
  shown : l.self.shown.items ++ spaced (map (short 24) (words_in l.left)) ≡ l.initial.self.shown.items ++ spaced (map (short 24) (words_in l.others));
  whole : l.self.whole.items ++ spaced (map (λ word. word) (words_in l.left)) ≡ l.initial.self.whole.items ++ spaced (map (λ word. word) (words_in l.others));
}

abbrev pub decreases-loop-word : goal.decreases-loop-word
decreases-loop-word l = length l.left
