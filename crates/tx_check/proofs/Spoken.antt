-- A sentence speaks of what is at its column.
use Rattle.std.proofs.Common.{◌≡◌, ℕ, List, IfSome, subst}
use Rattle.tx_check.specs.Speaking.{line_sentence, word_of, IsPlacedInLine, IsWordAt, OfByte, OfLine, OfWord, SaysOfLine, SpeaksAt, SpeaksOf}
use Rattle.tx_check.specs.declared.trouble.What.{What}
use Rattle.tx_check.specs.declared.trouble.What.TheVariants as whats
use Rattle.tx_check.specs.declared.trouble.LineTrouble.TheVariants as troubles

pub speaks : (what : What) (line : List ℕ) (column : ℕ) (sentence : List ℕ) → IsPlacedInLine line column what → IfSome (word_of what) (λ word. IsWordAt line column word) → SaysOfLine what sentence
    → IfSome (word_of what) (λ word. SpeaksOf word sentence) → SpeaksAt line column sentence
speaks (whats.Line trouble) line column sentence placed at says of = OfLine trouble placed says
speaks (whats.OddByte byte) line column sentence placed at says of = OfByte byte placed.0 placed.1 says
speaks (whats.Word word trouble) line column sentence placed at says of = OfWord word.now at of

-- of a line that is too long
pub long : (what : What) (sentence : List ℕ) → what ≡ whats.Line troubles.TooLong → SaysOfLine what sentence → sentence ≡ line_sentence troubles.TooLong
long what sentence is says = subst (λ (w : What). SaysOfLine w sentence) is says
