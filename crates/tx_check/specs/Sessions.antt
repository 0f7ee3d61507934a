-- The diagnostic of a line of a session.
use Rattle.std.specs.Prelude.{◌≡◌, ℕ, List, ◌++◌, codes}
use Rattle.std.specs.Fmt.{decimal}
use Rattle.tx_check.specs.Speaking.{SpeaksAt}
use Rattle.tx_check.specs.Diagnostics.{IsColumn, IsInLine}

-- it has a column of the line, and a sentence that speaks of the word there
pub record IsSessionDiagnostic (line text : List ℕ) : Type 0 where
  pub column : ℕ
  pub sentence : List ℕ
  pub inside : IsColumn line column
  pub in_line : IsInLine sentence
  pub speaks : SpeaksAt line column sentence
  pub spelled : text ≡ codes "column " ++ (decimal column ++ (codes ": " ++ sentence))
