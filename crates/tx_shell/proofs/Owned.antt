-- What is said of the view at a position.
use Rattle.std.proofs.Common.{◌≡◌, List, ℕ, [], ◌++◌, ◌∙◌}
use Rattle.tx_model.specs.View.{View}

-- what is said of it in an empty text
pub said_there : (say : View → List ℕ) (there seen : View) (blank lines : List ℕ) → seen ≡ there → blank ≡ [] → lines ≡ blank ++ say seen → lines ≡ say there
said_there say there seen blank lines is none put = put ∙ (λ i. none i ++ say (is i))
