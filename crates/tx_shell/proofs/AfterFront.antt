-- What follows a front is spelled as the whole is.
use Rattle.std.proofs.Common.{◌≡◌, List, ℕ, ◌++◌, Option, Some, sym, ◌∙◌}
use Rattle.std.proofs.lemmas.List.{append_cancel_left}

pub only_after : {A : Type 0} (front words word : List ℕ) (spelled : List ℕ) (r : Option A) (x : A) → words ≡ front ++ word → (word ≡ spelled → r ≡ Some x) → words ≡ front ++ spelled → r ≡ Some x
only_after front words word spelled r x at only is = only (append_cancel_left front word spelled (sym at ∙ is))
