-- The numbers of a set, put one after another.
use Rattle.std.proofs.Common.{◌≡◌, ℕ, Bool, true, false, cond, List, ◌∷◌, ◌++◌, refl}
use Rattle.tx_lines.specs.Lists.{list_text, member_text, more_text, some_after}

-- what is left of a list, after some numbers or none
abbrev pub text_after : Bool → List ℕ → List ℕ
text_after true numbers = more_text numbers
text_after false numbers = list_text numbers

-- a number more is put, where it is listed
pub text_more : (some is : Bool) (number : ℕ) (numbers : List ℕ) → text_after some (cond is (number ∷ numbers) numbers) ≡ member_text some is number ++ text_after (some_after some is) numbers
text_more true true number numbers = refl
text_more false true number numbers = refl
text_more true false number numbers = refl
text_more false false number numbers = refl
