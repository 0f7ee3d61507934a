-- The spelling of a list of numbers.
use Rattle.std.specs.Prelude.{ℕ, Bool, true, false, List, [], ◌∷◌, ◌++◌, codes}
use Rattle.std.specs.Fmt.{decimal}

-- numbers, each after a comma
abbrev pub more_text : List ℕ → List ℕ
more_text [] = []
more_text (number ∷ numbers) = 44 ∷ (decimal number ++ more_text numbers)

-- numbers joined by commas, or `-` for none
abbrev pub list_text : List ℕ → List ℕ
list_text [] = codes "-"
list_text (number ∷ numbers) = decimal number ++ more_text numbers

-- whether a list has a number, once one more was looked at
abbrev pub some_after : Bool → Bool → Bool
some_after some true = true
some_after some false = some

-- a number that is listed, after a comma where it is not the first
abbrev pub member_text : Bool → Bool → ℕ → List ℕ
member_text some false number = []
member_text true true number = 44 ∷ decimal number
member_text false true number = decimal number
