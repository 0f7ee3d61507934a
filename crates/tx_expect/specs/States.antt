-- How the lines of a state compare with those that are expected.
use Rattle.std.specs.Prelude.{ℕ, ◌+◌, List, [], ◌∷◌, ◌++◌, codes, map, Option, Some, None, if◌then◌else◌}
use Rattle.std.specs.Fmt.{decimal}
use Rattle.tx_check.specs.Speaking.{shown}
use Rattle.tx_expect.specs.Comments.{expected_in, says}
use Rattle.tx_expect.specs.Lines.{expected_text}
use Rattle.tx_expect.specs.declared.tallies.Verdict.{Verdict}
use Rattle.tx_expect.specs.declared.tallies.Verdict.TheVariants.{Met, Unmet}

-- what begins the report of a state
abbrev pub state_place_text : ℕ → List ℕ
state_place_text number = codes "line " ++ (decimal number ++ codes ": state: ")

-- what is reported where a line of the state is another one than is expected, where it has no more,
-- and where it has more
abbrev pub other_line_text : ℕ → List ℕ → List ℕ → List ℕ
other_line_text number expected next =
    state_place_text number ++ (expected_text expected ++ (map shown next ++ 10 ∷ []))

abbrev pub no_line_text : ℕ → List ℕ → List ℕ
no_line_text number expected =
    state_place_text number ++ (expected_text expected ++ codes "nothing\n")

abbrev pub no_more_text : List ℕ → List ℕ
no_more_text next = codes "expected nothing more, got " ++ (map shown next ++ 10 ∷ [])

abbrev pub more_text : ℕ → List ℕ → List ℕ
more_text number next = state_place_text number ++ no_more_text next

-- the first difference at a line, by what it expects and the lines of the state to come, and by
-- what is found in the lines after it
abbrev pub difference_at : Option (List ℕ) → ℕ → List (List ℕ) → (List (List ℕ) → Option (List ℕ))
    → Option (List ℕ)
difference_at None number state later = later state
difference_at (Some expected) number [] later = Some (no_line_text number expected)
difference_at (Some expected) number (next ∷ state) later =
    if says expected next then later state else Some (other_line_text number expected next)

-- after the last line of a text: what more the state has
abbrev pub after_last : ℕ → List (List ℕ) → Option (List ℕ)
after_last at [] = None
after_last at (next ∷ state) = Some (more_text at next)

-- what is reported of the first difference, if any, of the lines of a state from what some lines of
-- a text expect, of which the first has that number; the state begins after the line of the other
-- number
abbrev pub state_difference : ℕ → List (List ℕ) → ℕ → List (List ℕ) → Option (List ℕ)
state_difference at [] number state = after_last at state
state_difference at (line ∷ lines) number state =
    difference_at (expected_in line) number state (state_difference at lines (number + 1))

-- the verdict on a state, and what is reported of it
abbrev pub state_verdict : Option (List ℕ) → Verdict
state_verdict None = Met
state_verdict (Some report) = Unmet

abbrev pub state_report : Option (List ℕ) → List ℕ
state_report None = []
state_report (Some report) = report
