-- How two texts differ, and two states.
use Rattle.std.specs.Prelude.{ℕ, Bool, List, [], ◌∷◌, ◌++◌, Option, None, Some, bytes_eq, codes, if◌then◌else◌}
use Rattle.std.specs.List.{list_any}
use Rattle.std.specs.Str.Lines.{lines}
use Rattle.tx_base.specs.declared.steps.Accepted.{Accepted}
use Rattle.tx_base.specs.declared.steps.Step.TheVariants.{KernelAbort}
use Rattle.tx_journal.specs.Pieces.{piece_text}
use Rattle.tx_journal.specs.Rows.{state_pieces}
use Rattle.tx_journal.specs.declared.pieces.Piece.{Piece}
use Rattle.tx_journal.specs.Trials.{view_with}
use Rattle.tx_model.specs.Membership.{is_live}
use Rattle.tx_model.specs.State.{State}
use Rattle.tx_model.specs.View.{View, view}
use Rattle.tx_state_text.specs.Each.{each_text}

-- whether one of the lines is that one
abbrev pub has_line : List ℕ → List (List ℕ) → Bool
has_line line others = list_any (λ other. bytes_eq other line) others

-- the lines without the first that is that one
abbrev pub less_line : List ℕ → List (List ℕ) → List (List ℕ)
less_line line [] = []
less_line line (other ∷ others) =
    if bytes_eq other line then others else other ∷ less_line line others

-- the lines of the one text that the other lacks, in their order. A line that the other has so many
-- times is matched with so many of the one
unfoldable pub left_over : List (List ℕ) → List (List ℕ) → List (List ℕ)
left_over [] others = []
left_over (line ∷ more) others =
    if has_line line others
    then left_over more (less_line line others)
    else line ∷ left_over more others

-- lines after a mark, each with its end
abbrev pub marked : List ℕ → List (List ℕ) → List ℕ
marked mark found = each_text (λ line. mark ++ (line ++ 10 ∷ [])) found

-- the lines that go from a text, and those that come in their place
abbrev pub differing : List ℕ → List ℕ → List ℕ
differing before after =
    marked (codes "- ") (left_over (lines before) (lines after))
    ++ marked (codes "+ ") (left_over (lines after) (lines before))

-- how the lines of a piece differ
abbrev pub piece_differing : View → View → Piece → List ℕ
piece_differing before after piece = differing (piece_text piece before) (piece_text piece after)

-- how two states differ: the lines of each process, description, pipe and live transaction, in the
-- order of the state's text
abbrev pub views_differing : View → View → List ℕ
views_differing before after =
    each_text (piece_differing before after) (state_pieces before.table.width)

-- how the state would differ after the kernel's abort of the live transaction of process s, where
-- there is one
abbrev pub differing_without : State → List Accepted → ℕ → Option (List ℕ)
differing_without start h s =
    if is_live (view start h).table s
    then Some (views_differing (view start h) (view_with start h (KernelAbort (record { 0 = s }))))
    else None

-- how texts differ from others, one pair after another
abbrev pub all_differing : List (List ℕ) → List (List ℕ) → List ℕ
all_differing [] others = []
all_differing (before ∷ texts) [] = []
all_differing (before ∷ texts) (after ∷ others) =
    differing before after ++ all_differing texts others
