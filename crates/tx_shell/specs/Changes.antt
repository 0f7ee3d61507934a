-- Which step changed a piece of the state last, and which changes it next.
use Rattle.std.specs.Prelude.{◌≡◌, ◌≢◌, ◌≤◌, ◌+◌, ◌-◌, ℕ, List, ◌∷◌, ◌++◌, MatchOption, Option, Some, codes, length, reverse, slice_get, string_bytes}
use Rattle.std.specs.Fmt.{decimal}
use Rattle.tx_base.specs.declared.steps.Accepted.{Accepted}
use Rattle.tx_journal.specs.Entries.{history_of}
use Rattle.tx_journal.specs.Pieces.{piece_text}
use Rattle.tx_journal.specs.Sessions.{SessionState, start_of}
use Rattle.tx_journal.specs.declared.pieces.Piece.{Piece}
use Rattle.tx_model.specs.State.{State}
use Rattle.tx_script.specs.Debug.{view_at}
use Rattle.tx_shell.specs.Differences.{differing}
use Rattle.tx_shell.specs.Names.{step_made_text, Names}
use Rattle.tx_shell.specs.Places.{Place}
use Rattle.tx_shell.specs.declared.questions.changes.Change.{Change}

-- the lines of a piece at each position
abbrev pub shown_at : State → List Accepted → Piece → ℕ → List ℕ
shown_at start history piece at = piece_text piece (view_at start history at)

-- those of a session
abbrev pub shown_in : SessionState → Piece → ℕ → List ℕ
shown_in k piece = shown_at (start_of k) (history_of k.entries) piece

-- they are the same at all positions from one to another
abbrev pub IsSame : (ℕ → List ℕ) → ℕ → ℕ → Type 0
IsSame shown from to = (at : ℕ) → from ≤ at → at ≤ to → shown at ≡ shown from

-- they are those lines there
abbrev pub AllShow : (ℕ → List ℕ) → List ℕ → ℕ → ℕ → Type 0
AllShow shown lines from to = (at : ℕ) → from ≤ at → at ≤ to → shown at ≡ lines

-- at that position they are others
pub record ShowsOthers (shown : ℕ → List ℕ) (lines others : List ℕ) (at : ℕ) : Type 0 where
  pub shown_there : others ≡ shown at
  pub other : others ≢ lines

-- going back, others are met at that position, and none after it
pub record MeetsBack (shown : ℕ → List ℕ) (lines others : List ℕ) (at to : ℕ) : Type 0 where
  pub before : at + 1 ≤ to
  pub same : AllShow shown lines (at + 1) to
  pub there : ShowsOthers shown lines others at

-- going on, others are met at that position, and none before it
pub record MeetsNext (shown : ℕ → List ℕ) (lines others : List ℕ) (from at : ℕ) : Type 0 where
  pub later : from + 1 ≤ at
  pub same : AllShow shown lines from (at - 1)
  pub there : ShowsOthers shown lines others at

-- the step of that number changed them, from the lines of the one side to those of the other
pub record IsChange (shown : ℕ → List ℕ) (number : ℕ) (change : Change) : Type 0 where
  pub before : string_bytes change.before ≡ shown (number - 1)
  pub after : string_bytes change.after ≡ shown number
  pub changed : shown number ≢ shown (number - 1)

-- the position goes back to the one after the last step that changed them, or to the start where
-- none did
pub record FindsLast (shown : ℕ → List ℕ) (p : Place) (found : Option Change) (q : Place)
    : Type 0 where
  pub history : q.history ≡ p.history
  pub back : q.at ≤ p.at
  pub same : IsSame shown q.at p.at
  pub outcome : MatchOption found (q.at ≡ 0) (λ change. (1 ≤ q.at) × IsChange shown q.at change)

-- it goes on to the one after the next step that changes them
pub record ChangesNext (shown : ℕ → List ℕ) (p : Place) (change : Change) (q : Place) : Type 0 where
  pub later : p.at + 1 ≤ q.at
  pub inside : q.at ≤ length p.history
  pub same : IsSame shown p.at (q.at - 1)
  pub is : IsChange shown q.at change

-- none does, and it goes on to the end
pub record StaysSame (shown : ℕ → List ℕ) (p q : Place) : Type 0 where
  pub at : q.at ≡ length p.history
  pub same : IsSame shown p.at q.at

pub record FindsNext (shown : ℕ → List ℕ) (p : Place) (found : Option Change) (q : Place)
    : Type 0 where
  pub history : q.history ≡ p.history
  pub outcome : MatchOption found (StaysSame shown p q) (λ change. ChangesNext shown p change q)

-- the step of that number is reported, and by which lines they differ
pub record ReportsStep (names : Names) (history : List Accepted) (number : ℕ)
    (before after text : List ℕ) : Type 0 where
  pub entry : Accepted
  pub made : slice_get (reverse history) (number - 1) ≡ Some entry
  pub report :
      text
      ≡ codes "at "
      ++ (decimal number
      ++ (codes ": " ++ (step_made_text names entry.step ++ 10 ∷ differing before after)))

-- what was found is reported: the step directly before the position, or that there is none
abbrev pub ReportsFound : Names → List Accepted → ℕ → Option Change → List ℕ → Type 0
ReportsFound names history at found text =
    MatchOption found (text ≡ codes "at " ++ (decimal at ++ codes ": no change\n"))
    (λ change.
    ReportsStep names history at (string_bytes change.before) (string_bytes change.after)
    text)
