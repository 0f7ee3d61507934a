-- What commands do in a session, and what they answer.
use Rattle.std.proofs.Common.{◌≡◌, ℕ, List, [], ◌∷◌, ◌++◌, refl, sym, ap, ◌∙◌, append_assoc}
use Rattle.std.proofs.lemmas.List.{append-nil}
use Rattle.tx_base.specs.declared.steps.Accepted.{Accepted}
use Rattle.tx_journal.specs.Entries.{history_of}
use Rattle.tx_journal.specs.Sessions.{SessionState, SameJournal, position_of, start_of}
use Rattle.tx_model.specs.State.{State}
use Rattle.tx_script.proofs.StepsMade.{same_start}
use Rattle.tx_script.specs.Debug.{answers_at, position_after, Writing}
use Rattle.tx_lines.specs.declared.read.command.Command.{Command}

-- so far: the commands that are left answer from the position so far on
pub record CommandsSoFar (written : Writing) (first now : SessionState) (commands left : List Command) (before text : List ℕ) : Type 0 where
  pub answered : before ++ answers_at written (start_of first) (history_of first.entries) (position_of first) commands
      ≡ text ++ answers_at written (start_of first) (history_of first.entries) (position_of now) left
  pub journal : SameJournal now first

pub no_commands : (written : Writing) (first : SessionState) (commands : List Command) (text : List ℕ) → CommandsSoFar written first first commands commands text text
no_commands written first commands text = record { answered = refl; journal = record { entries = refl; boot = record { width = refl; count = refl } } }

pub one_command_more : (written : Writing) (first old new : SessionState) (commands : List Command) (command : Command) (left : List Command) (before text more : List ℕ)
    → CommandsSoFar written first old commands (command ∷ left) before text
    → more ≡ text ++ written (start_of old) (history_of old.entries) (position_of old) command → position_of new ≡ position_after (history_of old.entries) (position_of old) command → SameJournal new old
    → CommandsSoFar written first new commands left before more
one_command_more written first old new commands command left before text more so put moved same = record {
  answered = so.answered
      ∙ sym (append_assoc text (written start history now command) (answers_at written start history (position_after history now command) left))
      ∙ ap (λ (t : List ℕ). t ++ answers_at written start history (position_after history now command) left) (sym (put ∙ ap (λ (t : List ℕ). text ++ t) answer_same))
      ∙ ap (λ (n : ℕ). more ++ answers_at written start history n left) (sym (moved ∙ ap (λ (h : List Accepted). position_after h now command) history_same));
  journal = record {
    entries = same.entries ∙ so.journal.entries;
    boot = record { width = same.boot.width ∙ so.journal.boot.width; count = same.boot.count ∙ so.journal.boot.count };
  };
}
  where
    start : State
    start = start_of first

    history : List Accepted
    history = history_of first.entries

    now : ℕ
    now = position_of old

    history_same : history_of old.entries ≡ history
    history_same = ap history_of so.journal.entries

    answer_same : written (start_of old) (history_of old.entries) now command ≡ written start history now command
    answer_same = ap (λ (S : State). written S (history_of old.entries) now command) (same_start old first so.journal.boot) ∙ ap (λ (h : List Accepted). written start h now command) history_same

pub commands_whole : (written : Writing) (first now : SessionState) (commands left : List Command) (before text : List ℕ) → CommandsSoFar written first now commands left before text → left ≡ []
    → text ≡ before ++ answers_at written (start_of first) (history_of first.entries) (position_of first) commands
commands_whole written first now commands left before text so none =
    sym (so.answered ∙ ap (λ (xs : List Command). text ++ answers_at written (start_of first) (history_of first.entries) (position_of now) xs) none ∙ append-nil text)
