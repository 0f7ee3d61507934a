-- What a step of a history is to its transaction. Own rules.
use Rattle.std.specs.Prelude.{◌≡◌, ℕ, Bool, true, false, ◌&&◌, ◌||◌, ◌==◌, List, Option, Some, None, option_map}
use Rattle.tx_base.specs.declared.steps.Accepted.{Accepted}
use Rattle.tx_base.specs.declared.steps.Step.{Step}
use Rattle.tx_laws.specs.OneMoment.{is_sent_to, looks_at_signals, tells_moment}
use Rattle.tx_model.specs.Events.{effect, process_of}
use Rattle.tx_model.specs.History.{role_in}
use Rattle.tx_model.specs.Membership.{Continues, Parks, Forks, Begins, Progress, Role, Outside, Within, Commits, Aborts}
use Rattle.tx_model.specs.State.{Sending, State}
use Rattle.tx_model.specs.View.{View, event_on, present, role_on}
use Rattle.tx_reserve.specs.Reservations.{number_of}
use Rattle.tx_journal.specs.declared.notes.Note.{Note}

-- what a step is to its transaction: who started it, if the step is of one; whether the step is its
-- first; whether the step commits it; and whether it shows its moment
pub record Noted : Type 0 where
  pub starter : Option ℕ
  pub begins : Bool
  pub commits : Bool
  pub reveals : Bool

-- the starter of the transaction that a step is of, by its role
abbrev pub starter_by : Role → Option ℕ
starter_by Outside = None
starter_by (Within s progress) = Some s
starter_by (Commits s) = Some s
starter_by (Aborts s status) = Some s

abbrev pub is_begin : Progress → Bool
is_begin Continues = false
is_begin Parks = false
is_begin (Forks child) = false
is_begin (Begins defers) = true

-- whether the step is the first one of its transaction
abbrev pub begins_one : Role → Bool
begins_one Outside = false
begins_one (Within s progress) = is_begin progress
begins_one (Commits s) = false
begins_one (Aborts s status) = false

-- whether the step commits its transaction
abbrev pub commits_one : Role → Bool
commits_one Outside = false
commits_one (Within s progress) = false
commits_one (Commits s) = true
commits_one (Aborts s status) = false

-- whether the step shows the moment of the transaction of this starter; false if there is none
abbrev pub reveals_of : Option ℕ → State → Accepted → List Accepted → Bool
reveals_of None S e h = false
reveals_of (Some s) S e h = tells_moment S s e h

-- what a step of a history is to its transaction
abbrev pub note_of : State → Accepted → List Accepted → Noted
note_of S e h = record {
  starter = starter_by (role_in S e h);
  begins = begins_one (role_in S e h);
  commits = commits_one (role_in S e h);
  reveals = reveals_of (starter_by (role_in S e h)) S e h;
}

-- the note, with numbers in place of processes
abbrev pub noted : Note → Noted
noted note =
    record {
      starter = option_map number_of note.starter;
      begins = note.begins;
      commits = note.commits;
      reveals = note.reveals;
    }

-- the note says what the step is to its transaction
abbrev pub IsNoteOf : State → Accepted → List Accepted → Note → Type 0
IsNoteOf S e h note = noted note ≡ note_of S e h

-- whether a step of process p, which looks at its signals or not and with which this is posted,
-- shows the moment of the transaction of this starter
abbrev pub reveals_by : Option ℕ → ℕ → Bool → List Sending → Bool
reveals_by None p looks ms = false
reveals_by (Some s) p looks ms = (p == s && looks) || is_sent_to s ms

-- the same as the note of a step, by its role
abbrev pub noted_by : Role → ℕ → Bool → List Sending → Noted
noted_by role p looks ms =
    record {
      starter = starter_by role;
      begins = begins_one role;
      commits = commits_one role;
      reveals = reveals_by (starter_by role) p looks ms;
    }

-- the note says what the step is to its transaction on the view
abbrev pub IsNoteOn : View → Step → Note → Type 0
IsNoteOn V step note =
    noted note
    ≡ noted_by (role_on V step) (process_of step) (looks_at_signals step)
    (effect (event_on V step) (present V)).sends
