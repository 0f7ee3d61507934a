-- What comes and goes at a terminal, and which of it is a session.
use Rattle.std.specs.Prelude.{◌≡◌, ◌≢◌, ◌⊎◌, ℕ, ◌+◌, ◌≤◌, Bool, List, [], ◌∷◌, ◌++◌, length, take, Option, Some, None, Result, Ok, Err, if◌then◌else◌}
use Rattle.tx_translate.specs.MeantLines.{behind}
use Rattle.tx_shell.specs.Cuts.{front_line}
use Rattle.tx_shell.specs.Standings.{Answers, IsQuit, Standing, Stops}
use Rattle.tx_shell.specs.declared.sessions.ServeFault.{ServeFault}
use Rattle.tx_shell.specs.declared.sessions.TheConstants.{LINES}
use Rattle.tx_shell.specs.declared.sessions.ServeFault.TheVariants as faults

-- a line came, there is no more, a text went, or the terminal failed
pub data Event : Type 0 where
  Line : List ℕ → Event
  End : Event
  Text : List ℕ → Event
  Failure : Event

-- all that came and went at a terminal, the bytes that are still to come, and those that were
-- shown; each where it is known
pub record Traffic : Type 0 where
  pub log : Option (List Event)
  pub coming : Option (List ℕ)
  pub shown : Option (List ℕ)

-- what came and went, where it is known, is followed by these
abbrev pub Logs : Option (List Event) → List Event → Option (List Event) → Type 0
Logs None events log = log ≡ None
Logs (Some before) events log = log ≡ Some (before ++ events)

-- the lines that came are those of the bytes to come, the first one first, and the end came where
-- there are no more; after a failure nothing is known
abbrev pub ComeFrom : List ℕ → List Event → Option (List ℕ) → Type 0
ComeFrom bytes [] coming = coming ≡ Some bytes
ComeFrom bytes (Line line ∷ events) coming =
    (bytes ≢ []) × (line ≡ front_line bytes) × ComeFrom (behind bytes) events coming
ComeFrom bytes (End ∷ events) coming = (bytes ≡ []) × ComeFrom bytes events coming
ComeFrom bytes (Text text ∷ events) coming = ComeFrom bytes events coming
ComeFrom bytes (Failure ∷ events) coming = Unit {0}

abbrev pub Comes : Option (List ℕ) → List Event → Option (List ℕ) → Type 0
Comes None events coming = Unit {0}
Comes (Some bytes) events coming = ComeFrom bytes events coming

-- the texts that went are appended to what was shown, one after another
abbrev pub GoTo : List ℕ → List Event → Option (List ℕ) → Type 0
GoTo bytes [] shown = shown ≡ Some bytes
GoTo bytes (Line line ∷ events) shown = GoTo bytes events shown
GoTo bytes (End ∷ events) shown = GoTo bytes events shown
GoTo bytes (Text text ∷ events) shown = GoTo (bytes ++ text) events shown
GoTo bytes (Failure ∷ events) shown = Unit {0}

abbrev pub Goes : Option (List ℕ) → List Event → Option (List ℕ) → Type 0
Goes None events shown = Unit {0}
Goes (Some bytes) events shown = GoTo bytes events shown

-- the traffic is followed by these
pub record Continues (before : Traffic) (events : List Event) (after : Traffic) : Type 0 where
  pub logged : Logs before.log events after.log
  pub came : Comes before.coming events after.coming
  pub went : Goes before.shown events after.shown

-- what is shown where nobody is asked for a line: all that is written
abbrev pub unprompted : Bool → Option (List ℕ) → Option (List ℕ)
unprompted prompts written = if prompts then None else written

-- the traffic between a reader that has these bytes left and a writer that holds those
abbrev pub traffic_between : Option (List ℕ) → Option (List ℕ) → Bool → Traffic
traffic_between left written prompts =
    record { log = None; coming = left; shown = unprompted prompts written }

-- each line has its answer directly after it, and leads from one standing to another
unfoldable pub Exchanges : Standing → List Event → Standing → Type 0
Exchanges s [] t = t ≡ s
Exchanges s (Line line ∷ Text text ∷ events) t =
    (r : Standing) × Answers s line text r × Exchanges r events t
Exchanges s events t = ⊥

-- a line came, and a front of its answer went before the terminal failed
pub record IsCutOff (s : Standing) (last : List Event) (t : Standing) : Type 0 where
  pub line : List ℕ
  pub text : List ℕ
  pub count : ℕ
  pub answers : Answers s line text t
  pub inside : count ≤ length text
  pub events : last ≡ Line line ∷ Text (take count text) ∷ Failure ∷ []

-- how many lines came
abbrev pub lines_among : List Event → ℕ
lines_among [] = 0
lines_among (Line line ∷ events) = lines_among events + 1
lines_among (End ∷ events) = lines_among events
lines_among (Text text ∷ events) = lines_among events
lines_among (Failure ∷ events) = lines_among events

-- how a session ends after so many lines, by its outcome: with the end of the lines, or one that
-- asks for that; with a failure while a line is awaited, or while an answer is shown; with a line
-- for which memory was refused; or after the most lines
abbrev pub EndsBy : Standing → ℕ → List Event → Standing → Result (Unit {0}) ServeFault → Type 0
EndsBy s lines events t (Ok _) =
    (t ≡ s) × ((events ≡ End ∷ []) ⊎ ((line : List ℕ) × (events ≡ Line line ∷ []) × IsQuit s line))
EndsBy s lines events t (Err faults.Reader) = (t ≡ s) × (events ≡ Failure ∷ [])
EndsBy s lines events t (Err faults.Writer) = IsCutOff s events t
EndsBy s lines events t (Err faults.NoMemory) =
    (line : List ℕ) × (events ≡ Line line ∷ []) × Stops s line t
EndsBy s lines events t (Err faults.TooMany) = (t ≡ s) × (events ≡ []) × (lines ≡ LINES)

-- a whole session: lines and their answers, and its end
pub record IsServed (s t : Standing) (before after : Traffic)
    (result : Result (Unit {0}) ServeFault) : Type 0 where
  pub answered : List Event
  pub last : List Event
  pub at : Standing
  pub events : Continues before (answered ++ last) after
  pub exchanges : Exchanges s answered at
  pub ends : EndsBy at (lines_among answered) last t result
