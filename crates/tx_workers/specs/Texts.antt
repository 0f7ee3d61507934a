-- From the text of a program to the text of its run.
use Rattle.std.specs.Prelude.{◌≡◌, ◌<◌, ℕ, List, [], Option, Result, Ok, Err}
use Rattle.std.specs.Io.KnownBytes.{Appends, Keeps}
use Rattle.tx_journal.specs.Sessions.{SessionState}
use Rattle.tx_lines.specs.Ends.{Counts}
use Rattle.tx_lines.specs.Lines.{most_of}
use Rattle.tx_translate.specs.MeantPrograms.{MeansProgram, MeansProgramFrom}
use Rattle.tx_lines.specs.Whole.{IsCalm, WritesWhole}
use Rattle.tx_lines.specs.declared.faults.Fault.TheVariants as fault
use Rattle.tx_lines.specs.declared.programs.Program.{Program}
use Rattle.tx_lines.specs.declared.read.header.Header.{Header}
use Rattle.tx_workers.specs.Runs.{IsWorked}
use Rattle.tx_workers.specs.declared.faults.WorkFault.{WorkFault}
use Rattle.tx_workers.specs.declared.faults.WorkFault.TheVariants.{Spawn}
use Rattle.tx_workers.specs.declared.whole.RunFault.{RunFault}
use Rattle.tx_workers.specs.declared.whole.RunFault.TheVariants.{Text, Work}
use Rattle.tx_workers.specs.declared.worker.Worker.{Worker}

-- a session before its first step, booted as the header says
pub record IsBooted (header : Header) (session : SessionState) : Type 0 where
  pub entries : session.entries ≡ []
  pub inverses : session.inverses ≡ []
  pub width : session.width ≡ most_of header.version
  pub count : session.count ≡ header.count

-- what was left to read means a program, and so many workers ran it from its start, each for at
-- most so many turns
pub record IsRunOf (left : Option (List ℕ)) (workers turns : ℕ) (session : SessionState)
    : Type 0 where
  pub program : Program
  pub given : SessionState
  pub crew : List Worker
  pub spelled : MeansProgram left program
  pub booted : IsBooted program.header given
  pub worked : IsWorked program given workers turns session crew

-- what was left to read means a program, and its workers gave nothing back; with no workers no
-- thread is wanted
pub record IsLostRun (left : Option (List ℕ)) (workers : ℕ) (why : WorkFault) : Type 0 where
  pub program : Program
  pub spelled : MeansProgram left program
  pub thread : why ≡ Spawn → 0 < workers

-- a program is read and run; or its text is at fault, or its source; or its run gave nothing back
abbrev pub RunsFrom : Option (List ℕ) → Counts → ℕ → ℕ → Result SessionState RunFault → Counts
    → Type 0
RunsFrom left reads workers turns (Ok session) reads' =
    IsRunOf left workers turns session × IsCalm reads reads'
RunsFrom left reads workers turns (Err (Text why)) reads' =
    MeansProgramFrom left reads (Err why) reads'
RunsFrom left reads workers turns (Err (Work why)) reads' =
    IsLostRun left workers why × IsCalm reads reads'

-- a program is read, and the report of its run is written, or a front of it, or nothing, as the
-- fault says
abbrev pub RunsText : (SessionState → List ℕ) → Option (List ℕ) → Counts → Option (List ℕ) → Counts
    → ℕ → ℕ → Result (Unit {0}) RunFault → Counts → Option (List ℕ) → Counts → Type 0
RunsText report left reads written writes workers turns (Ok _) reads' written' writes' =
    ((session : SessionState)
    × IsRunOf left workers turns session
    × Appends written written' (report session))
    × IsCalm reads reads'
    × IsCalm writes writes'
RunsText report left reads written writes workers turns (Err (Text fault.Writer)) reads' written'
    writes' =
    (session : SessionState)
    × IsRunOf left workers turns session
    × WritesWhole written writes (report session) (Err fault.Writer) written' writes'
RunsText report left reads written writes workers turns (Err (Text why)) reads' written' writes' =
    MeansProgramFrom left reads (Err why) reads' × Keeps written written'
RunsText report left reads written writes workers turns (Err (Work why)) reads' written' writes' =
    IsLostRun left workers why × IsCalm reads reads' × Keeps written written'
