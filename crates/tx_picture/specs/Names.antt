-- Which process a name is for: a number that is forked again is that of another process. Own rules.
use Rattle.std.specs.Prelude.{ℕ, ◌+◌, Bool, ◌&&◌, ◌==◌, List, [], ◌∷◌, ◌++◌, count_by, max, nat_le, Option, Some, if◌then◌else◌}
use Rattle.std.specs.List.{list_any}
use Rattle.tx_base.specs.declared.steps.Reply.{Reply}
use Rattle.tx_base.specs.declared.steps.Step.{Step}
use Rattle.tx_lines.specs.declared.read.header.Header.{Header}
use Rattle.tx_model.specs.Schedules.{answers_of}
use Rattle.tx_picture.specs.Ties.{tie_of}
use Rattle.tx_picture.specs.declared.births.Birth.{Birth}
use Rattle.tx_picture.specs.declared.lives.Life.{Life}
use Rattle.tx_picture.specs.declared.ties.Tie.{Tie}
use Rattle.tx_picture.specs.declared.ties.Tie.TheVariants.{Child}
use Rattle.tx_translate.specs.Written.{NameAt}
use Rattle.tx_script.specs.Report.{start_state}

-- the process that a step of that number makes, if it is a fork that was accepted
abbrev pub birth_by : ℕ → Option Tie → List Birth
birth_by number (Some (Child child)) = record { step = number; process = child } ∷ []
birth_by number tie = []

-- those that some steps make which were answered so, the first of them the step of that number
abbrev pub births_from : ℕ → List Step → List Reply → List Birth
births_from number [] replies = []
births_from number (step ∷ steps) [] = []
births_from number (step ∷ steps) (reply ∷ replies) =
    birth_by number (tie_of step reply) ++ births_from (number + 1) steps replies

-- those that the steps of a schedule make; they are not asked for where there is no name
abbrev pub births_for : List NameAt → Header → List Step → List Birth
births_for [] header steps = []
births_for (name ∷ names) header steps =
    births_from 1 steps (answers_of (start_state header) [] steps)

-- whether process p was made by one of the first k steps
abbrev pub is_birth : ℕ → ℕ → Birth → Bool
is_birth p k birth = birth.process.0 == p && nat_le birth.step k

-- which of the processes of number p is there after the first k steps, where so many processes are
-- there at the start
abbrev pub instance : ℕ → List Birth → ℕ → ℕ → ℕ
instance start births p k =
    let made = count_by (is_birth p k) births in if nat_le p start then made else max 1 made

-- the process that a name is for, which has the name of that place
abbrev pub life_of : ℕ → List Birth → ℕ → NameAt → Life
life_of start births place name =
    record {
      process = record { 0 = name.process };
      instance = instance start births name.process name.position;
      name = place;
    }

abbrev pub is_life : ℕ → ℕ → Life → Bool
is_life p n life = life.process.0 == p && life.instance == n

-- one process more, unless it has a name already
abbrev pub with_life : List Life → Life → List Life
with_life lives life =
    if list_any (is_life life.process.0 life.instance) lives then lives else lives ++ life ∷ []

-- the processes that names are for, the first name that of a place: of several for one process the
-- last one counts
abbrev pub lives_from : ℕ → List Birth → ℕ → List NameAt → List Life
lives_from start births place [] = []
lives_from start births place (name ∷ names) =
    with_life (lives_from start births (place + 1) names) (life_of start births place name)
