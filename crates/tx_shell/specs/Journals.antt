-- The steps of a session, as they are listed, and as the text that makes them again.
use Rattle.std.specs.Prelude.{ℕ, ◌+◌, ◌&&◌, List, [], ◌∷◌, ◌++◌, codes, length, map, nat_eq, nat_le, reverse, take, if◌then◌else◌}
use Rattle.std.specs.Fmt.{decimal}
use Rattle.tx_base.specs.declared.steps.Accepted.{Accepted}
use Rattle.tx_base.specs.declared.steps.Step.{Step}
use Rattle.tx_journal.specs.declared.entry.Entry.{Entry}
use Rattle.tx_lines.specs.Lines.{step_text}
use Rattle.tx_lines.specs.Schedule.{schedule_text}
use Rattle.tx_script.specs.Debug.{position_text}
use Rattle.tx_shell.specs.Origins.{header_in, Origin}
use Rattle.tx_shell.specs.Places.{Place}
use Rattle.tx_state_text.specs.Replies.{named_reply_text}

-- the line of the position, where it is that one
abbrev pub mark_at : ℕ → ℕ → List ℕ
mark_at at number = if nat_eq at number then position_text at else []

-- the line of a step, as the report of a run has it, with the name of an error: its number, its
-- worker, which is 1, the step, and its reply; and the position after it. Both where its number is
-- between those two
abbrev pub listed_between : ℕ → ℕ → ℕ → ℕ → Accepted → List ℕ
listed_between at first last number e =
    if nat_le first number && nat_le number last
    then decimal number
    ++ (codes " w1 "
    ++ (step_text e.step
    ++ (codes " : " ++ (named_reply_text e.reply ++ 10 ∷ mark_at at number)))) else []

-- the lines of some things by their numbers, from that one on
abbrev pub by_number : {A B : Type 0} → (ℕ → A → List B) → ℕ → List A → List B
by_number say number [] = []
by_number say number (x ∷ xs) = say number x ++ by_number say (number + 1) xs

-- position 0 is before the first step
abbrev pub mark_before : ℕ → ℕ → List ℕ
mark_before at first = if nat_le first 1 then mark_at at 0 else []

-- some lines, or that there are none, and how many steps there are
abbrev pub or_no_steps : ℕ → List ℕ → List ℕ
or_no_steps count [] = codes "no such steps: there are " ++ (decimal count ++ 10 ∷ [])
or_no_steps count (byte ∷ bytes) = byte ∷ bytes

-- the steps of those numbers, and the position where it is among them, or that there are none
abbrev pub steps_listed : Place → ℕ → ℕ → List ℕ
steps_listed p first last =
    or_no_steps (length p.history)
    (mark_before p.at first ++ by_number (listed_between p.at first last) 1 (reverse p.history))

-- the steps of some entries
abbrev pub steps_of : List Entry → List Step
steps_of entries = map (λ (entry : Entry). entry.step) entries

-- the steps that are made, the oldest first
abbrev pub steps_made : Place → List Step
steps_made p = map (λ (e : Accepted). e.step) (take p.at (reverse p.history))

-- the text of the schedule that makes them
abbrev pub schedule_so_far : Origin → Place → List ℕ
schedule_so_far o p = schedule_text (header_in o) (steps_made p)
