-- A committed transaction as one moment: the history with its steps put together, and when nothing
-- shows the difference. Own rules.
use Rattle.std.specs.Prelude.{ℕ, Bool, true, false, ◌&&◌, ◌||◌, not, List, [], ◌∷◌, ◌++◌, if◌then◌else◌, ◌==◌}
use Rattle.tx_base.specs.declared.steps.Accepted.{Accepted}
use Rattle.tx_base.specs.declared.steps.Call.{Call}
use Rattle.tx_base.specs.declared.steps.Call.TheVariants as call
use Rattle.tx_base.specs.declared.steps.Step.{Step}
use Rattle.tx_base.specs.declared.steps.Step.TheVariants.{Call as Calls, Deliver, KernelAbort}
use Rattle.tx_model.specs.State.{State, Sending}
use Rattle.tx_model.specs.Events.{effect, process_of}
use Rattle.tx_model.specs.Membership.{Continues, Parks, Forks, Begins, Role, Outside, Within, Commits, Aborts}
use Rattle.tx_model.specs.History.{nobody, without, role_in, event_of}

-- some steps of a history, and the others, each the newest first
pub record Parted : Type 0 where
  pub own : List Accepted
  pub others : List Accepted

abbrev pub with_own : Accepted → Parted → Parted
with_own e p = record { own = e ∷ p.own; others = p.others }

abbrev pub with_other : Accepted → Parted → Parted
with_other e p = record { own = p.own; others = e ∷ p.others }

-- whether the step is of the transaction of s that lives then
abbrev pub is_step_of : ℕ → Role → Bool
is_step_of s Outside = false
is_step_of s (Within t progress) = t == s
is_step_of s (Commits t) = t == s
is_step_of s (Aborts t status) = t == s

-- whether it is the first one of that transaction
abbrev pub begins_it : ℕ → Role → Bool
begins_it s Outside = false
begins_it s (Within t Continues) = false
begins_it s (Within t Parks) = false
begins_it s (Within t (Forks child)) = false
begins_it s (Within t (Begins defers)) = t == s
begins_it s (Commits t) = false
begins_it s (Aborts t status) = false

-- the steps of the transaction of s that lives at the end of the history, back to its first, and
-- all other steps
unfoldable pub parted : State → ℕ → List Accepted → Parted
parted S s [] = record { own = []; others = [] }
parted S s (e ∷ h) =
    if begins_it s (role_in S e h) then record { own = e ∷ []; others = h }
    else (if is_step_of s (role_in S e h)
    then with_own e (parted S s h)
    else with_other e (parted S s h))

-- the history in which the steps of the transaction that a step commits are directly before that
-- step
abbrev pub moved_to : State → ℕ → Accepted → List Accepted → List Accepted
moved_to S s e h = e ∷ (parted S s h).own ++ (parted S s h).others

-- the whole history, with what follows the committing step
abbrev pub moved_history : State → ℕ → List Accepted → Accepted → List Accepted → List Accepted
moved_history S s later e h = later ++ moved_to S s e h

-- the call looks at the signals of its process, whatever it answers
abbrev pub call_looks : Call → Bool
call_looks (call.Sigaction signo action) = true
call_looks call.Sigpending = true
call_looks c = false

-- the step looks at the signals of its process: it is such a call, or a delivery
abbrev pub looks_at_signals : Step → Bool
looks_at_signals (Calls p call) = call_looks call
looks_at_signals (Deliver p signo) = true
looks_at_signals (KernelAbort starter) = false

unfoldable pub is_sent_to : ℕ → List Sending → Bool
is_sent_to s [] = false
is_sent_to s (m ∷ ms) = m.target == s || is_sent_to s ms

-- a step of the transaction of s shows its moment: the starter looks at its signals, or a send goes
-- to the starter, whatever it is answered
abbrev pub tells_moment : State → ℕ → Accepted → List Accepted → Bool
tells_moment S s e h =
    (process_of e.step == s && looks_at_signals e.step)
    || is_sent_to s (effect (event_of S e h) (without S nobody h)).sends

-- no step of the transaction of s, back to its first, shows its moment
unfoldable pub is_silent : State → ℕ → List Accepted → Bool
is_silent S s [] = true
is_silent S s (e ∷ h) =
    if begins_it s (role_in S e h) then true
    else (if is_step_of s (role_in S e h)
    then not (tells_moment S s e h) && is_silent S s h
    else is_silent S s h)

-- the transaction of s that the step commits may count as one moment
abbrev pub is_one_moment : State → ℕ → Accepted → List Accepted → Bool
is_one_moment S s e h = not (tells_moment S s e h) && is_silent S s h
