-- The laws of histories and of the views of histories, one statement a name. Own rules.
use Rattle.std.specs.Prelude.{◌≡◌, ◌≤◌, ℕ, All, List, [], ◌∷◌, ◌++◌}
use Rattle.tx_base.specs.declared.steps.Accepted.{Accepted}
use Rattle.tx_base.specs.declared.steps.Step.{Step}
use Rattle.tx_model.specs.Posts.{after_post}
use Rattle.tx_model.specs.State.{Sending, State, boot_state}
use Rattle.tx_model.specs.Events.{Event, after, process_of}
use Rattle.tx_model.specs.History.{Starters, survivors}
use Rattle.tx_model.specs.Membership.{Role}
use Rattle.tx_model.specs.Schedules.{history_of}
use Rattle.tx_model.specs.View.{View, view, next, role_on, event_on}
use Rattle.tx_model.specs.Words.{next_by}
use Rattle.tx_model.specs.Answer.{answer, IsAccepted, Lawful, Agreement}
use Rattle.tx_laws.specs.Fits.{Fits, Passes}
use Rattle.tx_laws.specs.Places.{survivors_by_place}
use Rattle.tx_laws.specs.Sound.{IsSound}
use Rattle.tx_laws.specs.WellFormed.{HasGoodNumbers, IsHeldSending, IsSendable, IsWellFormed}

-- each surviving step of a prefix of a lawful history has the reply of its event in the plain run
-- of the survivors
abbrev pub PrefixesAgree : Type 0
PrefixesAgree =
    (start : State) (later earlier : List Accepted) → Lawful start (later ++ earlier)
    → Agreement start earlier

-- the survivors by places are the survivors
abbrev pub SurvivorsAreByPlace : Type 0
SurvivorsAreByPlace = (start : State) (left_out : Starters) (history : List Accepted) →
    survivors start left_out history ≡ survivors_by_place start left_out [] history

-- the view of a lawful history is the next view of that of the entries before its last
abbrev pub LawfulViewIsNext : Type 0
LawfulViewIsNext = (start : State) (last : Accepted) (earlier : List Accepted) →
    Lawful start (last ∷ earlier)
    → view start (last ∷ earlier) ≡ next (view start earlier) last.step

-- the view of a lawful history is sound
abbrev pub LawfulViewIsSound : Type 0
LawfulViewIsSound =
    (start : State) (history : List Accepted) → Lawful start history → IsSound (view start history)

-- the view of the empty history is sound
abbrev pub StartIsSound : Type 0
StartIsSound = (start : State) → IsSound (view start [])

-- the next view of a sound view by an accepted step is sound
abbrev pub NextIsSound : Type 0
NextIsSound =
    (view : View) (step : Step) → IsSound view → IsAccepted (answer view step)
    → IsSound (next view step)

-- the event of an accepted step fits the role of the step, and nobody is in its way
abbrev pub AcceptedStepsFit : Type 0
AcceptedStepsFit = (view : View) (step : Step) → IsSound view → IsAccepted (answer view step) →
    Passes (role_on view step) (event_on view step) view
    × Fits (role_on view step) (event_on view step) (process_of step) view

-- a booted state is well formed
abbrev pub BootedIsWellFormed : Type 0
BootedIsWellFormed =
    (width count : ℕ) → 1 ≤ count → count ≤ width → IsWellFormed (boot_state width count)

-- an event with numbers in range leaves a well-formed state so
abbrev pub EventKeepsForm : Type 0
EventKeepsForm =
    (event : Event) (state : State) → IsWellFormed state → HasGoodNumbers state.width event
    → IsWellFormed (after event state)

-- a post of a signal that may be on its way leaves a well-formed state so
abbrev pub PostKeepsForm : Type 0
PostKeepsForm =
    (sending : Sending) (state : State) → IsSendable sending → IsWellFormed state
    → IsWellFormed (after_post sending state)

-- a well-formed state stays so with other known signals held
abbrev pub HeldKeepsForm : Type 0
HeldKeepsForm = (held : ℕ → List Sending) (state : State) →
    ((starter : ℕ) → All (IsHeldSending state.width) (held starter)) → IsWellFormed state
    → IsWellFormed (record state { held = held })

-- in each role that fits the event, the next view of a sound one is sound
abbrev pub RolesKeepSound : Type 0
RolesKeepSound = (role : Role) (event : Event) (process : ℕ) (view : View) →
    IsSound view → Passes role event view → Fits role event process view
    → IsSound (next_by role event process view)

-- if every state of a sound view is well formed, so is every state of the next view by an accepted
-- step
abbrev pub NextIsWellFormed : Type 0
NextIsWellFormed = (view : View) (step : Step) → IsSound view → IsAccepted (answer view step) →
    ((left_out : Starters) → IsWellFormed (view.without left_out)) → (left_out : Starters)
    → IsWellFormed ((next view step).without left_out)

-- a schedule of steps after a lawful history leaves a lawful history
abbrev pub SchedulesAreLawful : Type 0
SchedulesAreLawful =
    (start : State) (history : List Accepted) (steps : List Step) → Lawful start history
    → Lawful start (history_of start history steps)
