-- Schedules whose committed transactions are taken as one moment, worked out to the end. Own rules.
use Rattle.std.specs.Prelude.{◌≡◌, true, false, List, [], ◌∷◌, pos}
use Rattle.tx_base.specs.declared.signals.Action.TheVariants.{Ignore}
use Rattle.tx_base.specs.declared.steps.Accepted.{Accepted}
use Rattle.tx_base.specs.declared.steps.Call.TheVariants.{Map, Load, Exit, Sigaction, Sigpending, SysXbegin, SysXend}
use Rattle.tx_base.specs.declared.steps.Reply.{Reply}
use Rattle.tx_base.specs.declared.steps.Reply.TheVariants.{Ended}
use Rattle.tx_base.specs.declared.steps.Step.{Step}
use Rattle.tx_model.specs.State.{boot_state}
use Rattle.tx_model.specs.Schedules.{history_of}
use Rattle.tx_laws.specs.OneMoment.{moved_history, is_one_moment}
use Rattle.tx_examples.specs.WorkedSteps.{calls, delivery, store, fork, kill, ok, error, committed}

-- the step was answered so
abbrev pub answered : Step → Reply → Accepted
answered step reply = record { step = step; reply = reply }

-- a transaction of process 2, with steps of process 3 between its own and after them
abbrev pub apart : List Step
apart =
    calls 2 SysXbegin
    ∷ calls 3 (Map (pos 0))
    ∷ calls 2 (Map (pos 1))
    ∷ calls 3 (store (pos 0) (170 ∷ []))
    ∷ calls 2 SysXend
    ∷ calls 3 (Load (pos 0))
    ∷ []

-- its history up to the commit, the newest step first
abbrev pub apart_before : List Accepted
apart_before =
    answered (calls 3 (store (pos 0) (170 ∷ []))) (ok 0)
    ∷ answered (calls 2 (Map (pos 1))) (ok 0)
    ∷ answered (calls 3 (Map (pos 0))) (ok 0)
    ∷ answered (calls 2 SysXbegin) (ok 0)
    ∷ []

abbrev pub commit_of_two : Accepted
commit_of_two = answered (calls 2 SysXend) committed

-- the step after the commit
abbrev pub load_of_three : Accepted
load_of_three = answered (calls 3 (Load (pos 0))) (ok 170)

abbrev pub ApartHistory : Type 0
ApartHistory = history_of (boot_state 256 3) [] apart ≡ load_of_three ∷ commit_of_two ∷ apart_before

-- the steps of the transaction are together, and nothing shows that they were not
abbrev pub ApartMoved : Type 0
ApartMoved =
    (moved_history (boot_state 256 3) 2 (load_of_three ∷ []) commit_of_two apart_before
    ≡ load_of_three
    ∷ commit_of_two
    ∷ answered (calls 2 (Map (pos 1))) (ok 0)
    ∷ answered (calls 2 SysXbegin) (ok 0)
    ∷ answered (calls 3 (store (pos 0) (170 ∷ []))) (ok 0)
    ∷ answered (calls 3 (Map (pos 0))) (ok 0)
    ∷ [])
    × (is_one_moment (boot_state 256 3) 2 commit_of_two apart_before ≡ true)

-- a starter takes an outsider's signal inside
abbrev pub looked_at : List Step
looked_at =
    calls 2 (Sigaction (pos 10) Ignore)
    ∷ calls 2 SysXbegin
    ∷ calls 3 (kill 2 10)
    ∷ delivery 2 10
    ∷ calls 2 SysXend
    ∷ []

abbrev pub looked_at_before : List Accepted
looked_at_before =
    answered (delivery 2 10) (ok 0)
    ∷ answered (calls 3 (kill 2 10)) (ok 0)
    ∷ answered (calls 2 SysXbegin) (ok 0)
    ∷ answered (calls 2 (Sigaction (pos 10) Ignore)) (ok 0)
    ∷ []

abbrev pub LookedAtHistory : Type 0
LookedAtHistory = history_of (boot_state 256 3) [] looked_at ≡ commit_of_two ∷ looked_at_before

-- the delivery shows that the signal was sent before it
abbrev pub LookedAtMoved : Type 0
LookedAtMoved =
    (moved_history (boot_state 256 3) 2 [] commit_of_two looked_at_before
    ≡ commit_of_two
    ∷ answered (delivery 2 10) (ok 0)
    ∷ answered (calls 2 SysXbegin) (ok 0)
    ∷ answered (calls 3 (kill 2 10)) (ok 0)
    ∷ answered (calls 2 (Sigaction (pos 10) Ignore)) (ok 0)
    ∷ [])
    × (is_one_moment (boot_state 256 3) 2 commit_of_two looked_at_before ≡ false)

-- a child looks at its own signals inside, and ends: its starter gets SIGCHLD, which shows the
-- moment
abbrev pub child_ends : List Step
child_ends =
    calls 2 SysXbegin ∷ calls 2 (fork 4) ∷ calls 4 Sigpending ∷ calls 4 (Exit (pos 0))
    ∷ calls 2 SysXend ∷ []

abbrev pub child_looks : List Accepted
child_looks =
    answered (calls 4 Sigpending) (ok 0) ∷ answered (calls 2 (fork 4)) (ok 4)
    ∷ answered (calls 2 SysXbegin) (ok 0) ∷ []

abbrev pub ChildEndsHistory : Type 0
ChildEndsHistory =
    history_of (boot_state 256 3) [] child_ends
    ≡ commit_of_two ∷ answered (calls 4 (Exit (pos 0))) Ended ∷ child_looks

abbrev pub ChildEndsTells : Type 0
ChildEndsTells =
    is_one_moment (boot_state 256 3) 2 commit_of_two
    (answered (calls 4 (Exit (pos 0))) Ended ∷ child_looks)
    ≡ false

-- the child ends its part and not itself: nothing shows it
abbrev pub child_parks : List Step
child_parks =
    calls 2 SysXbegin ∷ calls 2 (fork 4) ∷ calls 4 Sigpending ∷ calls 4 SysXend ∷ calls 2 SysXend
    ∷ []

abbrev pub ChildParksHistory : Type 0
ChildParksHistory =
    history_of (boot_state 256 3) [] child_parks
    ≡ commit_of_two ∷ answered (calls 4 SysXend) (ok 0) ∷ child_looks

abbrev pub ChildParksTellsNothing : Type 0
ChildParksTellsNothing =
    is_one_moment (boot_state 256 3) 2 commit_of_two
    (answered (calls 4 SysXend) (ok 0) ∷ child_looks)
    ≡ true

-- process 2 began its transaction, and made one step in it
abbrev pub one_step : Step → Reply → List Accepted
one_step step reply = answered step reply ∷ answered (calls 2 SysXbegin) (ok 0) ∷ []

-- the starter looks at what is pending, or at an action, though of no signal
abbrev pub StarterLooks : Type 0
StarterLooks =
    (is_one_moment (boot_state 256 3) 2 commit_of_two (one_step (calls 2 Sigpending) (ok 0))
    ≡ false)
    × (is_one_moment (boot_state 256 3) 2 commit_of_two
    (one_step (calls 2 (Sigaction (pos 4) Ignore)) (error 22))
    ≡ false)

-- it asks whether it is there itself, and whether another process is; or sends an unknown signal,
-- which is no signal
abbrev pub StarterSends : Type 0
StarterSends =
    (is_one_moment (boot_state 256 3) 2 commit_of_two (one_step (calls 2 (kill 2 0)) (ok 0))
    ≡ false)
    × (is_one_moment (boot_state 256 3) 2 commit_of_two (one_step (calls 2 (kill 3 10)) (ok 0))
    ≡ true)
    × (is_one_moment (boot_state 256 3) 2 commit_of_two (one_step (calls 2 (kill 2 99)) (error 22))
    ≡ true)

-- what the starter does before it begins, and what others do, shows nothing; the step that commits
-- may
abbrev pub OthersTellNothing : Type 0
OthersTellNothing =
    (is_one_moment (boot_state 256 3) 2 commit_of_two
    (answered (calls 3 Sigpending) (ok 0)
    ∷ answered (calls 2 SysXbegin) (ok 0)
    ∷ answered (calls 2 Sigpending) (ok 0)
    ∷ [])
    ≡ true)
    × (is_one_moment (boot_state 256 3) 2 (answered (delivery 2 10) committed)
    (answered (calls 3 (kill 2 10)) (ok 0) ∷ answered (calls 2 SysXbegin) (ok 0) ∷ [])
    ≡ false)
