-- Schedules of commits whose held signals go to starters of other transactions, worked out to the
-- end. Own rules.
use Rattle.std.specs.Prelude.{◌≡◌, List, [], ◌∷◌, ◌++◌, pos, negsuc, Some, replicate}
use Rattle.tx_base.specs.declared.errors.Errno.TheVariants.{NotPermitted, TryAgain}
use Rattle.tx_base.specs.declared.signals.Action.TheVariants.{Ignore}
use Rattle.tx_base.specs.declared.steps.Call.TheVariants.{Setuid, Seteuid, Sigaction, SysXbegin, SysXend, SysXabort}
use Rattle.tx_base.specs.declared.steps.Reply.TheVariants.{Aborted}
use Rattle.tx_base.specs.declared.steps.Step.{Step}
use Rattle.tx_model.specs.Memory.{no_memory}
use Rattle.tx_model.specs.State.{Ids, State, boot_state}
use Rattle.tx_model.specs.Schedules.{answers_of}
use Rattle.tx_examples.specs.WorkedSteps.{calls, delivery, fork, kill, sigqueue, ok, committed, committed_without, missed, busy_with, state_after, standing, with_one_action, with_one_pending, with_ids, entry, with_queue}

-- a held signal goes to a live starter, whose reservation of itself is not in the way: it is
-- answered the same whatever becomes of that transaction, and is pending after its abort too
abbrev pub starter_told : List Step
starter_told =
    calls 3 SysXbegin ∷ calls 2 SysXbegin ∷ calls 2 (kill 3 10) ∷ calls 2 SysXend
    ∷ calls 3 SysXabort ∷ []

abbrev pub StarterToldAnswers : Type 0
StarterToldAnswers =
    answers_of (boot_state 64 3) [] starter_told ≡ ok 0 ∷ ok 0 ∷ ok 0 ∷ committed ∷ Aborted 201 ∷ []

abbrev pub StarterToldState : Type 0
StarterToldState =
    (state_after (boot_state 64 3) starter_told).procs 3
    ≡ Some (with_one_pending 10 (standing 3 1 (negsuc 200) no_memory))

-- a commit is refused since the second of its signals goes to a starter whose queue may be full
-- again: the first one is not sent then, and once when the commit is made. The sender has other ids
-- at the commit, but not at its calls
abbrev pub refused_commit : List Step
refused_commit =
    calls 3 (Sigaction (pos 32) Ignore)
    ∷ replicate 16 (calls 4 (sigqueue 3 32 0))
    ++ calls 3 SysXbegin
    ∷ delivery 3 32
    ∷ calls 2 SysXbegin
    ∷ calls 2 (sigqueue 4 33 1)
    ∷ calls 2 (sigqueue 3 32 9)
    ∷ calls 2 (Setuid (pos 5))
    ∷ calls 2 SysXend
    ∷ calls 3 SysXabort
    ∷ calls 2 SysXend
    ∷ []

abbrev pub RefusedCommitAnswers : Type 0
RefusedCommitAnswers =
    answers_of (boot_state 64 4) [] refused_commit
    ≡ replicate 23 (ok 0) ++ busy_with 3 ∷ Aborted 201
    ∷ committed_without (missed 3 32 TryAgain ∷ []) ∷ []

-- the user ids 5, and the group ids 0
abbrev pub user_five : Ids
user_five =
    record {
      real_user = 5;
      effective_user = 5;
      saved_user = 5;
      real_group = 0;
      effective_group = 0;
      saved_group = 0;
    }

abbrev pub RefusedCommitState : Type 0
RefusedCommitState =
    let S : State = state_after (boot_state 64 4) refused_commit in
    (S.procs 2 ≡ Some (with_ids user_five (standing 2 5 (pos 0) no_memory)))
    × (S.procs 3
    ≡ Some
    (with_one_action 32 Ignore
    (with_queue (replicate 16 (entry 32 0)) (standing 3 2 (negsuc 200) no_memory))))
    × (S.procs 4 ≡ Some (with_queue (entry 33 1 ∷ []) (standing 4 16 (pos 0) no_memory)))
    × (S.held 2 ≡ [])

-- the first of two signals takes the last place that the queue would have after the abort: the
-- second one is answered otherwise there
abbrev pub last_place_undone : List Step
last_place_undone =
    calls 3 (Sigaction (pos 32) Ignore)
    ∷ replicate 15 (calls 4 (sigqueue 3 32 0))
    ++ calls 3 SysXbegin
    ∷ delivery 3 32
    ∷ calls 2 SysXbegin
    ∷ calls 2 (sigqueue 3 32 1)
    ∷ calls 2 (sigqueue 3 32 2)
    ∷ calls 2 SysXend
    ∷ calls 3 SysXabort
    ∷ calls 2 SysXend
    ∷ []

abbrev pub LastPlaceUndoneAnswers : Type 0
LastPlaceUndoneAnswers =
    answers_of (boot_state 64 4) [] last_place_undone
    ≡ replicate 21 (ok 0) ++ busy_with 3 ∷ Aborted 201
    ∷ committed_without (missed 3 32 TryAgain ∷ []) ∷ []

-- the first one takes the last place that the queue has now, since a member of the other
-- transaction filled it: after its abort there is room for both
abbrev pub last_place_now : List Step
last_place_now =
    calls 3 SysXbegin
    ∷ calls 3 (fork 5)
    ∷ replicate 15 (calls 5 (sigqueue 3 32 0))
    ++ calls 2 SysXbegin
    ∷ calls 2 (sigqueue 3 32 1)
    ∷ calls 2 (sigqueue 3 32 2)
    ∷ calls 2 SysXend
    ∷ calls 3 SysXabort
    ∷ calls 2 SysXend
    ∷ []

abbrev pub LastPlaceNowAnswers : Type 0
LastPlaceNowAnswers =
    answers_of (boot_state 64 3) [] last_place_now
    ≡ ok 0 ∷ ok 5 ∷ replicate 18 (ok 0) ++ busy_with 3 ∷ Aborted 201 ∷ committed ∷ []

abbrev pub LastPlaceNowState : Type 0
LastPlaceNowState =
    (state_after (boot_state 64 3) last_place_now).procs 3
    ≡ Some (with_queue (entry 32 1 ∷ entry 32 2 ∷ []) (standing 3 1 (negsuc 200) no_memory))

-- the first one takes the last place of the queue, now and after the abort: the second one is
-- answered the same, and the commit is made
abbrev pub last_place : List Step
last_place =
    replicate 15 (calls 4 (sigqueue 3 32 0))
    ++ calls 3 SysXbegin
    ∷ calls 2 SysXbegin
    ∷ calls 2 (sigqueue 3 32 1)
    ∷ calls 2 (sigqueue 3 32 2)
    ∷ calls 2 SysXend
    ∷ []

abbrev pub LastPlaceAnswers : Type 0
LastPlaceAnswers =
    answers_of (boot_state 64 4) [] last_place
    ≡ replicate 19 (ok 0) ++ committed_without (missed 3 32 TryAgain ∷ []) ∷ []

-- a sender that was not permitted at its call is not permitted at the commit, though it has other
-- ids then
abbrev pub ids_at_call : List Step
ids_at_call =
    calls 3 (Setuid (pos 8))
    ∷ calls 2 (Seteuid (pos 7))
    ∷ calls 2 SysXbegin
    ∷ calls 2 (kill 3 10)
    ∷ calls 2 (Seteuid (pos 0))
    ∷ calls 2 SysXend
    ∷ []

abbrev pub IdsAtCallAnswers : Type 0
IdsAtCallAnswers =
    answers_of (boot_state 64 3) [] ids_at_call
    ≡ ok 0 ∷ ok 0 ∷ ok 0 ∷ ok 0 ∷ ok 0 ∷ committed_without (missed 3 10 NotPermitted ∷ []) ∷ []
