-- Schedules of signals that are caught, ignored and blocked, worked out to the end. Own rules.
use Rattle.std.specs.Prelude.{◌≡◌, List, [], ◌∷◌, ◌++◌, pos, negsuc, Some, replicate}
use Rattle.tx_base.specs.declared.signals.Action.TheVariants.{Usual, Ignore, Catch}
use Rattle.tx_base.specs.declared.steps.Call.TheVariants.{Exit, Sigaction, Sigpending, Sigreturn, Getpid}
use Rattle.tx_base.specs.declared.steps.Refusal.TheVariants.{NotDeliverable, FramesFull}
use Rattle.tx_base.specs.declared.steps.Reply.TheVariants.{Ended, No}
use Rattle.tx_base.specs.declared.steps.Step.{Step}
use Rattle.tx_model.specs.Memory.{no_memory}
use Rattle.tx_model.specs.State.{State, boot_state}
use Rattle.tx_model.specs.Schedules.{answers_of}
use Rattle.tx_examples.specs.WorkedSteps.{calls, delivery, kill, sigqueue, block, unblock, block_only, catch, caught_and_unblocked, ok, error, state_after, standing, exited, killed_by, with_one_action, with_mask, with_one_pending, entry, with_queue, saved_at, with_frames}

-- a signal is caught: it is blocked meanwhile, with those of its action (4,096 is the set of signal
-- 12, 5,120 that of 10 and 12)
abbrev pub caught : List Step
caught = calls 2 (catch 10 40 4096) ∷ calls 3 (kill 2 10) ∷ delivery 2 10 ∷ calls 2 Getpid ∷ []

abbrev pub CaughtState : Type 0
CaughtState =
    (state_after (boot_state 64 3) caught).procs 2
    ≡ Some (with_one_action 10 (Catch 40 (record { 0 = 4096 }))
    (with_mask 5120
    (with_frames (saved_at 1 ∷ []) (standing 2 41 (pos 2) no_memory))))

-- the process goes back to where it was, with the mask that it had
abbrev pub caught_back : List Step
caught_back = caught ++ calls 2 Sigreturn ∷ []

abbrev pub CaughtBackAnswers : Type 0
CaughtBackAnswers =
    answers_of (boot_state 64 3) [] caught_back ≡ ok 0 ∷ ok 0 ∷ ok 0 ∷ ok 2 ∷ ok 0 ∷ []

abbrev pub CaughtBackState : Type 0
CaughtBackState =
    (state_after (boot_state 64 3) caught_back).procs 2
    ≡ Some (with_one_action 10 (Catch 40 (record { 0 = 4096 })) (standing 2 1 (pos 0) no_memory))

-- four caught signals may be unfinished: the fifth one must wait for a return
abbrev pub full_frames : List Step
full_frames =
    calls 2 (catch 1 10 0)
    ∷ calls 2 (catch 2 20 0)
    ∷ calls 2 (catch 3 30 0)
    ∷ calls 2 (catch 6 60 0)
    ∷ calls 2 (catch 10 100 0)
    ∷ calls 3 (kill 2 1)
    ∷ calls 3 (kill 2 2)
    ∷ calls 3 (kill 2 3)
    ∷ calls 3 (kill 2 6)
    ∷ calls 3 (kill 2 10)
    ∷ delivery 2 1
    ∷ delivery 2 2
    ∷ delivery 2 3
    ∷ delivery 2 6
    ∷ delivery 2 10
    ∷ calls 2 Sigreturn
    ∷ delivery 2 10
    ∷ []

abbrev pub FullFramesAnswers : Type 0
FullFramesAnswers =
    answers_of (boot_state 64 3) [] full_frames
    ≡ replicate 14 (ok 0) ++ No FramesFull ∷ ok 0 ∷ ok 0 ∷ []

-- realtime signals: the lowest number that is not blocked first, and those of a number in their
-- order
abbrev pub realtime_in_turn : List Step
realtime_in_turn =
    calls 2 (catch 34 40 0)
    ∷ calls 2 (catch 35 50 0)
    ∷ calls 3 (sigqueue 2 35 1)
    ∷ calls 3 (sigqueue 2 34 2)
    ∷ calls 3 (sigqueue 2 34 3)
    ∷ delivery 2 35
    ∷ delivery 2 34
    ∷ delivery 2 34
    ∷ delivery 2 35
    ∷ calls 2 Sigreturn
    ∷ calls 2 Sigreturn
    ∷ delivery 2 35
    ∷ delivery 2 34
    ∷ calls 2 Sigreturn
    ∷ calls 2 Sigreturn
    ∷ []

abbrev pub RealtimeInTurnAnswers : Type 0
RealtimeInTurnAnswers =
    answers_of (boot_state 64 3) [] realtime_in_turn
    ≡ ok 0
    ∷ ok 0
    ∷ ok 0
    ∷ ok 0
    ∷ ok 0
    ∷ No NotDeliverable
    ∷ ok 2
    ∷ No NotDeliverable
    ∷ ok 1
    ∷ ok 2
    ∷ ok 0
    ∷ No NotDeliverable
    ∷ ok 3
    ∷ ok 0
    ∷ error 22
    ∷ []

-- to ignore a signal discards it where it is pending; it may be pending again while it is blocked.
-- SIGKILL is neither ignored nor blocked
abbrev pub ignored : List Step
ignored =
    calls 2 (block 1536)
    ∷ calls 3 (kill 2 10)
    ∷ delivery 2 10
    ∷ calls 2 Sigpending
    ∷ calls 2 (Sigaction (pos 10) Ignore)
    ∷ calls 2 Sigpending
    ∷ calls 2 (Sigaction (pos 9) Ignore)
    ∷ calls 3 (kill 2 10)
    ∷ calls 2 Sigpending
    ∷ calls 3 (kill 2 9)
    ∷ delivery 2 9
    ∷ []

abbrev pub IgnoredAnswers : Type 0
IgnoredAnswers =
    answers_of (boot_state 64 3) [] ignored
    ≡ ok 0
    ∷ ok 0
    ∷ No NotDeliverable
    ∷ ok 1024
    ∷ ok 0
    ∷ ok 0
    ∷ error 22
    ∷ ok 0
    ∷ ok 1024
    ∷ ok 0
    ∷ Ended
    ∷ []

abbrev pub IgnoredState : Type 0
IgnoredState = (state_after (boot_state 64 3) ignored).procs 2 ≡ Some (killed_by 9)

-- a signal to a process that ended is no error, and is not pending there
abbrev pub ended_target : List Step
ended_target = calls 3 (Exit (pos 1)) ∷ calls 2 (kill 3 10) ∷ calls 2 (sigqueue 3 34 1) ∷ []

abbrev pub EndedTargetAnswers : Type 0
EndedTargetAnswers = answers_of (boot_state 64 3) [] ended_target ≡ Ended ∷ ok 0 ∷ ok 0 ∷ []

abbrev pub EndedTargetState : Type 0
EndedTargetState = (state_after (boot_state 64 3) ended_target).procs 3 ≡ Some (exited 1)

-- one signal is caught four times, and a fifth time after a return
abbrev pub caught_again : List Step
caught_again =
    calls 2 (catch 10 50 0)
    ∷ caught_and_unblocked
    ++ caught_and_unblocked
    ++ caught_and_unblocked
    ++ caught_and_unblocked
    ++ calls 1 (kill 2 10)
    ∷ delivery 2 10
    ∷ calls 2 Sigreturn
    ∷ delivery 2 10
    ∷ []

abbrev pub CaughtAgainAnswers : Type 0
CaughtAgainAnswers =
    answers_of (boot_state 64 2) [] caught_again
    ≡ replicate 14 (ok 0) ++ No FramesFull ∷ ok 0 ∷ ok 0 ∷ []

abbrev pub CaughtAgainState : Type 0
CaughtAgainState =
    let S : State = state_after (boot_state 64 2) caught_again in
    (S.procs 1 ≡ Some (standing 1 5 (pos 0) no_memory))
    × (S.procs 2
    ≡ Some (with_one_action 10 (Catch 50 (record { 0 = 0 }))
    (with_mask 1024
    (with_frames (saved_at 1 ∷ saved_at 51 ∷ saved_at 51 ∷ saved_at 51 ∷ [])
    (standing 2 50 (pos 0) no_memory)))))

-- a catch point is 0 to 65,535, and the mask of an action holds neither SIGKILL nor a number that
-- is not known (4,624 is the set of 4, 9 and 12)
abbrev pub catch_points : List Step
catch_points =
    calls 2 (catch 10 65536 0)
    ∷ calls 2 (catch 10 65535 4624)
    ∷ calls 3 (kill 2 10)
    ∷ delivery 2 10
    ∷ []

abbrev pub CatchPointsAnswers : Type 0
CatchPointsAnswers =
    answers_of (boot_state 64 3) [] catch_points ≡ error 22 ∷ ok 0 ∷ ok 0 ∷ ok 0 ∷ []

abbrev pub CatchPointsState : Type 0
CatchPointsState =
    (state_after (boot_state 64 3) catch_points).procs 2
    ≡ Some (with_one_action 10 (Catch 65535 (record { 0 = 4096 }))
    (with_mask 5120 (with_frames (saved_at 2 ∷ []) (standing 2 65535 (pos 0) no_memory))))

-- signals are blocked too, no longer blocked, or blocked and no others: of 1, 10, 12 and 15, which
-- are pending, first 10 and 12 are blocked (5,120), then 15 too (32,768), then 12 no more (4,096),
-- then only 1 (2), and then only 12, since 4 is not known and 9 is SIGKILL
abbrev pub masks : List Step
masks =
    calls 3 (kill 2 1)
    ∷ calls 3 (kill 2 10)
    ∷ calls 3 (kill 2 12)
    ∷ calls 3 (kill 2 15)
    ∷ calls 2 (block 5120)
    ∷ calls 2 Sigpending
    ∷ calls 2 (block 32768)
    ∷ calls 2 Sigpending
    ∷ calls 2 (unblock 4096)
    ∷ calls 2 Sigpending
    ∷ calls 2 (block_only 2)
    ∷ calls 2 Sigpending
    ∷ calls 2 (block_only 4624)
    ∷ calls 2 Sigpending
    ∷ []

abbrev pub MasksAnswers : Type 0
MasksAnswers =
    answers_of (boot_state 64 3) [] masks
    ≡ replicate 4 (ok 0)
    ++ ok 0
    ∷ ok 5120
    ∷ ok 0
    ∷ ok 37888
    ∷ ok 0
    ∷ ok 33792
    ∷ ok 0
    ∷ ok 2
    ∷ ok 0
    ∷ ok 4096
    ∷ []

abbrev pub MasksState : Type 0
MasksState =
    (state_after (boot_state 64 3) masks).procs 2
    ≡ Some (with_mask 4096 (record (standing 2 10 (pos 4096) no_memory) { pending = 37890 }))

-- to ignore a signal discards every pending one of it and no other; so does the usual action of
-- SIGCHLD, and that of another signal does not. There is no action for a number that is no signal
abbrev pub discards : List Step
discards =
    calls 3 (sigqueue 2 34 1)
    ∷ calls 3 (sigqueue 2 35 2)
    ∷ calls 3 (sigqueue 2 34 3)
    ∷ calls 3 (kill 2 17)
    ∷ calls 3 (kill 2 10)
    ∷ calls 2 (Sigaction (pos 34) Ignore)
    ∷ calls 2 (Sigaction (pos 17) Usual)
    ∷ calls 2 (Sigaction (pos 10) Usual)
    ∷ calls 2 (Sigaction (pos 4) Ignore)
    ∷ calls 2 (Sigaction (pos 0) Ignore)
    ∷ calls 2 (Sigaction (negsuc 0) Ignore)
    ∷ calls 2 (Sigaction (pos 40) Ignore)
    ∷ []

abbrev pub DiscardsAnswers : Type 0
DiscardsAnswers =
    answers_of (boot_state 64 3) [] discards ≡ replicate 8 (ok 0) ++ replicate 4 (error 22)

abbrev pub DiscardsState : Type 0
DiscardsState =
    (state_after (boot_state 64 3) discards).procs 2
    ≡ Some
    (with_one_action 34 Ignore
    (with_one_pending 10
    (with_queue (entry 35 2 ∷ []) (standing 2 7 (negsuc 21) no_memory))))
