-- Schedules of user and group ids, worked out to the end. Own rules.
use Rattle.std.specs.Prelude.{◌≡◌, ℕ, List, [], ◌∷◌, pos, negsuc, Some}
use Rattle.tx_base.specs.declared.steps.Call.TheVariants.{Exit, Setuid, Seteuid, Setgid, Setegid}
use Rattle.tx_base.specs.declared.steps.Reply.TheVariants.{Ended}
use Rattle.tx_base.specs.declared.steps.Step.{Step}
use Rattle.tx_model.specs.Memory.{no_memory}
use Rattle.tx_model.specs.State.{Ids, State, boot_state}
use Rattle.tx_model.specs.Schedules.{answers_of}
use Rattle.tx_examples.specs.WorkedSteps.{calls, kill, ok, error, state_after, standing, with_ids, with_one_pending}

-- a signal is permitted where the real or the effective id of its sender is the real id of its
-- target, or the effective one is 0. That is tested for process 1 and for ended processes too
abbrev pub permitted : List Step
permitted =
    calls 2 (Setuid (pos 5))
    ∷ calls 4 (Seteuid (pos 5))
    ∷ calls 4 (kill 2 10)
    ∷ calls 4 (kill 3 10)
    ∷ calls 3 (Setuid (pos 6))
    ∷ calls 4 (kill 3 12)
    ∷ calls 2 (kill 4 10)
    ∷ calls 2 (kill 1 9)
    ∷ calls 3 (Exit (pos 0))
    ∷ calls 4 (kill 3 0)
    ∷ calls 1 (kill 3 10)
    ∷ calls 4 (kill 4 0)
    ∷ []

abbrev pub PermittedAnswers : Type 0
PermittedAnswers =
    answers_of (boot_state 64 4) [] permitted
    ≡ ok 0 ∷ ok 0 ∷ ok 0 ∷ ok 0 ∷ ok 0 ∷ error 1 ∷ error 1 ∷ error 1 ∷ Ended ∷ error 1 ∷ ok 0 ∷ ok 0
    ∷ []

-- these user ids, and the group ids 0
abbrev pub users : ℕ → ℕ → ℕ → Ids
users real effective saved =
    record {
      real_user = real;
      effective_user = effective;
      saved_user = saved;
      real_group = 0;
      effective_group = 0;
      saved_group = 0;
    }

abbrev pub PermittedState : Type 0
PermittedState =
    let S : State = state_after (boot_state 64 4) permitted in
    (S.procs 2
    ≡ Some (with_one_pending 10 (with_ids (users 5 5 5) (standing 2 3 (negsuc 0) no_memory))))
    × (S.procs 4 ≡ Some (with_ids (users 0 5 0) (standing 4 6 (pos 0) no_memory)))

-- the effective user 0 may take any group; another one takes only the effective group, and only one
-- that it has. Ids are 0 to 65,535
abbrev pub groups : List Step
groups =
    calls 2 (Setegid (pos 4))
    ∷ calls 2 (Setgid (pos 3))
    ∷ calls 2 (Setegid (pos 4))
    ∷ calls 2 (Setuid (pos 65535))
    ∷ calls 2 (Setgid (pos 4))
    ∷ calls 2 (Setegid (pos 65535))
    ∷ calls 2 (Setegid (pos 65536))
    ∷ calls 2 (Setgid (pos 65536))
    ∷ calls 2 (Seteuid (negsuc 0))
    ∷ calls 2 (Seteuid (pos 0))
    ∷ calls 2 (Setgid (pos 3))
    ∷ []

abbrev pub GroupsAnswers : Type 0
GroupsAnswers =
    answers_of (boot_state 64 2) [] groups
    ≡ ok 0 ∷ ok 0 ∷ ok 0 ∷ ok 0 ∷ error 1 ∷ error 1 ∷ error 22 ∷ error 22 ∷ error 22 ∷ error 1
    ∷ ok 0 ∷ []

-- the user ids 65,535, and the group ids 3
abbrev pub GroupsState : Type 0
GroupsState =
    (state_after (boot_state 64 2) groups).procs 2
    ≡ Some
    (with_ids
    (record (users 65535 65535 65535) {
      real_group = 3;
      effective_group = 3;
      saved_group = 3;
    }) (standing 2 11 (pos 0) no_memory))
