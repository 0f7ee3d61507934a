-- Schedules of the pages of a process, worked out to the end. Own rules.
use Rattle.std.specs.Prelude.{◌≡◌, true, false, List, [], ◌∷◌, ◌++◌, pos, negsuc, Some, None, replicate}
use Rattle.tx_base.specs.declared.steps.Call.TheVariants.{Map, Unmap, Protect, Load}
use Rattle.tx_base.specs.declared.steps.Step.{Step}
use Rattle.tx_model.specs.Memory.{Memory}
use Rattle.tx_model.specs.State.{boot_state}
use Rattle.tx_model.specs.Schedules.{answers_of}
use Rattle.tx_examples.specs.WorkedSteps.{calls, store, ok, error, state_after, standing}

-- pages are mapped once and taken out once; a page that is mapped again is of zeros
abbrev pub pages : List Step
pages =
    calls 1 (Map (pos 16))
    ∷ calls 1 (Map (negsuc 0))
    ∷ calls 1 (Map (pos 15))
    ∷ calls 1 (Map (pos 15))
    ∷ calls 1 (store (pos 1022) (1 ∷ 2 ∷ []))
    ∷ calls 1 (store (pos 1023) (3 ∷ 4 ∷ []))
    ∷ calls 1 (Load (pos 1023))
    ∷ calls 1 (Load (pos 1024))
    ∷ calls 1 (Load (negsuc 0))
    ∷ calls 1 (Load (pos 959))
    ∷ calls 1 (Unmap (pos 14))
    ∷ calls 1 (Unmap (pos 16))
    ∷ calls 1 (Unmap (pos 15))
    ∷ calls 1 (Load (pos 1023))
    ∷ calls 1 (Unmap (pos 15))
    ∷ calls 1 (Map (pos 15))
    ∷ calls 1 (Load (pos 1023))
    ∷ calls 1 (Map (pos 0))
    ∷ calls 1 (Unmap (pos 15))
    ∷ []

abbrev pub PagesAnswers : Type 0
PagesAnswers =
    answers_of (boot_state 64 1) [] pages
    ≡ error 22
    ∷ error 22
    ∷ ok 0
    ∷ error 22
    ∷ ok 0
    ∷ error 14
    ∷ ok 2
    ∷ error 14
    ∷ error 14
    ∷ error 14
    ∷ error 22
    ∷ error 22
    ∷ ok 0
    ∷ error 14
    ∷ error 22
    ∷ ok 0
    ∷ ok 0
    ∷ ok 0
    ∷ ok 0
    ∷ []

-- page 0, which may be written, of zeros
abbrev pub first_page : Memory
first_page = Some (record { writable = true; bytes = replicate 64 0 }) ∷ replicate 15 None

abbrev pub PagesState : Type 0
PagesState = (state_after (boot_state 64 1) pages).procs 1 ≡ Some (standing 1 19 (pos 0) first_page)

-- a page that may not be written can still be read; a store that meets one stores no byte
abbrev pub protected : List Step
protected =
    calls 1 (Map (pos 0))
    ∷ calls 1 (Map (pos 1))
    ∷ calls 1 (store (pos 63) (5 ∷ 6 ∷ []))
    ∷ calls 1 (Protect (pos 1) false)
    ∷ calls 1 (store (pos 63) (7 ∷ 8 ∷ []))
    ∷ calls 1 (Load (pos 63))
    ∷ calls 1 (Load (pos 64))
    ∷ calls 1 (store (pos 62) (7 ∷ 8 ∷ []))
    ∷ calls 1 (Protect (pos 1) true)
    ∷ calls 1 (store (pos 65) (9 ∷ []))
    ∷ calls 1 (Protect (pos 2) true)
    ∷ calls 1 (Protect (pos 16) true)
    ∷ calls 1 (Protect (pos 0) false)
    ∷ []

abbrev pub ProtectedAnswers : Type 0
ProtectedAnswers =
    answers_of (boot_state 64 1) [] protected
    ≡ ok 0
    ∷ ok 0
    ∷ ok 0
    ∷ ok 0
    ∷ error 14
    ∷ ok 5
    ∷ ok 6
    ∷ ok 0
    ∷ ok 0
    ∷ ok 0
    ∷ error 22
    ∷ error 22
    ∷ ok 0
    ∷ []

-- page 0, which may not be written, and page 1, which may
abbrev pub two_pages : Memory
two_pages =
    Some (record { writable = false; bytes = replicate 62 0 ++ 7 ∷ 8 ∷ [] })
    ∷ Some (record { writable = true; bytes = 6 ∷ 9 ∷ replicate 62 0 })
    ∷ replicate 14 None

abbrev pub ProtectedState : Type 0
ProtectedState =
    (state_after (boot_state 64 1) protected).procs 1 ≡ Some (standing 1 13 (pos 0) two_pages)
