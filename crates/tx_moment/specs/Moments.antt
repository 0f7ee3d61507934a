-- A commit that may count as one moment. Own rules.
use Rattle.std.specs.Prelude.{◌≡◌, ◌≤◌, ℕ, true, List, ◌∷◌, ◌++◌}
use Rattle.tx_base.specs.declared.steps.Accepted.{Accepted}
use Rattle.tx_model.specs.State.{State, boot_state}
use Rattle.tx_model.specs.Membership.{Commits}
use Rattle.tx_model.specs.History.{Starters, role_in, table_of, without}
use Rattle.tx_model.specs.Answer.{Lawful, Agreement}
use Rattle.tx_laws.specs.OneMoment.{parted, moved_history, is_one_moment}
use Rattle.tx_laws.specs.WellFormed.{IsWellFormed}
use Rattle.tx_laws.specs.WellFormedTable.{HoldsNothing}
use Rattle.tx_moment.specs.Shuffles.{IsShuffle}

-- with the steps of the transaction of s put directly before the step that commits it, the history
-- leaves the same states and the same live transactions, and each surviving step has the reply of
-- its event in the plain run of the survivors
pub record IsMoment (start : State) (s : ℕ) (later : List Accepted) (last : Accepted)
    (earlier : List Accepted) : Type 0 where
  pub state : (left_out : Starters)
      → without start left_out (moved_history start s later last earlier)
      ≡ without start left_out (later ++ last ∷ earlier)
  pub table :
      table_of start (moved_history start s later last earlier)
      ≡ table_of start (later ++ last ∷ earlier)
  pub replies : Agreement start (moved_history start s later last earlier)

-- a transaction whose starter looks at none of its signals, and is sent none from inside, is made
-- at the moment of its commit: in every lawful history from a well-formed state that holds nothing,
-- as the booted one does
abbrev pub CommitsAreMoments : Type 0
CommitsAreMoments =
    (start : State) (later : List Accepted) (last : Accepted) (earlier : List Accepted) (s : ℕ) →
    IsWellFormed start → HoldsNothing start → Lawful start (later ++ last ∷ earlier)
    → role_in start last earlier ≡ Commits s → is_one_moment start s last earlier ≡ true →
    IsMoment start s later last earlier

-- the same of a history: each transaction that it commits and that may count as one moment is made
-- at that moment
unfoldable pub HasMoments : State → List Accepted → Type 0
HasMoments start history =
    (later : List Accepted) (last : Accepted) (earlier : List Accepted) (s : ℕ)
    → history ≡ later ++ last ∷ earlier →
    role_in start last earlier ≡ Commits s → is_one_moment start s last earlier ≡ true
    → IsMoment start s later last earlier

-- this holds for every lawful history from a booted state
abbrev pub BootedHistoriesHaveMoments : Type 0
BootedHistoriesHaveMoments =
    (width count : ℕ) → 1 ≤ count → count ≤ width → (history : List Accepted)
    → Lawful (boot_state width count) history → HasMoments (boot_state width count) history

-- the steps of a transaction and the others are the steps of the history, each in their order
abbrev pub PartsAreShuffled : Type 0
PartsAreShuffled =
    (start : State) (s : ℕ) (history : List Accepted)
    → IsShuffle (parted start s history).own (parted start s history).others history
