-- The history in which the steps of a committed transaction are directly before the step that
-- commits it, by the numbers of its entries.
use Rattle.std.specs.Prelude.{true, ◌≡◌, ℕ, zero, suc, ◌+◌, ◌-◌, Bool, List, [], ◌∷◌, ◌++◌, Option, Some, None, length, map, option_map, reverse, take, drop, nat_lt, if◌then◌else◌}
use Rattle.tx_base.specs.declared.steps.Accepted.{Accepted}
use Rattle.tx_journal.specs.Entries.{accepted_of, entry_at, history_of}
use Rattle.tx_journal.specs.Sessions.{SessionState, start_of}
use Rattle.tx_journal.specs.declared.entry.Entry.{Entry}
use Rattle.tx_journal.specs.declared.moved.Moved.{Moved}
use Rattle.tx_laws.specs.OneMoment.{begins_it, is_step_of, is_one_moment, moved_history}
use Rattle.tx_model.specs.History.{role_in}
use Rattle.tx_model.specs.Membership.{Role, Outside, Within, Commits, Aborts}
use Rattle.tx_model.specs.State.{State}
use Rattle.tx_moment.specs.Moments.{IsMoment}

-- the numbers of some entries and of the others, each the newest first
pub record Numbers : Type 0 where
  pub own : List ℕ
  pub others : List ℕ

abbrev pub with_own_number : ℕ → Numbers → Numbers
with_own_number n p = record { own = n ∷ p.own; others = p.others }

abbrev pub with_other_number : ℕ → Numbers → Numbers
with_other_number n p = record { own = p.own; others = n ∷ p.others }

-- this many numbers above n, the greatest first
unfoldable pub numbers_above : ℕ → ℕ → List ℕ
numbers_above n zero = []
numbers_above n (suc count) = suc (count + n) ∷ numbers_above n count

-- the numbers of the steps of the transaction of s that lives at the end of the history, and of all
-- others
unfoldable pub numbers_parted : State → ℕ → List Accepted → Numbers
numbers_parted S s [] = record { own = []; others = [] }
numbers_parted S s (e ∷ h) =
    if begins_it s (role_in S e h) then record {
      own = suc (length h) ∷ [];
      others = numbers_above 0 (length h);
    }
    else (if is_step_of s (role_in S e h)
    then with_own_number (suc (length h)) (numbers_parted S s h)
    else with_other_number (suc (length h)) (numbers_parted S s h))

-- the numbers of the history in which the steps of the transaction of s are directly before the one
-- that commits it, the newest first
abbrev pub moved_numbers : State → ℕ → List Accepted → List Accepted → List ℕ
moved_numbers S s later h =
    numbers_above (suc (length h)) (length later) ++ suc (length h)
    ∷ (numbers_parted S s h).own ++ (numbers_parted S s h).others

-- what is answered for a step that commits: the numbers, the oldest first, and whether the
-- transaction may count as one moment
pub record Moving : Type 0 where
  pub numbers : List ℕ
  pub one_moment : Bool

abbrev pub moving_by : Role → State → List Accepted → Accepted → List Accepted → Option Moving
moving_by Outside S later e h = None
moving_by (Within s progress) S later e h = None
moving_by (Commits s) S later e h =
    Some
    (record {
      numbers = reverse (moved_numbers S s later h);
      one_moment = is_one_moment S s e h;
    })
moving_by (Aborts s status) S later e h = None

abbrev pub moving_of : State → List Accepted → List Accepted → Option Moving
moving_of S later [] = None
moving_of S later (e ∷ h) = moving_by (role_in S e h) S later e h

-- what is answered for the entry of a number; none if there is no such entry or it commits no
-- transaction
abbrev pub moved_at : State → List Accepted → ℕ → Option Moving
moved_at S h k =
    if nat_lt (length h) k
    then None
    else moving_of S (take (length h - k) h) (drop (length h - k) h)

-- what an answer says
abbrev pub moving_in : Moved → Moving
moving_in m = record { numbers = m.entries.items; one_moment = m.one_moment }

-- the entries that numbers name
abbrev pub entries_named : List Entry → List ℕ → List (Option Accepted)
entries_named entries numbers = map (λ n. option_map accepted_of (entry_at entries n)) numbers

-- the answer for the entry of a number that commits a transaction: the numbers name the entries of
-- the history with its steps moved, and it says whether the transaction may count as one moment; if
-- so, that history leaves the same, with the same replies
pub record IsMoved (k : SessionState) (number : ℕ) (m : Moved) : Type 0 where
  pub answer : moved_at (start_of k) (history_of k.entries) number ≡ Some (moving_in m)
  pub starter : ℕ
  pub later : List Accepted
  pub last : Accepted
  pub earlier : List Accepted
  pub split : history_of k.entries ≡ later ++ last ∷ earlier
  pub place : suc (length earlier) ≡ number
  pub commits : role_in (start_of k) last earlier ≡ Commits starter
  pub named :
      entries_named k.entries m.entries.items
      ≡ map Some (reverse (moved_history (start_of k) starter later last earlier))
  pub counts : m.one_moment ≡ is_one_moment (start_of k) starter last earlier
  pub moment : m.one_moment ≡ true → IsMoment (start_of k) starter later last earlier
