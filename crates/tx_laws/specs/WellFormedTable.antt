-- What holds for the live transactions of every history, by their table and the state. Own rules.
use Rattle.std.specs.Prelude.{◌≡◌, ◌≢◌, ◌⊎◌, ℕ, ◌+◌, ◌-◌, ◌≤◌, true, false, List, [], ◌∷◌, Option, Some, None, is_some}
use Rattle.tx_base.specs.declared.limits.TheConstants.{HELD_SENDS}
use Rattle.tx_model.specs.State.{Process, Sending, State}
use Rattle.tx_model.specs.Book.{sender_count, member_sends}
use Rattle.tx_model.specs.Membership.{Table, is_member_of, is_live, is_open_of}
use Rattle.tx_model.specs.History.{just}
use Rattle.tx_model.specs.View.{View, present}
use Rattle.tx_model.specs.Answer.{is_running}

-- how many of the sends have no sender: they are the kernel's own
unfoldable pub sent_by_kernel : List Sending → ℕ
sent_by_kernel [] = 0
sent_by_kernel (m ∷ ms) = 1 - sender_count m.from + sent_by_kernel ms

-- the parent of the process, if there is one, is process 1 or a member of the transaction of s
abbrev pub HasParentInside : Table → ℕ → Option Process → Type 0
HasParentInside t s None = Unit {0}
HasParentInside t s (Some q) = (q.parent ≡ 1) ⊎ (is_member_of t s q.parent ≡ true)

-- the parent of the process, if there is one, is no member of the transaction of s
abbrev pub HasParentOutside : Table → ℕ → Option Process → Type 0
HasParentOutside t s None = Unit {0}
HasParentOutside t s (Some q) = is_member_of t s q.parent ≡ false

-- what holds for the live transaction of s: its starter exists, the members whose part has not
-- ended run, only the starter's parent is outside, and it holds no more sends of its members than
-- it may; the kernel's own send goes to the starter's parent, once the starter has ended
pub record IsTransaction (t : Table) (S : State) (s : ℕ) : Type 0 where
  pub starter : is_some (S.procs s) ≡ true
  pub open_parts : (p : ℕ) → is_open_of s (t.marks p) ≡ true → is_running (S.procs p) ≡ true
  pub parents : (p : ℕ) → is_member_of t s p ≡ true → p ≢ s → HasParentInside t s (S.procs p)
  pub outside : HasParentOutside t s (S.procs s)
  pub sent : member_sends (S.held s) ≤ HELD_SENDS
  pub told_none : is_running (S.procs s) ≡ true → sent_by_kernel (S.held s) ≡ 0
  pub told_once : sent_by_kernel (S.held s) ≤ 1

-- each member is one of a live transaction, and nothing is held by any other number
pub record IsWellFormedWith (t : Table) (S : State) : Type 0 where
  pub live : (s : ℕ) → is_live t s ≡ true → IsTransaction t S s
  pub members : (s p : ℕ) → is_member_of t s p ≡ true → is_live t s ≡ true
  pub others : (s : ℕ) → is_live t s ≡ false → S.held s ≡ []

-- no transaction holds anything
abbrev pub HoldsNothing : State → Type 0
HoldsNothing S = (s : ℕ) → S.held s ≡ []

-- what holds for the view of every history: its live transactions are so in the state, and without
-- one of them nothing is held by its number
pub record IsWellFormedView (V : View) : Type 0 where
  pub formed : IsWellFormedWith V.table (present V)
  pub left : (s : ℕ) → (V.without (just s)).held s ≡ []
