-- How an event fits the role of its step. Own rules.
use Rattle.std.specs.Prelude.{◌≡◌, ℕ, Bool, true, false, List, [], ◌∷◌, ◌⊎◌, ℤ, Option, Some, None, ◌==◌}
use Rattle.tx_model.specs.State.{State, Sending, Proc, Held, has_object, is_between}
use Rattle.tx_model.specs.Effects.{Inside}
use Rattle.tx_model.specs.Events.{Event, Do, Note, Commit, actor, effect, objects}
use Rattle.tx_model.specs.Membership.{is_member_of, is_live, Progress, Continues, Parks, Forks, Begins, Role, Outside, Within, Commits, Aborts}
use Rattle.tx_model.specs.History.{Starters, is_other_starter}
use Rattle.tx_model.specs.View.{View, present}
use Rattle.tx_model.specs.Words.{IsClear}
use Rattle.tx_model.specs.Answer.{is_running}

-- the sending is in the list
abbrev pub IsIn : Sending → List Sending → Type 0
IsIn n [] = ⊥
IsIn n (m ∷ ms) = (n ≡ m) ⊎ IsIn n ms

-- what a step inside a transaction does to the table is right
abbrev pub ProgressFits : View → ℕ → ℕ → Event → Progress → Type 0
ProgressFits V s p ev Continues = is_member_of V.table s p ≡ true
ProgressFits V s p ev Parks = is_member_of V.table s p ≡ true
ProgressFits V s p ev (Forks c) =
    (is_member_of V.table s p ≡ true)
    × (has_object (Proc c) (objects ev (present V)) ≡ true)
    × (is_between V.table.width c ≡ true)
ProgressFits V s p ev (Begins defers) =
    (s ≡ p)
    × (V.table.marks p ≡ None)
    × (is_between V.table.width p ≡ true)
    × (is_running ((present V).procs p) ≡ true)

-- the event is of a member of the transaction, or of its future starter; it posts among the
-- members, and holds with its own
pub record FitsWithin (s : ℕ) (progress : Progress) (ev : Event) (p : ℕ) (V : View) : Type 0 where
  pub actor_is : actor ev ≡ p
  pub mine : (t : ℕ) → is_member_of V.table t p ≡ true → t ≡ s
  pub progress_fits : ProgressFits V s p ev progress
  pub sends : (S : State) (m : Sending) → IsIn m (effect ev S).sends
      → is_other_starter V.table (actor ev) m.target ≡ false
  pub holds : (S : State) (u : ℕ) → has_object (Held u) (objects ev S) ≡ true → u ≡ s

-- how the event fits the role
abbrev pub Fits : Role → Event → ℕ → View → Type 0
Fits Outside ev p V = (t : ℕ) → is_member_of V.table t (actor ev) ≡ false
Fits (Within s progress) ev p V = FitsWithin s progress ev p V
Fits (Commits s) ev p V = is_member_of V.table s (actor ev) ≡ true
Fits (Aborts s k) ev p V = (is_live V.table s ≡ true) × ((r : ℤ) × (ev ≡ Note s r))

-- nobody is ever in the way of an abort, and nobody may be in the way of any other event
abbrev pub Passes : Role → Event → View → Type 0
Passes Outside ev V = IsClear V ev
Passes (Within s progress) ev V = IsClear V ev
Passes (Commits s) ev V = IsClear V ev
Passes (Aborts s k) ev V = Unit {0}

-- the transaction of the process that makes the event is not left out
abbrev pub IsQuiet : View → Event → Starters → Type 0
IsQuiet V ev X = (t : ℕ) → is_member_of V.table t (actor ev) ≡ true → X t ≡ false

-- the step is made inside the transaction of u
abbrev pub IsInsideOf : ℕ → Option Inside → Type 0
IsInsideOf u None = ⊥
IsInsideOf u (Some i) = i.starter ≡ u

-- the event is made inside the transaction of u, or commits it
abbrev pub HoldsFor : ℕ → Event → Type 0
HoldsFor u (Do step inside) = IsInsideOf u inside
HoldsFor u (Note p r) = ⊥
HoldsFor u (Commit s ev) = (u ≡ s) ⊎ HoldsFor u ev

-- whether a step of the role ends the transaction of s
abbrev pub ends_it : ℕ → Role → Bool
ends_it s Outside = false
ends_it s (Within t progress) = false
ends_it s (Commits t) = t == s
ends_it s (Aborts t status) = t == s
