-- What holds for the view of every history: what an object has without some transactions depends
-- only on those that reserved it. Own rules.
use Rattle.std.specs.Prelude.{◌≡◌, ℕ, true}
use Rattle.tx_model.specs.State.{Object, Proc, Held, is_between}
use Rattle.tx_model.specs.StateLaws.{AgreeAt}
use Rattle.tx_model.specs.Membership.{is_live, is_member_of}
use Rattle.tx_model.specs.History.{Starters, just}
use Rattle.tx_model.specs.View.{View}
use Rattle.tx_model.specs.Answer.{is_running}

pub record IsSound (V : View) : Type 0 where
  -- the states without X and without Y agree at an object if X and Y have the same of those that
  -- reserved it
  pub coherent : (X Y : Starters) (o : Object) → ((s : ℕ) → V.reserved s o ≡ true → X s ≡ Y s)
      → AgreeAt (V.without X) (V.without Y) o
  -- only live transactions have reserved anything, and at most one an object
  pub owned_live : (s : ℕ) (o : Object) → V.reserved s o ≡ true → is_live V.table s ≡ true
  pub single : (s t : ℕ) (o : Object) → V.reserved s o ≡ true → V.reserved t o ≡ true → s ≡ t
  -- it has reserved its members and what it holds, and nothing that another holds
  pub own_procs : (s p : ℕ) → is_member_of V.table s p ≡ true → V.reserved s (Proc p) ≡ true
  pub own_held : (s : ℕ) → is_live V.table s ≡ true → V.reserved s (Held s) ≡ true
  pub held_own : (s t : ℕ) → V.reserved s (Held t) ≡ true → s ≡ t
  -- its members have process numbers
  pub bounded : (s p : ℕ) → is_member_of V.table s p ≡ true → is_between V.table.width p ≡ true
  -- its starter runs in the state without it
  pub starter_runs : (s : ℕ) → is_live V.table s ≡ true
      → is_running ((V.without (just s)).procs s) ≡ true
  -- every state has the width of the table
  pub width : (X : Starters) → (V.without X).width ≡ V.table.width
