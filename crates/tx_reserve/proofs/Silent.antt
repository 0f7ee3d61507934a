-- The calls that name nothing but their process.
use Rattle.std.proofs.Common.{◌≡◌, ℕ, ℤ, Bool, [], refl}
use Rattle.tx_base.specs.declared.names.DescNo.{DescNo}
use Rattle.tx_base.specs.declared.names.Pid.{Pid}
use Rattle.tx_base.specs.declared.names.PipeNo.{PipeNo}
use Rattle.tx_base.specs.declared.steps.Call.{Call}
use Rattle.tx_base.specs.declared.steps.Call.TheVariants as call
use Rattle.tx_model.specs.Footprints.{call_row}
use Rattle.tx_model.specs.Membership.{Table}
use Rattle.tx_model.specs.State.{Process, State}

-- the call is none of those that have a row
pub record IsSilent (c : Call) : Type 0 where
  pub fork : (x : Pid) → c ≡ call.Fork x → ⊥
  pub exit : (x : ℤ) → c ≡ call.Exit x → ⊥
  pub waitpid : (x : ℤ) (y : Bool) → c ≡ call.Waitpid x y → ⊥
  pub pipe : (x : PipeNo) (y z : DescNo) → c ≡ call.Pipe x y z → ⊥
  pub dup : (x : ℤ) → c ≡ call.Dup x → ⊥
  pub dup2 : (x y : ℤ) → c ≡ call.Dup2 x y → ⊥
  pub close : (x : ℤ) → c ≡ call.Close x → ⊥
  pub nonblock : (x : ℤ) (y : Bool) → c ≡ call.SetNonblock x y → ⊥
  pub read : (x y z : ℤ) → c ≡ call.Read x y z → ⊥
  pub write : (x y z : ℤ) → c ≡ call.Write x y z → ⊥
  pub kill : (x y : ℤ) → c ≡ call.Kill x y → ⊥
  pub sigqueue : (x y z : ℤ) → c ≡ call.Sigqueue x y z → ⊥
  pub commit : c ≡ call.SysXend → ⊥

pub row_nothing : (t : Table) (p : ℕ) (c : Call) (me : Process) (S : State) → IsSilent c → [] ≡ call_row t p c me S
row_nothing t p (call.Fork x) me S is = absurd (is.fork x refl)
row_nothing t p (call.Exit x) me S is = absurd (is.exit x refl)
row_nothing t p (call.Waitpid x y) me S is = absurd (is.waitpid x y refl)
row_nothing t p (call.Pipe x y z) me S is = absurd (is.pipe x y z refl)
row_nothing t p (call.Dup x) me S is = absurd (is.dup x refl)
row_nothing t p (call.Dup2 x y) me S is = absurd (is.dup2 x y refl)
row_nothing t p (call.Close x) me S is = absurd (is.close x refl)
row_nothing t p (call.SetNonblock x y) me S is = absurd (is.nonblock x y refl)
row_nothing t p (call.Read x y z) me S is = absurd (is.read x y z refl)
row_nothing t p (call.Write x y z) me S is = absurd (is.write x y z refl)
row_nothing t p (call.Kill x y) me S is = absurd (is.kill x y refl)
row_nothing t p (call.Sigqueue x y z) me S is = absurd (is.sigqueue x y z refl)
row_nothing t p call.SysXend me S is = absurd (is.commit refl)
row_nothing t p c me S is = refl
