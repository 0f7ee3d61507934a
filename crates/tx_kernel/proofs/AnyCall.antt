-- The pages of calls, by the kinds that are planned alike.
use Rattle.std.proofs.Common.{◌≡◌, ℤ, Bool, [], ◌∷◌, true, false, Result, Ok, Err, IfOk, refl}
use Rattle.tx_base.specs.declared.errors.Errno.{Errno}
use Rattle.tx_base.specs.declared.errors.Errno.TheVariants.{InvalidArgument}
use Rattle.tx_base.specs.declared.names.DescNo.{DescNo}
use Rattle.tx_base.specs.declared.names.Pid.{Pid}
use Rattle.tx_base.specs.declared.names.PipeNo.{PipeNo}
use Rattle.tx_base.specs.declared.steps.Call.{Call}
use Rattle.tx_base.specs.declared.steps.Call.TheVariants as call
use Rattle.tx_base.specs.declared.steps.Reply.{Reply}
use Rattle.tx_laws.specs.OwnCalls.{IsOwnOutcome, OwnCallsStayOwn, concerns_itself_alone}
use Rattle.tx_model.specs.Answer.{ChoosesNothing, IsAccepted}
use Rattle.tx_model.specs.Words.{chosen_in}
use Rattle.tx_model.specs.Book.{page_of_call}
use Rattle.tx_model.specs.Forms.{Caller, Outcome, answers, changes, fails, stands}
use Rattle.tx_model.specs.State.{Process}

-- what holds of the outcomes that concern the process alone holds of what such a call comes to
pub own_lines : OwnCallsStayOwn → (P : Outcome → Type 0) (c : Caller) → ((errno : Errno) → P (fails errno)) → ((r : ℤ) → P (answers r)) →
    ((r : ℤ) (q : Process) → P (changes r q [])) → ((q : Process) (reply : Reply) → IsAccepted reply → P (stands q reply)) →
    (asked : Call) → concerns_itself_alone asked ≡ true → P ((page_of_call asked).outcome c)
own_lines law P c error answer change stand asked alone = by ((page_of_call asked).outcome c) (law c asked alone)
  where
    by : (outcome : Outcome) → IsOwnOutcome outcome → P outcome
    by (fails errno) is = error errno
    by (answers r) is = answer r
    by (changes r q []) is = change r q
    by (changes r q (w ∷ ws)) is = absurd is
    by (stands q reply) is = stand q reply is
    by outcome is = absurd is

-- it has a plan of its own, and concerns its process alone
abbrev pub has_own_plan : Call → Bool
has_own_plan call.SysXbegin = false
has_own_plan call.SysXbeginDefer = false
has_own_plan call.SysXend = false
has_own_plan call.SysXabort = false
has_own_plan c = concerns_itself_alone c

-- the calls of transactions are left, which answer EINVAL
pub answers_error : (c : Call) → concerns_itself_alone c ≡ true → has_own_plan c ≡ false → (d : Caller) → (page_of_call c).outcome d ≡ fails InvalidArgument
answers_error call.SysXbegin alone other d = refl
answers_error call.SysXbeginDefer alone other d = refl
answers_error call.SysXend alone other d = refl
answers_error call.SysXabort alone other d = refl
answers_error c alone other d = cc

-- only a fork and a pipe choose a number
pub chooses_nothing : (c : Call) → ((x : Pid) → c ≡ call.Fork x → ⊥) → ((x : PipeNo) (y z : DescNo) → c ≡ call.Pipe x y z → ⊥) → chosen_in c ≡ ChoosesNothing
chooses_nothing (call.Fork x) fork pipe = absurd (fork x refl)
chooses_nothing (call.Pipe x y z) fork pipe = absurd (pipe x y z refl)
chooses_nothing c fork pipe = refl

-- what is so anyway is so of each result
pub so_anyway : {A E P : Type 0} (result : Result A E) → P → IfOk result (λ made. P)
so_anyway (Ok made) is = is
so_anyway (Err why) is = tt
