-- Plans of calls that concern only their own process.
use Rattle.std.specs.Prelude.{◌≡◌, ℤ, List, ◌++◌}
use Rattle.tx_change.specs.Counts.{AreNameless}
use Rattle.tx_change.specs.Laws.{revised_by}
use Rattle.tx_change.specs.Own.{AreOf}
use Rattle.tx_base.specs.declared.names.Pid.{Pid}
use Rattle.tx_change.specs.declared.change.Change.{Change}
use Rattle.tx_change.specs.declared.change.Change.TheVariants.{Part}
use Rattle.tx_kernel.specs.Actors.{caller_of, me_of}
use Rattle.tx_kernel.specs.Plans.{KeepsShown, reply_of}
use Rattle.tx_kernel.specs.declared.actor.Actor.{Actor}
use Rattle.tx_kernel.specs.declared.planned.Outcome.{Outcome}
use Rattle.tx_model.specs.Effects.{Effect, next_point}
use Rattle.tx_model.specs.Forms.{Rule}
use Rattle.tx_model.specs.Words.{own_effect}
use Rattle.tx_model.specs.State.{Process, State}
use Rattle.tx_pages.specs.declared.plans.NewPage.{NewPage}
use Rattle.tx_proc.specs.declared.proc.Answer.{Answer}
use Rattle.tx_proc.specs.Parts.{HasPlace}
use Rattle.tx_proc.specs.declared.proc.Part.{Part as ProcPart}
use Rattle.tx_proc.specs.declared.proc.Part.TheVariants as part
use Rattle.tx_proc.specs.declared.proc.Part.TheVariants.{Page}

-- the answer at the next point
abbrev pub answer_after : ℤ → Actor → Answer
answer_after ret actor = record { point = next_point actor.proc.now.regs.point; ret = ret }

-- a log that now ends in changes of parts of the process that make this of it
pub record PlansPart (actor : Actor) (before now : List Change) (rule : Process → Process)
    : Type 0 where
  pub plan : List Change
  pub added : now ≡ before ++ plan
  pub own : AreOf actor.pid.0 plan
  pub nameless : AreNameless plan
  pub process : revised_by plan (me_of actor) ≡ rule (me_of actor)

-- a log that now ends in changes of only parts of the process: in every state the rule makes of it
-- what they do, and has that answer
pub record PlansOwn (actor : Actor) (before now : List Change) (outcome : Outcome)
    (rule : State → Effect) : Type 0 where
  pub plan : List Change
  pub added : now ≡ before ++ plan
  pub own : AreOf actor.pid.0 plan
  pub nameless : AreNameless plan
  pub effect : (S : State)
      → rule S
      ≡ own_effect actor.pid.0
      (record {
        process = revised_by plan (me_of actor);
        reply = reply_of (me_of actor).memory outcome;
      })
  pub shown : KeepsShown outcome (me_of actor).memory (revised_by plan (me_of actor)).memory

-- the actor's call comes to the same by this page as by that rule
abbrev pub ComesTo : Actor → Rule → Rule → Type 0
ComesTo actor page rule = (S : State) → page (caller_of actor S) ≡ rule (caller_of actor S)

-- a part that names nothing and is not the answer, with a number in range
abbrev pub IsPlainPart : ProcPart → Type 0
IsPlainPart (part.Answer answer) = ⊥
IsPlainPart (part.Status status) = ⊥
IsPlainPart (part.Descriptor number name) = ⊥
IsPlainPart part = HasPlace part

-- the change that puts a new page in place
abbrev pub page_change : Pid → NewPage → Change
page_change pid new = Part pid (Page new.number new.page)
