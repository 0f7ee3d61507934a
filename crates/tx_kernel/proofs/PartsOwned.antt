-- Plans of parts of one process, made one after another.
use Rattle.std.proofs.Common.{◌≡◌, ℕ, ℤ, List, [], ◌∷◌, ◌++◌, Option, Some, None, is_some, Result, Ok, Err, IfOk, refl, ap, sym, subst, ◌∙◌, append_assoc, append-nil}
use Rattle.tx_change.specs.Counts.{IsNameless}
use Rattle.tx_change.specs.declared.change.Change.{Change}
use Rattle.tx_change.specs.declared.change.Change.TheVariants.{Part as SetPart}
use Rattle.tx_kernel.proofs.Owned.{AreOf-append, nameless-append, own_reply, revised-append}
use Rattle.tx_kernel.specs.Actors.{effect_by, inside_of, me_of}
use Rattle.tx_base.specs.declared.names.Pid.{Pid}
use Rattle.tx_kernel.specs.Own.{ComesTo, IsPlainPart, PlansOwn, PlansPart, answer_after}
use Rattle.tx_kernel.specs.Plans.{Extends, KeepsShown}
use Rattle.tx_kernel.specs.declared.actor.Actor.{Actor}
use Rattle.tx_kernel.specs.declared.inside.Inside.{Inside}
use Rattle.tx_kernel.specs.declared.planned.Outcome.{Outcome}
use Rattle.tx_kernel.specs.declared.planned.Outcome.TheVariants.{Done}
use Rattle.tx_model.specs.Effects.{Effect, next_point, with_answer}
use Rattle.tx_model.specs.Words.{answer_effect}
use Rattle.tx_model.specs.Forms.{Rule, effect_of}
use Rattle.tx_model.specs.State.{Process, State}
use Rattle.tx_proc.specs.Parts.{HasPlace, revised}
use Rattle.tx_proc.specs.declared.proc.Part.{Part}
use Rattle.tx_proc.specs.declared.proc.Part.TheVariants.{Answer as SetAnswer, Status, Descriptor}

-- nothing so far
pub part_none : (actor : Actor) (log : List Change) → PlansPart actor log log (λ me. me)
part_none actor log = record { plan = []; added = sym (append-nil log); own = tt; nameless = tt; process = refl }

-- one part more
pub part_more : (actor : Actor) (before between now : List Change) (rule : Process → Process) (part : Part) → PlansPart actor before between rule → HasPlace part →
    IsNameless (SetPart actor.pid part) → now ≡ between ++ SetPart actor.pid part ∷ [] → PlansPart actor before now (λ me. revised part (rule me))
part_more actor before between now rule part first place nameless last =
    let one : List Change = SetPart actor.pid part ∷ [] in
    record {
      plan = first.plan ++ one;
      added = last ∙ ap (λ (xs : List Change). xs ++ one) first.added ∙ append_assoc before first.plan one;
      own = AreOf-append actor.pid.0 first.plan one first.own ((refl, place), tt);
      nameless = nameless-append first.plan one first.nameless (nameless, tt);
      process = revised-append first.plan one (me_of actor) ∙ ap (revised part) first.process;
    }

-- what is so of a part that names nothing, and is not the answer
pub plain_part : (pid : Pid) (part : Part) (me : Process) → IsPlainPart part → HasPlace part × IsNameless (SetPart pid part) × ((revised part me).registers.point ≡ me.registers.point)
plain_part pid (SetAnswer answer) me is = absurd is
plain_part pid (Status status) me is = absurd is
plain_part pid (Descriptor number name) me is = absurd is
plain_part pid part me is = (is, tt, refl)

-- the same by another rule
pub part_same : (actor : Actor) (before now : List Change) (rule other : Process → Process) → PlansPart actor before now rule → rule (me_of actor) ≡ other (me_of actor) →
    PlansPart actor before now other
part_same actor before now rule other plan same = record { plan = plan.plan; added = plan.added; own = plan.own; nameless = plan.nameless; process = plan.process ∙ same }

-- they are all that a step does
pub part_whole : (actor : Actor) (before now : List Change) (outcome : Outcome) (rule : Process → Process) → PlansPart actor before now rule →
    KeepsShown outcome (me_of actor).memory (rule (me_of actor)).memory → PlansOwn actor before now outcome (λ S. own_reply actor outcome (rule (me_of actor)))
part_whole actor before now outcome rule plan keeps = record {
  plan = plan.plan;
  added = plan.added;
  own = plan.own;
  nameless = plan.nameless;
  effect = λ S. ap (own_reply actor outcome) (sym plan.process);
  shown = subst (λ (q : Process). KeepsShown outcome (me_of actor).memory q.memory) (sym plan.process) keeps;
}

-- and then an answer, at the point that the process has
pub part_answered : (actor : Actor) (before between now : List Change) (rule : Process → Process) (ret : ℤ) → PlansPart actor before between rule →
    (rule (me_of actor)).registers.point ≡ actor.proc.now.regs.point → now ≡ between ++ SetPart actor.pid (SetAnswer (answer_after ret actor)) ∷ [] →
    PlansOwn actor before now (Done ret) (λ S. answer_effect actor.pid.0 ret (rule (me_of actor)))
part_answered actor before between now rule ret first stays last =
    part_whole actor before now (Done ret) (λ me. with_answer ret (rule me))
    (part_same actor before now (λ me. revised (SetAnswer (answer_after ret actor)) (rule me)) (λ me. with_answer ret (rule me))
    (part_more actor before between now rule (SetAnswer (answer_after ret actor)) first tt tt last)
    (ap (λ (point : ℕ). record (rule (me_of actor)) { registers = record { point = next_point point; ret = ret; slots = (rule (me_of actor)).registers.slots } }) (sym stays))) tt

-- a log that has more, and then one more
pub extends_more : (before between now : List Change) (change : Change) → Extends before between → now ≡ between ++ change ∷ [] → Extends before now
extends_more before between now change first last =
    record { more = first.more ++ change ∷ []; added = last ∙ ap (λ (xs : List Change). xs ++ change ∷ []) first.added ∙ append_assoc before first.more (change ∷ []) }

-- no part, where the rule leaves the process
pub part_nothing : (actor : Actor) (log : List Change) (rule : Process → Process) → me_of actor ≡ rule (me_of actor) → PlansPart actor log log rule
part_nothing actor log rule same = part_same actor log log (λ me. me) rule (part_none actor log) same

-- the same by another rule of the whole step
pub own_same : (actor : Actor) (before now : List Change) (outcome : Outcome) (rule other : State → Effect) → PlansOwn actor before now outcome rule →
    ((S : State) → rule S ≡ other S) → PlansOwn actor before now outcome other
own_same actor before now outcome rule other plan same =
    record { plan = plan.plan; added = plan.added; own = plan.own; nameless = plan.nameless; effect = λ S. sym (same S) ∙ plan.effect S; shown = plan.shown }

-- what was planned by one rule is planned by another that does the same
pub owned : {E : Type 0} (result : Result Outcome E) (actor : Actor) (before now : List Change) (rule other : State → Effect) → ((S : State) → other S ≡ rule S) →
    IfOk result (λ outcome. PlansOwn actor before now outcome rule) → IfOk result (λ outcome. PlansOwn actor before now outcome other)
owned {E} (Ok outcome) actor before now rule other same plan = own_same actor before now outcome rule other plan (λ S. sym (same S))
owned {E} (Err why) actor before now rule other same plan = tt

-- and so by a page that comes to the same
pub owned_page : {E : Type 0} (result : Result Outcome E) (actor : Actor) (before now : List Change) (rule page : Rule) → ComesTo actor page rule →
    IfOk result (λ outcome. PlansOwn actor before now outcome (effect_by actor rule)) → IfOk result (λ outcome. PlansOwn actor before now outcome (effect_by actor page))
owned_page {E} result actor before now rule page same plan =
    owned result actor before now (effect_by actor rule) (effect_by actor page) (λ S. ap (effect_of actor.pid.0 (me_of actor)) (same S)) plan

-- a transaction that it is in
pub inside_is : (inside : Option Inside) → is_some (inside_of inside) ≡ is_some inside
inside_is None = refl
inside_is (Some inside) = refl
