-- Steps that are made: a plan, and its exchanges.
use Rattle.std.proofs.Common.{◌≡◌, ℕ, ℤ, List, [], ◌∷◌, ◌++◌, drop, take, length, Option, Result, Ok, Err, IfOk, IfErr, ◌⊎◌, inl, inr, refl, ap, sym, subst, ◌∙◌}
use Rattle.std.proofs.lemmas.List.{drop_at, take_at}
use Rattle.tx_base.specs.declared.names.Pid.{Pid}
use Rattle.tx_change.specs.Counts.{CountsAgree}
use Rattle.tx_change.specs.Exchange.{applied, change_after, exchanged, object_of, parts_after, sizes_of, undone, Sizes, AreNamed, AreWithin}
use Rattle.tx_change.specs.Laws.{HaveAllPlaces}
use Rattle.tx_change.specs.States.{state_of}
use Rattle.tx_change.specs.declared.change.Change.{Change}
use Rattle.tx_change.specs.declared.change.Change.TheVariants.{Slot, Part, Description, Pipe}
use Rattle.tx_change.specs.declared.parts.Parts.{Parts}
use Rattle.tx_kernel.specs.Actors.{effect_by, inside_of, me_of, names_by, IsActor}
use Rattle.tx_kernel.specs.Acts.{Makes, PlansEvent}
use Rattle.tx_kernel.specs.Own.{PlansOwn}
use Rattle.tx_kernel.proofs.OwnPlans.{own_plans}
use Rattle.tx_kernel.proofs.StepPlans.{quiet_step}
use Rattle.tx_kernel.specs.Laws.{PlanLaws}
use Rattle.tx_kernel.specs.Plans.{AreAmong, ChoosesBadly, IsBadChoice, IsRefused, RefusedBy, quiet}
use Rattle.tx_kernel.specs.Steps.{target_objects, GivesStep, PlansStep}
use Rattle.tx_kernel.specs.declared.actor.Actor.{Actor}
use Rattle.tx_kernel.specs.declared.planned.Outcome.{Outcome}
use Rattle.tx_kernel.specs.declared.planned.Sends.{Sends}
use Rattle.tx_kernel.specs.declared.planned.Sends.TheVariants.{Nothing}
use Rattle.tx_kernel.specs.declared.planned.Planned.{Planned}
use Rattle.tx_kernel.specs.declared.inside.Inside.{Inside}
use Rattle.tx_base.specs.declared.names.Signo.{Signo}
use Rattle.tx_base.specs.declared.steps.Call.{Call}
use Rattle.tx_base.specs.declared.steps.Refusal.{Refusal}
use Rattle.tx_base.specs.declared.steps.Step.{Step}
use Rattle.tx_base.specs.declared.steps.Step.TheVariants.{Call as Calls, Deliver}
use Rattle.tx_model.specs.Events.{Event, Do, Note, effect, objects, effect_at, objects_at}
use Rattle.tx_model.specs.Words.{note_effect, answer_effect}
use Rattle.tx_model.specs.Effects.{Inside as TheInside}
use Rattle.tx_model.specs.Forms.{Choice, ChoosesNothing, Page}
use Rattle.tx_model.specs.State.{has_object, Object, State}
use Rattle.tx_model.specs.Book.{page_of_call}
use Rattle.tx_model.specs.Deliveries.{delivery, delivery_page}
use Rattle.tx_model.specs.BookLaws.{names_as, runs_as}
use Rattle.tx_proc.specs.Parts.{process_in}

-- what a change has once it was exchanged is of the same object
same_object_after : (parts : Parts) (change : Change) → object_of (change_after parts change) ≡ object_of change
same_object_after parts (Slot pid slot) = refl
same_object_after parts (Part pid part) = refl
same_object_after parts (Description number opened) = refl
same_object_after parts (Pipe number part) = refl

kept_among : (os : List Object) (parts : Parts) (changes : List Change) → AreAmong os changes → AreAmong os (exchanged parts changes)
kept_among os parts [] among = tt
kept_among os parts (change ∷ changes) among =
    (ap (λ (o : Object). has_object o os) (same_object_after parts change) ∙ among.0, kept_among os (parts_after parts change) changes among.1)

-- the plan of an event at the end of a log, and its exchanges
pub made : (laws : PlanLaws) (actor : Actor) (event : Event) (log between now : List Change) (after : Parts) (planned : Planned) → IsActor actor →
    PlansEvent actor log between planned event →
    after ≡ applied actor.parts.now (drop (length log) between) → now ≡ take (length log) between ++ exchanged actor.parts.now (drop (length log) between) →
    Makes actor.parts.now actor.pid actor.inside event log now after planned
made laws actor event log between now after planned is plans goes logged =
    let parts : Parts = actor.parts.now in
    let plan : List Change = plans.plan in
    let kept : List Change = exchanged parts plan in
    let behind : drop (length log) between ≡ plan = ap (drop (length log)) plans.added ∙ drop_at log plan (length log) refl in
    let front : take (length log) between ≡ log = ap (take (length log)) plans.added ∙ take_at log plan (length log) refl in
    let goes_so : after ≡ applied parts plan = goes ∙ ap (applied parts) behind in
    record {
      kept = kept;
      added = logged ∙ (λ j. front j ++ exchanged parts (behind j));
      named = subst (λ (p : Parts). AreNamed p kept) (sym goes_so) (subst (λ (sizes : Sizes). AreWithin sizes kept) (sym (laws.sizes parts plan)) (laws.stays (sizes_of parts) parts plan plans.named));
      back = ap (λ (p : Parts). undone p kept) goes_so ∙ laws.reverts parts plan plans.named;
      counts = subst CountsAgree (sym goes_so) plans.counts;
      places = subst HaveAllPlaces (sym goes_so) (laws.places parts plan plans.named plans.brings is.whole.places);
      brings = laws.taken parts plan plans.named plans.brings is.whole.places;
      gives = λ held counted.
          subst (λ (p : Parts). GivesStep actor.inside actor.pid parts p planned.outcome planned.sends held (effect event (state_of held parts))) (sym goes_so) (plans.gives held counted);
      signal = plans.signal;
      among = λ held. kept_among (objects event (state_of held parts) ++ target_objects planned.sends) parts plan (plans.among held);
    }

-- a step of the page, whoever makes it
pub record IsOfPage (page : Page) (step : Pid → Step) : Type 0 where
  pub rule : (inside : Option TheInside) (pid : Pid) (S : State) → effect (Do (step pid) inside) S ≡ effect_at inside pid.0 page S
  pub names : (inside : Option TheInside) (pid : Pid) (S : State) → objects (Do (step pid) inside) S ≡ objects_at inside pid.0 page S

pub of_call : (call : Call) → IsOfPage (page_of_call call) (λ pid. Calls pid call)
unfolding effect objects
of_call call = record { rule = λ inside pid S. refl; names = λ inside pid S. refl }

pub of_delivery : (signo : Signo) → IsOfPage (delivery_page signo.0) (λ pid. Deliver pid signo)
unfolding effect objects
of_delivery signo = record { rule = λ inside pid S. refl; names = λ inside pid S. refl }

-- the plan of a call or a delivery is that of its event
pub plans_event : (actor : Actor) (page : Page) (step : Pid → Step) → IsOfPage page step → (log now : List Change) (planned : Planned) → IsActor actor →
    PlansStep actor log now planned.outcome planned.sends (effect_by actor page.outcome) (names_by actor page.names) →
    PlansEvent actor log now planned (Do (step actor.pid) (inside_of actor.inside))
plans_event actor page step of log now planned is plans =
    let parts : Parts = actor.parts.now in
    record {
      plan = plans.plan;
      added = plans.added;
      named = plans.named;
      counts = plans.counts;
      brings = plans.brings;
      gives = λ held counted.
          subst (GivesStep actor.inside actor.pid parts (applied parts plans.plan) planned.outcome planned.sends held)
          (sym (of.rule (inside_of actor.inside) actor.pid (state_of held parts) ∙ runs_as (inside_of actor.inside) actor.pid.0 page (state_of held parts) (me_of actor) (ap process_in is.there) is.runs))
          (plans.gives held counted);
      signal = plans.signal;
      among = λ held.
          subst (λ (os : List Object). AreAmong (os ++ target_objects planned.sends) plans.plan)
          (sym (of.names (inside_of actor.inside) actor.pid (state_of held parts) ∙ names_as (inside_of actor.inside) actor.pid.0 page (state_of held parts) (me_of actor) (ap process_in is.there)))
          (plans.among held);
    }

-- and what refuses it its rule refuses
pub refuses_event : (actor : Actor) (page : Page) (step : Pid → Step) → IsOfPage page step → IsActor actor → (why : Refusal) →
    RefusedBy actor why (effect_by actor page.outcome) → IsRefused actor.parts.now actor.inside why (effect (Do (step actor.pid) (inside_of actor.inside)))
refuses_event actor page step of is why (inl memory) = inl memory
refuses_event actor page step of is why (inr refused) = inr (λ held counted.
    let S = state_of held actor.parts.now in
    of.rule (inside_of actor.inside) actor.pid S ∙ runs_as (inside_of actor.inside) actor.pid.0 page S (me_of actor) (ap process_in is.there) is.runs ∙ refused held counted)

-- the same of what the plan answers
pub plans_as : (actor : Actor) (page : Page) (step : Pid → Step) → IsOfPage page step → (log now : List Change) (sends : Sends) → IsActor actor → (r : Result Outcome Refusal) →
    IfOk r (λ outcome. PlansStep actor log now outcome sends (effect_by actor page.outcome) (names_by actor page.names)) →
    IfOk r (λ outcome. PlansEvent actor log now (record { outcome = outcome; sends = sends }) (Do (step actor.pid) (inside_of actor.inside)))
plans_as actor page step of log now sends is (Ok outcome) plans = plans_event actor page step of log now (record { outcome = outcome; sends = sends }) is plans
plans_as actor page step of log now sends is (Err why) plans = tt

pub refuses_as : (actor : Actor) (page : Page) (step : Pid → Step) → IsOfPage page step → IsActor actor → (choice : Choice) (r : Result Outcome Refusal) →
    IfErr r (λ why. RefusedBy actor why (effect_by actor page.outcome) ⊎ IsBadChoice actor why choice) →
    IfErr r (λ why. IsRefused actor.parts.now actor.inside why (effect (Do (step actor.pid) (inside_of actor.inside))) ⊎ ChoosesBadly actor.parts.now why choice)
refuses_as actor page step of is choice (Ok outcome) refused = tt
refuses_as actor page step of is choice (Err why) (inl refused) = inl (refuses_event actor page step of is why refused)
refuses_as actor page step of is choice (Err why) (inr bad) = inr bad

pub refuses_delivery : (actor : Actor) (signo : Signo) → IsActor actor → (r : Result Outcome Refusal) → IfErr r (λ why. RefusedBy actor why (effect_by actor (delivery signo.0))) →
    IfErr r (λ why. IsRefused actor.parts.now actor.inside why (effect (Do (Deliver actor.pid signo) (inside_of actor.inside))) ⊎ ChoosesBadly actor.parts.now why ChoosesNothing)
refuses_delivery actor signo is (Ok outcome) refused = tt
refuses_delivery actor signo is (Err why) refused = inl (refuses_event actor (delivery_page signo.0) (λ pid. Deliver pid signo) (of_delivery signo) is why refused)

-- an answer is planned as the note of it
pub plans_note : (laws : PlanLaws) (actor : Actor) (log now : List Change) (outcome : Outcome) (ret : ℤ) → length actor.parts.now.descs ≡ 64 → IsActor actor →
    PlansOwn actor log now outcome (λ S. answer_effect actor.pid.0 ret (me_of actor)) → PlansEvent actor log now (quiet outcome) (Note actor.pid.0 ret)
unfolding effect objects
plans_note laws actor log now outcome ret sized is plans =
    let parts : Parts = actor.parts.now in
    let step : PlansStep actor log now outcome Nothing (λ S. answer_effect actor.pid.0 ret (me_of actor)) (λ S. []) =
    quiet_step actor log now outcome Nothing (λ S. answer_effect actor.pid.0 ret (me_of actor)) (λ S. []) refl
    (own_plans laws actor log now outcome (λ S. answer_effect actor.pid.0 ret (me_of actor)) (λ S. []) sized is plans) in
    record {
      plan = step.plan;
      added = step.added;
      named = step.named;
      counts = step.counts;
      brings = step.brings;
      gives = λ held counted.
          subst (GivesStep actor.inside actor.pid parts (applied parts step.plan) outcome Nothing held)
          (sym (ap (note_effect actor.pid.0 ret) (ap process_in is.there))) (step.gives held counted);
      signal = tt;
      among = step.among;
    }

-- a call or a delivery that is planned and made, by the parts, the number and the transaction that its process was found by
pub made_at : (laws : PlanLaws) (actor : Actor) (parts : Parts) (pid : Pid) (inside : Option Inside) (page : Page) (step : Pid → Step) → IsOfPage page step →
    (log between now : List Change) (from : ℕ) (after : Parts) (planned : Planned) →
    IsActor actor → (actor.parts.now ≡ parts) × (actor.pid ≡ pid) × (actor.inside ≡ inside) → from ≡ length log →
    PlansStep actor log between planned.outcome planned.sends (effect_by actor page.outcome) (names_by actor page.names) →
    after ≡ applied parts (drop from between) → now ≡ take from between ++ exchanged parts (drop from between) →
    Makes parts pid inside (Do (step pid) (inside_of inside)) log now after planned
made_at laws actor parts pid inside page step of log between now from after planned is same long plans goes logged =
    let whole : Makes actor.parts.now actor.pid actor.inside (Do (step actor.pid) (inside_of actor.inside)) log now after planned
    = made laws actor (Do (step actor.pid) (inside_of actor.inside)) log between now after planned is (plans_event actor page step of log between planned is plans)
    (goes ∙ ap (λ (p : Parts). applied p (drop from between)) (sym same.0) ∙ ap (λ (k : ℕ). applied actor.parts.now (drop k between)) long)
    (logged ∙ ap (λ (p : Parts). take from between ++ exchanged p (drop from between)) (sym same.0)
    ∙ ap (λ (k : ℕ). take k between ++ exchanged actor.parts.now (drop k between)) long) in
    subst (λ (i : Option Inside). Makes parts pid i (Do (step pid) (inside_of i)) log now after planned) same.2
    (subst (λ (n : Pid). Makes parts n actor.inside (Do (step n) (inside_of actor.inside)) log now after planned) same.1
    (subst (λ (p : Parts). Makes p actor.pid actor.inside (Do (step actor.pid) (inside_of actor.inside)) log now after planned) same.0 whole))
