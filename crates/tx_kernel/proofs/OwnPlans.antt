-- A plan of parts of its own process is a plan of the rule.
use Rattle.std.proofs.Common.{◌≡◌, ℕ, List, [], ◌∷◌, ◌++◌, length, option_map, Option, Some, None, refl, ap, sym, subst, ◌∙◌, eq-eqb}
use Rattle.tx_base.specs.Slots.{slot_at}
use Rattle.tx_change.specs.Exchange.{applied, sizes_of, IsPid, AreNamed}
use Rattle.tx_change.specs.Laws.{revised_by, BringPlaces}
use Rattle.tx_change.specs.Own.{AreOf}
use Rattle.tx_change.specs.States.{state_of}
use Rattle.tx_change.specs.declared.change.Change.{Change}
use Rattle.tx_change.specs.declared.change.Change.TheVariants.{Slot, Part, Description, Pipe}
use Rattle.tx_change.specs.declared.parts.Parts.{Parts}
use Rattle.tx_kernel.specs.Actors.{me_of, inside_of, IsActor}
use Rattle.tx_kernel.specs.Laws.{PlanLaws}
use Rattle.tx_kernel.specs.Own.{PlansOwn}
use Rattle.tx_kernel.specs.Plans.{Plans, Gives, AreAmong, KeepsShown, held_after, memory_in, quiet}
use Rattle.tx_kernel.specs.declared.actor.Actor.{Actor}
use Rattle.tx_kernel.specs.declared.inside.Inside.{Inside}
use Rattle.tx_kernel.specs.declared.planned.Outcome.{Outcome}
use Rattle.tx_kernel.specs.declared.planned.Sends.TheVariants.{Nothing}
use Rattle.tx_model.specs.Effects.{Effect}
use Rattle.tx_model.specs.StateLaws.{put_here}
use Rattle.tx_model.specs.State.{Object, Proc, Process, Sending, State, SetProc, has_object, write_one, with_writes}
use Rattle.tx_proc.specs.Parts.{process_in}

-- parts of a process of a number that there is are named
pub own_named : (parts : Parts) (n : ℕ) (plan : List Change) → IsPid (sizes_of parts) n → AreOf n plan → AreNamed parts plan
own_named parts n [] number own = tt
own_named parts n (Slot pid slot ∷ plan) number own = absurd own.0
own_named parts n (Part pid part ∷ plan) number own = ((subst (IsPid (sizes_of parts)) (sym own.0.0) number, own.0.1), own_named parts n plan number own.1)
own_named parts n (Description d opened ∷ plan) number own = absurd own.0
own_named parts n (Pipe q part ∷ plan) number own = absurd own.0

pub brings_append : (front behind : List Change) → BringPlaces front → BringPlaces behind → BringPlaces (front ++ behind)
brings_append [] behind first last = last
brings_append (change ∷ front) behind first last = (first.0, brings_append front behind first.1 last)

-- none of them brings a process
pub own_brings : (n : ℕ) (plan : List Change) → AreOf n plan → BringPlaces plan
own_brings n [] own = tt
own_brings n (Slot pid slot ∷ plan) own = absurd own.0
own_brings n (Part pid part ∷ plan) own = (tt, own_brings n plan own.1)
own_brings n (Description d opened ∷ plan) own = absurd own.0
own_brings n (Pipe q part ∷ plan) own = absurd own.0

-- each names the process
pub own_among : (n : ℕ) (os : List Object) (plan : List Change) → AreOf n plan → AreAmong (Proc n ∷ os) plan
unfolding has_object
own_among n os [] own = tt
own_among n os (Slot pid slot ∷ plan) own = absurd own.0
own_among n os (Part pid part ∷ plan) own = (rw (eq-eqb pid.0 n own.0.0) refl, own_among n os plan own.1)
own_among n os (Description d opened ∷ plan) own = absurd own.0
own_among n os (Pipe q part ∷ plan) own = absurd own.0

-- the state that they make: the process alone is another one
pub own_state : (laws : PlanLaws) (actor : Actor) (plan : List Change) (held : ℕ → List Sending) → IsActor actor → AreOf actor.pid.0 plan →
    state_of held (applied actor.parts.now plan) ≡ write_one (SetProc actor.pid.0 (Some (revised_by plan (me_of actor)))) (state_of held actor.parts.now)
own_state laws actor plan held is own =
    let S : State = state_of held actor.parts.now in
    let here : S.procs actor.pid.0 ≡ Some (me_of actor) = ap process_in is.there in
    laws.changes held actor.parts.now plan (own_named actor.parts.now actor.pid.0 plan is.number own)
    ∙ laws.process actor.pid.0 plan S own
    ∙ ap (λ (x : Option Process). write_one (SetProc actor.pid.0 (option_map (revised_by plan) x)) S) here

-- what is to be shown stays, where they leave it
pub own_shown : (laws : PlanLaws) (actor : Actor) (plan : List Change) (outcome : Outcome) → IsActor actor → AreOf actor.pid.0 plan →
    KeepsShown outcome (me_of actor).memory (revised_by plan (me_of actor)).memory →
    KeepsShown outcome (me_of actor).memory (memory_in (process_in (slot_at (applied actor.parts.now plan).procs actor.pid.0)))
own_shown laws actor plan outcome is own keeps =
    let nothing : ℕ → List Sending = λ starter. [] in
    subst (KeepsShown outcome (me_of actor).memory)
    (sym (ap (λ (S : State). memory_in (S.procs actor.pid.0)) (own_state laws actor plan nothing is own)
    ∙ ap memory_in (put_here (state_of nothing actor.parts.now).procs actor.pid.0 (Some (revised_by plan (me_of actor)))))) keeps

pub held_quiet : (inside : Option Inside) (outcome : Outcome) (held : ℕ → List Sending) → held_after (inside_of inside) Nothing held ≡ held
held_quiet None outcome held = refl
held_quiet (Some inside) outcome held = refl

pub own_plans : (laws : PlanLaws) (actor : Actor) (before now : List Change) (outcome : Outcome) (rule : State → Effect) (objects : State → List Object) →
    length actor.parts.now.descs ≡ 64 → IsActor actor → PlansOwn actor before now outcome rule → Plans actor before now (quiet outcome) rule objects
unfolding with_writes
own_plans laws actor before now outcome rule objects sized is own =
    let parts : Parts = actor.parts.now in
    let n : ℕ = actor.pid.0 in
    let plan : List Change = own.plan in
    let named : AreNamed parts plan = own_named parts n plan is.number own.own in
    record {
      plan = plan;
      added = own.added;
      named = named;
      counts = laws.call parts actor.pid actor.proc.now [] [] plan is.number sized tt tt named own.nameless is.whole.counts is.there is.runs (record { each = λ d others z. z });
      brings = own_brings n plan own.own;
      gives = λ held counted. subst (Gives actor (applied parts plan) (quiet outcome) held) (sym (own.effect (state_of held parts))) (record {
        state = sym (ap (λ (h : ℕ → List Sending). state_of h (applied parts plan)) (held_quiet actor.inside outcome held) ∙ own_state laws actor plan held is own.own);
        sends = refl;
        conclusion = refl;
      });
      shown = own_shown laws actor plan outcome is own.own own.shown;
      seen = tt;
      among = λ held. own_among n (objects (state_of held parts)) plan own.own;
    }
