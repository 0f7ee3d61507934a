-- Plans of calls that send a signal.
use Rattle.std.proofs.Common.{◌≡◌, ℕ, pos, List, [], ◌∷◌, length, Option, Some, None, refl, ap, sym, ◌∙◌}
use Rattle.tx_base.specs.declared.names.Sending.{Sending as TheSending}
use Rattle.tx_change.specs.Exchange.{AreNamed}
use Rattle.tx_change.specs.States.{state_of}
use Rattle.tx_change.specs.declared.change.Change.{Change}
use Rattle.tx_change.specs.declared.parts.Parts.{Parts}
use Rattle.tx_kernel.proofs.OwnPlans.{own_named, own_brings, own_among, own_shown, own_state}
use Rattle.tx_kernel.specs.Actors.{effect_by, me_of, inside_of, CountsHeld, IsActor}
use Rattle.tx_kernel.specs.Laws.{PlanLaws}
use Rattle.tx_kernel.specs.Own.{PlansOwn}
use Rattle.tx_kernel.specs.Plans.{Plans, held_after, sending_of}
use Rattle.tx_kernel.specs.Sends.{holds_more, sent}
use Rattle.tx_kernel.specs.declared.sends.Send.TheVariants.{Holds}
use Rattle.tx_kernel.specs.declared.actor.Actor.{Actor}
use Rattle.tx_kernel.specs.declared.inside.Inside.{Inside}
use Rattle.tx_kernel.specs.declared.planned.Outcome.{Outcome}
use Rattle.tx_kernel.specs.declared.planned.Sends.TheVariants.{AtOnce, AtCommit}
use Rattle.tx_model.specs.Effects.{Effect, with_answer}
use Rattle.tx_model.specs.Words.{before_sends, answer_effect}
use Rattle.tx_model.specs.State.{Object, Process, Sending, State, SetProc, write_one, with_writes}

abbrev IsRule : Actor → (State → Effect) → (State → Effect) → Type 0
IsRule actor rule other = (held : ℕ → List Sending) → CountsHeld actor.inside held → rule (state_of held actor.parts.now) ≡ other (state_of held actor.parts.now)

pub same_held : (inside : Option Inside) (m : TheSending) (held : ℕ → List Sending) → held_after (inside_of inside) (AtOnce m) held ≡ held
same_held None m held = refl
same_held (Some inside) m held = refl

-- what is written, where a signal is handed out with an answer
held_state : (inside : Option Inside) (m : TheSending) (n : ℕ) (q : Process) (parts : Parts) (held : ℕ → List Sending) →
    with_writes (SetProc n (Some q) ∷ holds_more (inside_of inside) (sending_of m) (state_of held parts)) (state_of held parts)
    ≡ write_one (SetProc n (Some q)) (state_of (held_after (inside_of inside) (AtCommit m) held) parts)
unfolding with_writes
held_state None m n q parts held = refl
held_state (Some inside) m n q parts held = refl

-- a signal that is held: the process is given its answer
pub holds_plans : (laws : PlanLaws) (actor : Actor) (before now : List Change) (outcome : Outcome) (m : TheSending) (rule : State → Effect) (objects : State → List Object) →
    length actor.parts.now.descs ≡ 64 → IsActor actor →
    IsRule actor rule (effect_by actor (sent (Holds m))) →
    PlansOwn actor before now outcome (λ S. answer_effect actor.pid.0 (pos 0) (me_of actor)) →
    Plans actor before now (record { outcome = outcome; sends = AtCommit m }) rule objects
unfolding with_writes
holds_plans laws actor before now outcome m rule objects sized is does own =
    let parts : Parts = actor.parts.now in
    let n : ℕ = actor.pid.0 in
    let plan : List Change = own.plan in
    let named : AreNamed parts plan = own_named parts n plan is.number own.own in
    record {
      plan = plan;
      added = own.added;
      named = named;
      counts = laws.call parts actor.pid actor.proc.now [] [] plan is.number sized tt tt named own.nameless is.whole.counts is.there is.runs (record { each = λ d others z. z });
      brings = own_brings n plan own.own;
      gives = λ held counted.
          let after : ℕ → List Sending = held_after (inside_of actor.inside) (AtCommit m) held in
          record {
            state = ap (λ (f : Effect). before_sends f (state_of held parts)) (does held counted)
                ∙ held_state actor.inside m n (with_answer (pos 0) (me_of actor)) parts held
                ∙ ap (λ (f : Effect). before_sends f (state_of after parts)) (own.effect (state_of after parts))
                ∙ sym (own_state laws actor plan after is own.own);
            sends = ap (λ (f : Effect). f.sends) (does held counted);
            conclusion = ap (λ (f : Effect). f.conclusion) (does held counted) ∙ ap (λ (f : Effect). f.conclusion) (own.effect (state_of held parts));
          };
      shown = own_shown laws actor plan outcome is own.own own.shown;
      seen = tt;
      among = λ held. own_among n (objects (state_of held parts)) plan own.own;
    }
