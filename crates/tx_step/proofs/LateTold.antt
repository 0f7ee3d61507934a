-- What the rule of an event refuses, told by the process that makes it.
use Rattle.std.proofs.Common.{◌≡◌, ◌≢◌, ℕ, ℤ, true, false, List, Option, Some, None, IfNone, IfSome, inl, inr, sym, ap, subst, ◌∙◌}
use Rattle.tx_base.specs.Slots.{slot_at}
use Rattle.tx_base.specs.declared.names.Pid.{Pid}
use Rattle.tx_base.specs.declared.names.Signo.{Signo}
use Rattle.tx_base.specs.declared.steps.Call.{Call}
use Rattle.tx_base.specs.declared.steps.Refusal.{Refusal}
use Rattle.tx_base.specs.declared.steps.Refusal.TheVariants.{NoMemory}
use Rattle.tx_base.specs.declared.steps.Reply.TheVariants.{No}
use Rattle.tx_base.specs.declared.steps.Step.TheVariants.{Call as Calls, Deliver}
use Rattle.tx_change.specs.States.{state_of}
use Rattle.tx_step.specs.Late.{IsWhyNot, TellsRule, WasRefused}
use Rattle.tx_step.specs.Ways.{IsOwnActor}
use Rattle.tx_kernel.specs.Actors.{CountsHeld, inside_of, me_of}
use Rattle.tx_kernel.specs.Refusals.{IsMade}
use Rattle.tx_kernel.specs.declared.actor.Actor.{Actor}
use Rattle.tx_content.specs.Content.{held_of, now_of}
use Rattle.tx_content.specs.Made.{RefusesStep}
use Rattle.tx_content.specs.declared.content.Content.{Content}
use Rattle.tx_model.specs.Answer.{IsAccepted}
use Rattle.tx_model.specs.Words.{call_effect, delivery_effect}
use Rattle.tx_model.specs.Effects.{Effect, Inside, concluding_reply, idle, send_answers}
use Rattle.tx_model.specs.Events.{Event, Do, Note, effect, reply_of}
use Rattle.tx_model.specs.Membership.{inside_by}
use Rattle.tx_model.specs.State.{Process, Sending, State}
use Rattle.tx_model.specs.Book.{page_of_call}
use Rattle.tx_model.specs.Deliveries.{delivery_page}
use Rattle.tx_model.specs.BookLaws.{runs_as}
use Rattle.tx_proc.specs.Parts.{process_in}
use Rattle.tx_txn.specs.Marks.{table_at}

-- an event that does nothing, and one that is made
reply_refused : (ev : Event) (S : State) (why : Refusal) → effect ev S ≡ idle why → reply_of ev S ≡ No why
unfolding reply_of
reply_refused ev S why is = ap (λ (f : Effect). concluding_reply f.conclusion f.sends (send_answers f S)) is

reply_made : (ev : Event) (S : State) (f : Effect) → effect ev S ≡ f → IsMade f → IsAccepted (reply_of ev S)
unfolding reply_of
reply_made ev S f is made = subst (λ (g : Effect). IsAccepted (concluding_reply g.conclusion g.sends (send_answers g S))) (sym is) (made (send_answers f S))

module _ (k : Content) (pid : Pid) (actor : Actor) (own : IsOwnActor k pid actor) where
  abbrev pub inside : Option Inside
  inside = inside_by (table_at k.marks) (slot_at k.marks pid.0)

  there : (now_of k).procs pid.0 ≡ Some (me_of actor)
  there = ap process_in (sym (λ j. slot_at (own.parts j).procs (own.pid_is j).0) ∙ own.is.there)

  -- what a rule tells of the process that the code has, it tells of the content
  told_by : (rule : Option Inside → ℕ → Process → State → Effect) (ev : Event) → effect ev (now_of k) ≡ rule inside pid.0 (me_of actor) (now_of k) → (found : Option Refusal) →
      IfSome found (λ why. (held : ℕ → List Sending) → CountsHeld actor.inside held → rule (inside_of actor.inside) actor.pid.0 (me_of actor) (state_of held actor.parts.now) ≡ idle why) →
      IfNone found ((held : ℕ → List Sending) → CountsHeld actor.inside held → IsMade (rule (inside_of actor.inside) actor.pid.0 (me_of actor) (state_of held actor.parts.now))) →
      IfSome found (λ why. why ≢ NoMemory) → TellsRule ev (now_of k) found
  told_by rule ev is (Some why) refused accepted memory = (
    reply_refused ev (now_of k) why
        (is ∙ sym (λ j. rule (own.inside j) (own.pid_is j).0 (me_of actor) (state_of (held_of k) (own.parts j))) ∙ refused (held_of k) own.counts),
    memory,
  )
  told_by rule ev is None refused accepted memory =
      reply_made ev (now_of k) (rule (inside_of actor.inside) actor.pid.0 (me_of actor) (state_of (held_of k) actor.parts.now))
      (is ∙ sym (λ j. rule (own.inside j) (own.pid_is j).0 (me_of actor) (state_of (held_of k) (own.parts j)))) (accepted (held_of k) own.counts)

  pub call_told : (called : Call) (found : Option Refusal) →
      IfSome found (λ why. (held : ℕ → List Sending) → CountsHeld actor.inside held → call_effect (inside_of actor.inside) actor.pid.0 called (me_of actor) (state_of held actor.parts.now) ≡ idle why) →
      IfNone found ((held : ℕ → List Sending) → CountsHeld actor.inside held → IsMade (call_effect (inside_of actor.inside) actor.pid.0 called (me_of actor) (state_of held actor.parts.now))) →
      IfSome found (λ why. why ≢ NoMemory) → TellsRule (Do (Calls pid called) inside) (now_of k) found
  unfolding effect
  call_told called found =
      told_by (λ inside p me S. call_effect inside p called me S) (Do (Calls pid called) inside) (runs_as inside pid.0 (page_of_call called) (now_of k) (me_of actor) there own.is.runs) found

  pub delivery_told : (signo : Signo) (found : Option Refusal) →
      IfSome found (λ why. (held : ℕ → List Sending) → CountsHeld actor.inside held → delivery_effect (inside_of actor.inside) actor.pid.0 signo.0 (me_of actor) (state_of held actor.parts.now) ≡ idle why) →
      IfNone found ((held : ℕ → List Sending) → CountsHeld actor.inside held → IsMade (delivery_effect (inside_of actor.inside) actor.pid.0 signo.0 (me_of actor) (state_of held actor.parts.now))) →
      IfSome found (λ why. why ≢ NoMemory) → TellsRule (Do (Deliver pid signo) inside) (now_of k) found
  unfolding effect
  delivery_told signo found =
      told_by (λ inside p me S. delivery_effect inside p signo.0 me S) (Do (Deliver pid signo) inside) (runs_as inside pid.0 (delivery_page signo.0) (now_of k) (me_of actor) there own.is.runs) found

-- an answer is made
pub note_told : (p : ℕ) (ret : ℤ) (S : State) → TellsRule (Note p ret) S None
unfolding effect reply_of
note_told p ret S = tt

-- what the plan was refused for is the rule's reason, where it is not want of memory
pub why_told : (k : Content) (ev : Event) (why : Refusal) → WasRefused k ev why → why ≢ NoMemory → IsWhyNot ev (now_of k) why
why_told k ev why was other = by was.refuses
  where
    by : RefusesStep k ev why → IsWhyNot ev (now_of k) why
    by (inl memory) = absurd (other memory)
    by (inr (inl refused)) = inr (reply_refused ev (now_of k) why refused, other)
    by (inr (inr bad)) = absurd (let clash : false ≡ true = sym was.good ∙ bad.1 in let no : ⊥ = cc in no)
