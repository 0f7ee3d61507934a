-- A step of a process that is in no transaction.
use Rattle.std.proofs.Common.{◌≡◌, ℕ, true, false, None, length, refl, sym, ap, subst, ◌∙◌, Option}
use Rattle.tx_base.specs.Slots.{slot_at}
use Rattle.tx_base.specs.declared.marks.Mark.{Mark}
use Rattle.tx_base.specs.declared.names.Pid.{Pid}
use Rattle.tx_base.specs.declared.steps.Refusal.{Refusal}
use Rattle.tx_base.specs.declared.steps.Reply.TheVariants.{Ended}
use Rattle.tx_step.specs.Contents.{IsContent}
use Rattle.tx_step.specs.Late.{IsWhyNot, WasRefused}
use Rattle.tx_step.specs.declared.roles.StepRole.TheVariants as role
use Rattle.tx_kernel.specs.Acts.{choice_of, event_of}
use Rattle.tx_kernel.specs.Plans.{reply_of as reply_with}
use Rattle.tx_kernel.specs.declared.events.Act.{Act}
use Rattle.tx_kernel.specs.declared.planned.Outcome.{Outcome}
use Rattle.tx_kernel.specs.declared.planned.Outcome.TheVariants as outcome
use Rattle.tx_content.specs.Content.{now_of, view_of}
use Rattle.tx_content.specs.Made.{Answers, IsMade, IsUnowned, RefusesStep}
use Rattle.tx_content.specs.declared.content.Content.{Content}
use Rattle.tx_content.specs.declared.inverse.Inverse.{Inverse}
use Rattle.tx_model.specs.Answer.{IsAccepted, is_bad_choice}
use Rattle.tx_model.specs.Events.{Event}
use Rattle.tx_model.specs.Membership.{inside_by, Outside}
use Rattle.tx_model.specs.Memory.{Memory}
use Rattle.tx_model.specs.View.{event_on, first_reply, starter_in_way}
use Rattle.tx_step.proofs.Clear.{named_too, unowned_none}
use Rattle.tx_step.proofs.RefusedSteps.{refused_late}
use Rattle.tx_step.proofs.Taken.{answered, numbers, process_requested, runs_seen, stepped}
use Rattle.tx_step.proofs.Told.{act_actor, event_told, good_choice, outside_kind, role_told}
use Rattle.tx_step.specs.Requests.{IsActOf, is_own, kind_requested, step_of}
use Rattle.tx_step.specs.Laws.{StepLaws}
use Rattle.tx_step.specs.Steps.{IsRefused, IsStep, replied}
use Rattle.tx_step.specs.Through.{IsLetThrough}
use Rattle.tx_step.specs.declared.answered.Answered.TheVariants.{Acted}
use Rattle.tx_step.specs.declared.request.Request.{Request}
use Rattle.tx_txn.specs.Marks.{table_at}

-- what a process did is accepted
pub did_accept : (memory : Memory) (did : Outcome) → IsAccepted (reply_with memory did)
did_accept memory (outcome.Done ret) = tt
did_accept memory outcome.Ended = tt
did_accept memory (outcome.Out shown) = tt

module _ (laws : StepLaws) (k : Content) (is : IsContent k) (pid : Pid) (request : Request) (through : IsLetThrough k pid request role.Outside) where
  kind_is : (slot_at k.marks pid.0 ≡ None) × (is_own (kind_requested request) false ≡ true)
  kind_is = outside_kind (table_at k.marks) pid.0 (kind_requested request) (first_reply (view_of k) (step_of pid request)) (slot_at k.marks pid.0) (sym (through.is ∙ role_told k pid request))

  module _ (act : Act) (acts : IsActOf request false act) where
    -- its event
    event_is : event_on (view_of k) (step_of pid request) ≡ event_of None pid act
    event_is = event_told k pid request Outside Ended through.is ∙ sym (acts (table_at k.marks) pid None Ended kind_is.0 refl kind_is.1)

    -- nobody owns what it reads or writes
    pub unowned : IsUnowned k None (event_of None pid act)
    unowned o there =
        unowned_none laws k is (event_of None pid act) (ap (starter_in_way (view_of k)) (sym event_is) ∙ through.clear)
        (ap (slot_at k.marks) (act_actor None pid act) ∙ kind_is.0) o (named_too k (event_of None pid act) (now_of k) o there)

    -- once it is made it is a step
    pub taken : (new : Content) (inverse : Inverse) (did : Outcome) → IsMade k Outside (event_of None pid act) pid.0 new inverse → Answers k (event_of None pid act) pid new did →
        IsStep k (step_of pid request) (replied new pid.0 inverse (Acted did)) inverse new
    taken new inverse did made answers =
        stepped laws k is (step_of pid request) Outside (event_of None pid act) (sym through.is) event_is (replied new pid.0 inverse (Acted did))
        (answered laws k is pid request role.Outside through Outside (event_of None pid act) (sym through.is) event_is ∙ answers)
        (did_accept _ did) (λ no. runs_seen laws k is pid request role.Outside through) new inverse
        (λ fits. subst (λ (p : ℕ). IsMade k Outside (event_of None pid act) p new inverse) (sym (process_requested pid request)) made)

    -- where its plan was refused, it was not for its numbers
    pub was_refused : (old : Content) → old ≡ k → (why : Refusal) → RefusesStep k (event_of None pid act) why →
        WasRefused old (event_of (inside_by (table_at old.marks) (slot_at old.marks pid.0)) pid act) why
    was_refused old same why refuses =
        subst (λ (c : Content). WasRefused c (event_of (inside_by (table_at c.marks) (slot_at c.marks pid.0)) pid act) why) (sym same)
        (subst (λ (E : Event). WasRefused k E why) (ap (λ (mark : Option Mark). event_of (inside_by (table_at k.marks) mark) pid act) (sym kind_is.0)) (record {
          good = ap (λ (E : Event). is_bad_choice (length k.parts.procs) (choice_of E)) (acts (table_at k.marks) pid None Ended kind_is.0 refl kind_is.1)
              ∙ good_choice k pid (length k.parts.procs) request Ended (numbers laws k is pid request role.Outside through);
          refuses = refuses;
        }))

    -- and where it is not made it is refused for the reason of its rule
    pub refused : (old : Content) → old ≡ k → (why : Refusal) → IsWhyNot (event_of (inside_by (table_at old.marks) (slot_at old.marks pid.0)) pid act) (now_of old) why → IsRefused k (step_of pid request) why old
    refused old same why tells =
        refused_late laws k is pid request role.Outside through Outside (event_of None pid act) (sym through.is) event_is refl refl why
        (subst (λ (E : Event). IsWhyNot E (now_of k) why) (ap (λ (mark : Option Mark). event_of (inside_by (table_at k.marks) mark) pid act) kind_is.0)
        (subst (λ (c : Content). IsWhyNot (event_of (inside_by (table_at c.marks) (slot_at c.marks pid.0)) pid act) (now_of c) why) same tells)) old same
