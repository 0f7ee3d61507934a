-- A step of a member, after which its transaction is live.
use Rattle.std.proofs.Common.{◌≡◌, ℕ, true, length, Option, IsSome, is_some, refl, sym, ap, subst, ◌∙◌}
use Rattle.tx_base.specs.Slots.{slot_at}
use Rattle.tx_base.specs.declared.names.Pid.{Pid}
use Rattle.tx_base.specs.declared.steps.Refusal.{Refusal}
use Rattle.tx_base.specs.declared.steps.Reply.TheVariants.{Ended}
use Rattle.tx_step.specs.Contents.{IsContent}
use Rattle.tx_step.specs.Late.{IsWhyNot, WasRefused}
use Rattle.tx_step.specs.declared.roles.StepRole.TheVariants as role
use Rattle.tx_kernel.specs.Acts.{choice_of, event_of}
use Rattle.tx_kernel.specs.declared.events.Act.{Act}
use Rattle.tx_kernel.specs.declared.planned.Outcome.{Outcome}
use Rattle.tx_laws.specs.Fits.{Fits}
use Rattle.tx_content.specs.Content.{now_of, view_of}
use Rattle.tx_content.specs.Insides.{inside_in, IsFootprint, IsFree}
use Rattle.tx_content.specs.Made.{Answers, IsMade, RefusesStep}
use Rattle.tx_content.specs.Progresses.{part_of, HasChild}
use Rattle.tx_content.specs.declared.content.Content.{Content}
use Rattle.tx_content.specs.declared.inverse.Inverse.{Inverse}
use Rattle.tx_content.specs.declared.marking.Progress.{Progress}
use Rattle.tx_model.specs.Words.{has_bad_number}
use Rattle.tx_model.specs.Effects.{Inside}
use Rattle.tx_model.specs.Answer.{is_bad_choice}
use Rattle.tx_model.specs.Events.{Event}
use Rattle.tx_model.specs.Membership.{inside_by, Role, Within}
use Rattle.tx_model.specs.View.{event_on, first_reply, starter_in_way}
use Rattle.tx_reserve.specs.declared.objects.Objects.{Objects}
use Rattle.tx_step.proofs.Clear.{free_own}
use Rattle.tx_step.proofs.Members.{has_child, live_at, live_there, LiveAt}
use Rattle.tx_step.proofs.OutsideTaken.{did_accept}
use Rattle.tx_step.proofs.RefusedSteps.{refused_late}
use Rattle.tx_step.proofs.Taken.{answered, numbers, process_requested, runs_seen, stepped}
use Rattle.tx_step.proofs.Told.{act_actor, event_told, good_choice, role_told, within_kind, OfMember}
use Rattle.tx_step.specs.Requests.{IsActOf, is_own, kind_requested, step_of}
use Rattle.tx_step.specs.Laws.{StepLaws}
use Rattle.tx_step.specs.Steps.{IsRefused, IsStep, replied}
use Rattle.tx_step.specs.Through.{IsLetThrough}
use Rattle.tx_step.specs.declared.answered.Answered.TheVariants.{Acted}
use Rattle.tx_step.specs.declared.request.Request.{Request}
use Rattle.tx_txn.specs.Marks.{table_at}

module _ (laws : StepLaws) (k : Content) (is : IsContent k) (pid starter : Pid) (progress : Progress) (request : Request)
    (through : IsLetThrough k pid request (role.Inside starter progress)) where
  told : OfMember (slot_at k.marks pid.0) starter.0 × (is_own (kind_requested request) true ≡ true)
  told = within_kind (table_at k.marks) pid.0 starter.0 (kind_requested request) (first_reply (view_of k) (step_of pid request)) (slot_at k.marks pid.0) progress (sym (through.is ∙ role_told k pid request))

  live : LiveAt k pid starter
  live = live_at k is pid starter told.0

  pub live_is : IsSome (slot_at k.txns starter.0)
  live_is = live_there k pid starter live

  pub child_is : HasChild (length k.marks) progress
  child_is =
      has_child (table_at k.marks) pid starter.0 (length k.marks) request (first_reply (view_of k) (step_of pid request)) (slot_at k.marks pid.0) progress told.0
      (sym (through.is ∙ role_told k pid request))
      (ap (λ (w : ℕ). has_bad_number w (step_of pid request)) is.shaped.marks ∙ numbers laws k is pid request (role.Inside starter progress) through)

  module _ (act : Act) (acts : IsActOf request true act) where
    -- its event
    event_is : event_on (view_of k) (step_of pid request) ≡ event_of (inside_in k starter) pid act
    event_is =
        event_told k pid request (Within starter.0 (part_of progress)) Ended through.is
        ∙ sym (acts (table_at k.marks) pid (slot_at k.marks pid.0) Ended refl (ap is_some told.0.is) told.1)
        ∙ ap (λ (inside : Option Inside). event_of inside pid act) (sym live.inside)

    pub footprint_is : (footprint : Objects) → IsFootprint k (event_on (view_of k) (step_of pid request)) footprint → IsFootprint k (event_of (inside_in k starter) pid act) footprint
    footprint_is footprint = subst (λ (E : Event). IsFootprint k E footprint) event_is

    -- no other transaction owns anything of it
    pub free : (footprint : Objects) → IsFootprint k (event_on (view_of k) (step_of pid request)) footprint → IsFree k starter.0 footprint
    free footprint is_footprint =
        free_own laws k is (event_of (inside_in k starter) pid act) (ap (starter_in_way (view_of k)) (sym event_is) ∙ through.clear) starter.0 told.0.m
        (ap (slot_at k.marks) (act_actor (inside_in k starter) pid act) ∙ told.0.is) told.0.starter footprint (footprint_is footprint is_footprint)

    -- once it is made it is a step
    pub taken : (new : Content) (inverse : Inverse) (did : Outcome) →
        (Fits (Within starter.0 (part_of progress)) (event_of (inside_in k starter) pid act) pid.0 (view_of k) →
        IsMade k (Within starter.0 (part_of progress)) (event_of (inside_in k starter) pid act) pid.0 new inverse) →
        Answers k (event_of (inside_in k starter) pid act) pid new did → IsStep k (step_of pid request) (replied new pid.0 inverse (Acted did)) inverse new
    taken new inverse did made answers =
        let R : Role = Within starter.0 (part_of progress) in
        let E : Event = event_of (inside_in k starter) pid act in
        stepped laws k is (step_of pid request) R E (sym through.is) event_is (replied new pid.0 inverse (Acted did))
        (answered laws k is pid request (role.Inside starter progress) through R E (sym through.is) event_is ∙ answers)
        (did_accept _ did) (λ no. runs_seen laws k is pid request (role.Inside starter progress) through) new inverse
        (subst (λ (p : ℕ). Fits R E p (view_of k) → IsMade k R E p new inverse) (sym (process_requested pid request)) made)

    -- where its plan was refused, it was not for its numbers
    pub was_refused : (old : Content) → old ≡ k → (why : Refusal) → RefusesStep k (event_of (inside_in k starter) pid act) why →
        WasRefused old (event_of (inside_by (table_at old.marks) (slot_at old.marks pid.0)) pid act) why
    was_refused old same why refuses =
        subst (λ (c : Content). WasRefused c (event_of (inside_by (table_at c.marks) (slot_at c.marks pid.0)) pid act) why) (sym same)
        (subst (λ (E : Event). WasRefused k E why) (ap (λ (inside : Option Inside). event_of inside pid act) live.inside) (record {
          good = ap (λ (E : Event). is_bad_choice (length k.parts.procs) (choice_of E))
              (ap (λ (inside : Option Inside). event_of inside pid act) live.inside ∙ acts (table_at k.marks) pid (slot_at k.marks pid.0) Ended refl (ap is_some told.0.is) told.1)
              ∙ good_choice k pid (length k.parts.procs) request Ended (numbers laws k is pid request (role.Inside starter progress) through);
          refuses = refuses;
        }))

    -- and where it is not made it is refused for the reason of its rule
    pub refused : (old : Content) → old ≡ k → (why : Refusal) → IsWhyNot (event_of (inside_by (table_at old.marks) (slot_at old.marks pid.0)) pid act) (now_of old) why → IsRefused k (step_of pid request) why old
    refused old same why tells =
        refused_late laws k is pid request (role.Inside starter progress) through (Within starter.0 (part_of progress)) (event_of (inside_in k starter) pid act) (sym through.is) event_is refl refl why
        (subst (λ (E : Event). IsWhyNot E (now_of k) why) (ap (λ (inside : Option Inside). event_of inside pid act) (sym live.inside))
        (subst (λ (c : Content). IsWhyNot (event_of (inside_by (table_at c.marks) (slot_at c.marks pid.0)) pid act) (now_of c) why) same tells)) old same
