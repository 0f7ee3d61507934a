-- A step that commits its transaction.
use Rattle.std.proofs.Common.{◌≡◌, ℕ, true, false, List, [], ◌∷◌, All, Option, Some, None, IsSome, is_some, is_none, refl, sym, ap, subst, ◌∙◌, inl}
use Rattle.std.proofs.lemmas.List.Elements.{All-head, All-tail}
use Rattle.tx_base.specs.Slots.{slot_at}
use Rattle.tx_base.specs.declared.marks.Mark.{Mark}
use Rattle.tx_base.specs.declared.names.Pid.{Pid}
use Rattle.tx_base.specs.declared.steps.Refusal.TheVariants.{NoMemory}
use Rattle.tx_base.specs.declared.steps.Reply.TheVariants.{Ended}
use Rattle.tx_base.specs.declared.steps.Step.{Step}
use Rattle.tx_step.specs.Contents.{IsContent}
use Rattle.tx_step.specs.declared.roles.StepRole.TheVariants as role
use Rattle.tx_kernel.specs.Acts.{event_of}
use Rattle.tx_kernel.specs.declared.events.Act.{Act}
use Rattle.tx_laws.specs.Fits.{Fits}
use Rattle.tx_laws.specs.TwoStates.{made}
use Rattle.tx_laws.specs.WellFormed.{HasGoodNumbers, IsHeldSending, IsWellFormed}
use Rattle.tx_content.specs.Commits.{missed_of, AreAnswered}
use Rattle.tx_content.specs.Content.{now_of, view_of}
use Rattle.tx_content.specs.HeldPosts.{HaveSignals, IsEnd}
use Rattle.tx_content.specs.Insides.{inside_in}
use Rattle.tx_content.specs.Made.{IsMade, IsUnowned}
use Rattle.tx_content.specs.declared.content.Content.{Content}
use Rattle.tx_content.specs.declared.inverse.Inverse.{Inverse}
use Rattle.tx_model.specs.Answer.{is_running}
use Rattle.tx_model.specs.Words.{has_bad_number}
use Rattle.tx_model.specs.Effects.{Inside}
use Rattle.tx_model.specs.Events.{Event, Do, Commit, after, effect, process_of, reply_of}
use Rattle.tx_model.specs.History.{nobody}
use Rattle.tx_model.specs.Membership.{Role, Commits, Table, Kind, Ordinary, Forking, Beginning, Leaving, Aborting, kind_event, step_event}
use Rattle.tx_model.specs.State.{Process, Sending, State}
use Rattle.tx_model.specs.View.{event_on, first_reply, starter_in_way}
use Rattle.tx_base.specs.declared.steps.Reply.TheVariants as reply
use Rattle.tx_step.proofs.Clear.{commits_too, named_too, unowned_own}
use Rattle.tx_step.proofs.KnownLow.{known_low}
use Rattle.tx_step.proofs.Members.{live_at, live_there, LiveAt}
use Rattle.tx_step.proofs.RefusedSteps.{refused_late}
use Rattle.tx_step.proofs.Taken.{answered, now_seen, numbers, process_requested, runs_seen, stepped}
use Rattle.tx_step.proofs.Told.{act_actor, commits_kind, ends_told, event_told, role_told, OfMember}
use Rattle.tx_step.specs.Requests.{IsActOf, is_own, kind_requested, step_of}
use Rattle.tx_step.specs.Laws.{StepLaws}
use Rattle.tx_step.specs.Steps.{IsRefused, IsStep, replied}
use Rattle.tx_step.specs.Through.{IsLetThrough}
use Rattle.tx_step.specs.declared.answered.Answered.TheVariants.{Committed}
use Rattle.tx_step.specs.declared.request.Request.{Request}
use Rattle.tx_step.specs.declared.request.Request.TheVariants.{Call, Delivery}
use Rattle.tx_txn.specs.Marks.{table_at}

-- what the event chooses is good where it is so of the step
good_event : (t : Table) (p width : ℕ) (step : Step) (kind : Kind) (mark : Option Mark) → has_bad_number width step ≡ false → HasGoodNumbers width (kind_event t p step kind mark)
good_event t p width step Ordinary mark good = good
good_event t p width step (Forking c) mark good = good
good_event t p width step (Beginning d) None good = tt
good_event t p width step (Beginning d) (Some m) good = tt
good_event t p width step Leaving None good = tt
good_event t p width step Leaving (Some m) good = tt
good_event t p width step Aborting None good = tt
good_event t p width step Aborting (Some m) good = tt

good_request : (t : Table) (pid : Pid) (width : ℕ) (request : Request) → has_bad_number width (step_of pid request) ≡ false → HasGoodNumbers width (step_event t (step_of pid request) Ended)
good_request t pid width (Call call) good = good_event t pid.0 width (step_of pid (Call call)) (kind_requested (Call call)) (t.marks pid.0) good
good_request t pid width (Delivery signo) good = good_event t pid.0 width (step_of pid (Delivery signo)) Ordinary (t.marks pid.0) good

-- what an end of a process that runs posts itself is answered
module _ (laws : StepLaws) (S : State) (formed : IsWellFormed S) where
  end_answered : (step : Step) (inside : Option Inside) (slot : Option Process) → S.procs (process_of step) ≡ slot → is_running slot ≡ true → IsEnd (Do step inside) S → AreAnswered (Do step inside) S
  end_answered step inside None there runs ends = cc
  end_answered step inside (Some me) there runs ends = laws.answered S step inside me formed there (status_none me.status runs) ends
    where
      status_none : (status : Option ℕ) → is_none status ≡ true → status ≡ None
      status_none None h = refl
      status_none (Some n) h = cc

  event_answered : (t : Table) (p : ℕ) (step : Step) (kind : Kind) (mark : Option Mark) → is_running (S.procs (process_of step)) ≡ true → IsEnd (kind_event t p step kind mark) S →
      AreAnswered (kind_event t p step kind mark) S
  unfolding effect
  event_answered t p step Ordinary mark runs ends = end_answered step _ (S.procs (process_of step)) refl runs ends
  event_answered t p step (Forking c) mark runs ends = end_answered step _ (S.procs (process_of step)) refl runs ends
  event_answered t p step (Beginning d) None runs ends = refl
  event_answered t p step (Beginning d) (Some m) runs ends = refl
  event_answered t p step Leaving None runs ends = refl
  event_answered t p step Leaving (Some m) runs ends = refl
  event_answered t p step Aborting None runs ends = refl
  event_answered t p step Aborting (Some m) runs ends = refl

  request_answered : (t : Table) (pid : Pid) (request : Request) → is_running (S.procs (process_of (step_of pid request))) ≡ true → IsEnd (step_event t (step_of pid request) Ended) S →
      AreAnswered (step_event t (step_of pid request) Ended) S
  request_answered t pid (Call call) runs ends = event_answered t pid.0 (step_of pid (Call call)) (kind_requested (Call call)) (t.marks pid.0) runs ends
  request_answered t pid (Delivery signo) runs ends = event_answered t pid.0 (step_of pid (Delivery signo)) Ordinary (t.marks pid.0) runs ends

module _ (laws : StepLaws) (k : Content) (is : IsContent k) (pid starter : Pid) (request : Request) (through : IsLetThrough k pid request (role.Commits starter)) where
  told : OfMember (slot_at k.marks pid.0) starter.0 × (is_own (kind_requested request) true ≡ true)
  told = commits_kind (table_at k.marks) pid.0 starter.0 (kind_requested request) (first_reply (view_of k) (step_of pid request)) (slot_at k.marks pid.0) (sym (through.is ∙ role_told k pid request))

  live : LiveAt k pid starter
  live = live_at k is pid starter told.0

  pub live_is : IsSome (slot_at k.txns starter.0)
  live_is = live_there k pid starter live

  formed_now : IsWellFormed (now_of k)
  formed_now = subst IsWellFormed (now_seen laws k is) (is.formed nobody)

  module _ (act : Act) (acts : IsActOf request true act) where
    -- what it does, and its event
    act_is : event_of (inside_in k starter) pid act ≡ step_event (table_at k.marks) (step_of pid request) Ended
    act_is =
        ap (λ (inside : Option Inside). event_of inside pid act) live.inside
        ∙ acts (table_at k.marks) pid (slot_at k.marks pid.0) Ended refl (ap is_some told.0.is) told.1

    event_is : event_on (view_of k) (step_of pid request) ≡ Commit starter.0 (event_of (inside_in k starter) pid act)
    event_is = event_told k pid request (Commits starter.0) Ended through.is ∙ ap (Commit starter.0) (sym act_is)

    -- nobody else owns what it reads or writes
    pub unowned : IsUnowned k (Some starter.0) (event_of (inside_in k starter) pid act)
    unowned o there =
        let E : Event = Commit starter.0 (event_of (inside_in k starter) pid act) in
        unowned_own laws k is E (ap (starter_in_way (view_of k)) (sym event_is) ∙ through.clear) starter.0 told.0.m
        (ap (slot_at k.marks) (act_actor (inside_in k starter) pid act) ∙ told.0.is) told.0.starter o
        (named_too k E (now_of k) o (commits_too starter.0 (event_of (inside_in k starter) pid act) (now_of k) o there))

    -- it ends the part of its process
    pub end_is : IsEnd (event_of (inside_in k starter) pid act) (now_of k)
    end_is =
        subst (λ (E : Event). IsEnd E (now_of k)) (sym act_is)
        (subst (IsEnd (step_event (table_at k.marks) (step_of pid request) Ended)) (now_seen laws k is) (ends_told k pid request starter.0 Ended through.is))

    -- what is held then are signals
    pub signals : HaveSignals ((made (event_of (inside_in k starter) pid act) (now_of k) (now_of k)).held starter.0)
    unfolding effect after
    signals = below _ _ (after_formed.held starter.0)
      where
        good : HasGoodNumbers (now_of k).width (event_of (inside_in k starter) pid act)
        good = subst (HasGoodNumbers (now_of k).width) (sym act_is)
            (good_request (table_at k.marks) pid (now_of k).width request (numbers laws k is pid request (role.Commits starter) through))

        after_formed : IsWellFormed (after (event_of (inside_in k starter) pid act) (now_of k))
        after_formed = laws.keeps (event_of (inside_in k starter) pid act) (now_of k) formed_now good

        below : (width : ℕ) (ms : List Sending) → All (IsHeldSending width) ms → HaveSignals ms
        below width [] all = tt
        below width (m ∷ ms) all = (known_low m.signo (All-head (IsHeldSending width) m ms all).known, below width ms (All-tail (IsHeldSending width) m ms all))

    -- what it posts itself is answered
    pub answered_is : AreAnswered (event_of (inside_in k starter) pid act) (now_of k)
    answered_is =
        subst (λ (E : Event). AreAnswered E (now_of k)) (sym act_is)
        (request_answered laws (now_of k) formed_now (table_at k.marks) pid request
        (ap (λ (S : State). is_running (S.procs (process_of (step_of pid request)))) (sym (now_seen laws k is)) ∙ runs_seen laws k is pid request (role.Commits starter) through)
        (subst (λ (E : Event). IsEnd E (now_of k)) act_is end_is))

    -- once it is made it is a step
    pub taken : (new : Content) (inverse : Inverse) →
        (Fits (Commits starter.0) (event_of (inside_in k starter) pid act) pid.0 (view_of k) →
        IsMade k (Commits starter.0) (Commit starter.0 (event_of (inside_in k starter) pid act)) pid.0 new inverse) →
        (AreAnswered (event_of (inside_in k starter) pid act) (now_of k) →
        reply_of (Commit starter.0 (event_of (inside_in k starter) pid act)) (now_of k) ≡ reply.Committed (record { items = missed_of inverse })) →
        IsStep k (step_of pid request) (replied new pid.0 inverse Committed) inverse new
    taken new inverse made answers =
        let R : Role = Commits starter.0 in
        let E : Event = Commit starter.0 (event_of (inside_in k starter) pid act) in
        stepped laws k is (step_of pid request) R E (sym through.is) event_is (replied new pid.0 inverse Committed)
        (answered laws k is pid request (role.Commits starter) through R E (sym through.is) event_is ∙ answers answered_is)
        tt (λ no. runs_seen laws k is pid request (role.Commits starter) through) new inverse
        (λ fits. subst (λ (p : ℕ). IsMade k R E p new inverse) (sym (process_requested pid request)) (made fits))

    -- and where it is not made memory is wanted
    pub refused : (old : Content) → old ≡ k → IsRefused k (step_of pid request) NoMemory old
    unfolding effect reply_of
    refused old same =
        refused_late laws k is pid request (role.Commits starter) through (Commits starter.0) (Commit starter.0 (event_of (inside_in k starter) pid act)) (sym through.is) event_is refl refl NoMemory
        (inl (refl, tt)) old same
