-- A process whose step begins a transaction is in none, and is nobody's.
use Rattle.std.proofs.Common.{◌≡◌, ℕ, ℤ, pos, Bool, true, false, not, Option, Some, None, if◌then◌else◌, refl, sym, ap, subst, ◌∙◌, inl, inr}
use Rattle.std.proofs.lemmas.Bool.{both_ways, cases_Bool}
use Rattle.tx_base.specs.Slots.{slot_at}
use Rattle.tx_base.specs.declared.marks.Mark.{Mark}
use Rattle.tx_base.specs.declared.names.Pid.{Pid}
use Rattle.tx_base.specs.declared.steps.Refusal.TheVariants.{NoMemory}
use Rattle.tx_base.specs.declared.steps.Reply.{Reply}
use Rattle.tx_base.specs.declared.steps.Reply.TheVariants.{Done}
use Rattle.tx_base.specs.declared.steps.Step.{Step}
use Rattle.tx_base.specs.declared.steps.Step.TheVariants.{Call as Calls, Deliver}
use Rattle.tx_step.specs.Contents.{IsContent}
use Rattle.tx_step.specs.declared.roles.StepRole.TheVariants as the
use Rattle.tx_laws.specs.TwoStates.{is_owner, states_view}
use Rattle.tx_content.specs.Begins.{IsAlone}
use Rattle.tx_content.specs.Content.{owner_at, view_of}
use Rattle.tx_content.specs.Made.{IsMade}
use Rattle.tx_content.specs.declared.content.Content.{Content}
use Rattle.tx_content.specs.declared.inverse.Inverse.{Inverse}
use Rattle.tx_model.specs.Answer.{answer, IsAccepted}
use Rattle.tx_model.specs.Events.{Note, effect, objects, reply_of}
use Rattle.tx_model.specs.History.{event_footprint, targets}
use Rattle.tx_model.specs.Membership.{Kind, Ordinary, Forking, Beginning, Leaving, Aborting, Role, Outside, Within, Commits, Aborts, Begins, Continues, Parks, Forks, Table, event_in, is_live, is_of, kind_event, others_open, says_ended}
use Rattle.tx_model.specs.Words.{kind_of, kind_role, member_end_role, ordinary_role, is_blocking, IsClear}
use Rattle.tx_model.specs.State.{Object, Proc, Desc, Pipe, Held}
use Rattle.tx_model.specs.View.{View, event_on, first_reply, has_two_answers, in_way, some_object, role_on}
use Rattle.tx_reserve.specs.Reservations.{owner_of}
use Rattle.tx_step.proofs.RefusedSteps.{refused_late}
use Rattle.tx_step.proofs.Taken.{answered, fitting, process_requested, runs_seen, sound, stepped, reserved_own}
use Rattle.tx_step.specs.Requests.{step_of}
use Rattle.tx_step.specs.Laws.{StepLaws}
use Rattle.tx_step.specs.Steps.{IsRefused, IsStep}
use Rattle.tx_step.specs.Through.{IsLetThrough}
use Rattle.tx_step.specs.declared.request.Request.{Request}
use Rattle.tx_step.specs.declared.request.Request.TheVariants.{Call, Delivery}

-- whether a step of this role begins a transaction
begins : Role → Bool
begins Outside = false
begins (Within s Continues) = false
begins (Within s Parks) = false
begins (Within s (Forks child)) = false
begins (Within s (Begins defers)) = true
begins (Commits s) = false
begins (Aborts s status) = false

end_begins : (b : Bool) (s : ℕ) → begins (member_end_role b s) ≡ false
unfolding begins
end_begins true s = refl
end_begins false s = refl

ordinary_begins : (b : Bool) (t : Table) (s p : ℕ) → begins (ordinary_role b t s p) ≡ false
unfolding begins
ordinary_begins true t s p = end_begins (others_open t s p t.width) s
ordinary_begins false t s p = refl

-- a call that begins a transaction is of a process with no mark, which is answered 0
kind_begins : (t : Table) (p : ℕ) (step : Step) (kind : Kind) (r : Reply) (mark : Option Mark) → begins (kind_role t p kind r mark) ≡ true →
    (mark ≡ None) × (kind_event t p step kind mark ≡ Note p (pos 0))
unfolding begins
kind_begins t p step Ordinary r None e = cc
kind_begins t p step Ordinary r (Some m) e = absurd (both_ways (begins (ordinary_role (says_ended r) t m.starter.0 p)) (ordinary_begins (says_ended r) t m.starter.0 p) e)
kind_begins t p step (Forking child) r None e = cc
kind_begins t p step (Forking child) r (Some m) e = cc
kind_begins t p step (Beginning defers) r None e = (refl, refl)
kind_begins t p step (Beginning defers) r (Some m) e = cc
kind_begins t p step Leaving r None e = cc
kind_begins t p step Leaving r (Some m) e =
    absurd (both_ways (begins (member_end_role (others_open t m.starter.0 p t.width) m.starter.0)) (end_begins (others_open t m.starter.0 p t.width) m.starter.0) e)
kind_begins t p step Aborting r None e = cc
kind_begins t p step Aborting r (Some m) e = cc

-- and so is a step
begun_told : (V : View) (pid : Pid) (request : Request) (s : ℕ) (defers : Bool) → role_on V (step_of pid request) ≡ Within s (Begins defers) →
    (V.table.marks pid.0 ≡ None) × (event_on V (step_of pid request) ≡ Note pid.0 (pos 0))
unfolding begins
begun_told V pid (Call call) s defers is =
    let told = kind_begins V.table pid.0 (Calls pid call.now) (kind_of call.now) (first_reply V (Calls pid call.now)) (V.table.marks pid.0) (ap begins is) in
    (told.0, ap (λ (r : Role). event_in r (kind_event V.table pid.0 (Calls pid call.now) (kind_of call.now) (V.table.marks pid.0))) is ∙ told.1)
begun_told V pid (Delivery signo) s defers is =
    let told = kind_begins V.table pid.0 (Deliver pid signo) Ordinary (first_reply V (Deliver pid signo)) (V.table.marks pid.0) (ap begins is) in
    (told.0, ap (λ (r : Role). event_in r (kind_event V.table pid.0 (Deliver pid signo) Ordinary (V.table.marks pid.0))) is ∙ told.1)

-- who reserved a process that is in no transaction is in the way of the note to it
in_way_of_note : (V : View) (p t : ℕ) (r : ℤ) → is_live V.table t ≡ true → V.table.marks p ≡ None → V.reserved t (Proc p) ≡ true → in_way V (Note p r) t ≡ true
unfolding in_way event_footprint objects effect targets some_object
in_way_of_note V p t r live none reserved =
    (λ j. is_blocking (if live j then not (is_of t (none j)) else false) V (Note p r) t)
    ∙ ap (λ (b : Bool). if (if b then true else false) then true else has_two_answers V (Note p r) t) reserved

module _ (laws : StepLaws) (k : Content) (is : IsContent k) (pid : Pid) (request : Request) (defers : Bool) (through : IsLetThrough k pid request (the.Begins defers)) where
  told : (slot_at k.marks pid.0 ≡ None) × (event_on (view_of k) (step_of pid request) ≡ Note pid.0 (pos 0))
  unfolding view_of states_view
  told = begun_told (view_of k) pid request pid.0 defers (sym through.is)

  answered_zero : answer (view_of k) (step_of pid request) ≡ Done (pos 0)
  unfolding reply_of effect
  answered_zero = answered laws k is pid request (the.Begins defers) through (Within pid.0 (Begins defers)) (Note pid.0 (pos 0)) (sym through.is) told.1

  clear : IsClear (view_of k) (Note pid.0 (pos 0))
  clear =
      (fitting laws k is (step_of pid request) (Within pid.0 (Begins defers)) (Note pid.0 (pos 0)) (sym through.is) told.1 (subst IsAccepted (sym answered_zero) tt)).0

  -- its number is no live starter's
  dead : is_live (view_of k).table pid.0 ≡ false
  unfolding view_of states_view
  dead = ap (is_of pid.0) told.0

  owner_none : (x : Option ℕ) → owner_at k (Proc pid.0) ≡ x → x ≡ None
  unfolding view_of states_view
  owner_none None e = refl
  owner_none (Some t) e =
      let reserved : (view_of k).reserved t (Proc pid.0) ≡ true = reserved_own laws k is t (Proc pid.0) e in
      let live : is_live (view_of k).table t ≡ true = (sound laws k is).owned_live t (Proc pid.0) reserved in
      absurd (both_ways (in_way (view_of k) (Note pid.0 (pos 0)) t) (clear t live) (in_way_of_note (view_of k) pid.0 t (pos 0) live told.0 reserved))

  owns_none : (o : Object) → is_owner pid.0 (owner_at k o) ≡ false
  unfolding view_of states_view
  owns_none o = elim (cases_Bool (is_owner pid.0 (owner_at k o))) [
    | inl e ↦ absurd (both_ways (is_live (view_of k).table pid.0) dead ((sound laws k is).owned_live pid.0 o e))
    | inr e ↦ e
  ]

  -- it is in no transaction, and it owns and is nothing's own
  pub alone : IsAlone k pid.0
  unfolding view_of states_view owner_of
  alone = record {
    mark = told.0;
    members = λ n. elim (cases_Bool (is_of pid.0 (slot_at k.marks n))) [
      | inl e ↦ absurd (both_ways (is_live (view_of k).table pid.0) dead (is.view.formed.members pid.0 n e))
      | inr e ↦ e
    ];
    owner = owner_none (owner_at k (Proc pid.0)) refl;
    owns = owns;
  }
    where
      owns : (o : Object) → is_owner pid.0 (owner_of k.owners o) ≡ false
      owns (Proc n) = owns_none (Proc n)
      owns (Desc n) = owns_none (Desc n)
      owns (Pipe n) = owns_none (Pipe n)
      owns (Held n) = refl

  -- its begin is a step
  pub begun_step : (new : Content) (inverse : Inverse) → IsMade k (Within pid.0 (Begins defers)) (Note pid.0 (pos 0)) pid.0 new inverse → IsStep k (step_of pid request) (Done (pos 0)) inverse new
  begun_step new inverse made =
      stepped laws k is (step_of pid request) (Within pid.0 (Begins defers)) (Note pid.0 (pos 0)) (sym through.is) told.1 (Done (pos 0)) answered_zero tt
      (λ no_abort. runs_seen laws k is pid request (the.Begins defers) through) new inverse
      (λ fits. subst (λ (p : ℕ). IsMade k (Within pid.0 (Begins defers)) (Note pid.0 (pos 0)) p new inverse) (sym (process_requested pid request)) made)

  -- and where it is not made memory is wanted
  pub refused : (old : Content) → old ≡ k → IsRefused k (step_of pid request) NoMemory old
  unfolding effect reply_of
  refused old same =
      refused_late laws k is pid request (the.Begins defers) through (Within pid.0 (Begins defers)) (Note pid.0 (pos 0)) (sym through.is) told.1 refl refl NoMemory (inl (refl, tt)) old same
