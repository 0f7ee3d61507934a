-- A step of a transaction that tells nothing of its moment, in a state that has that transaction.
use Rattle.std.proofs.Common.{◌≡◌, ℕ, Bool, true, false, not, ◌&&◌, ◌||◌, List, ◌∷◌, pos, Option, Some, None, is_some, ◌==◌, refl, sym, ap, ◌∙◌, subst, eq-eqb}
use Rattle.tx_base.specs.declared.marks.Mark.{Mark}
use Rattle.tx_base.specs.declared.steps.Accepted.{Accepted}
use Rattle.tx_base.specs.declared.steps.Reply.{Reply}
use Rattle.tx_base.specs.declared.steps.Step.{Step}
use Rattle.tx_base.specs.declared.steps.Step.TheVariants.{Call as Calls, Deliver, KernelAbort}
use Rattle.tx_model.specs.ObjectFacts.{has_right}
use Rattle.tx_model.specs.State.{Process, State, Sending, Object, Proc, has_object}
use Rattle.tx_model.specs.StateLaws.{AgreeOn}
use Rattle.tx_model.specs.Effects.{Effect}
use Rattle.tx_model.specs.Events.{Event, Note, process_of, actor, effect, objects, reply_of}
use Rattle.tx_model.specs.Membership.{Table, is_of, is_member_of, is_live, mark_unless_of, others_open, Progress, Continues, Parks, Forks, Begins, Role, Within, Kind, Ordinary, Forking, Beginning, Leaving, Aborting, says_ended, role, kind_event, step_event, event, event_in}
use Rattle.tx_model.specs.Words.{member_end_role, ordinary_role, kind_of, IsClear, kind_role}
use Rattle.tx_model.specs.History.{Starters, nobody, targets, event_footprint, objects_reserved, reserved_after, table_of, role_in, event_of, left_out_before, is_left_in, without, reserved_of}
use Rattle.tx_model.specs.View.{View, view, present, abort_status}
use Rattle.tx_model.specs.Answer.{is_running, plain_reply, Lawful, AgreesWithout}
use Rattle.tx_laws.specs.Fits.{IsIn, IsQuiet, ProgressFits, FitsWithin, Fits, Passes}
use Rattle.tx_laws.specs.OneMoment.{looks_at_signals, is_sent_to, tells_moment}
use Rattle.tx_laws.specs.Sound.{IsSound}
use Rattle.tx_laws.specs.WellFormed.{IsWellFormed}
use Rattle.tx_laws.specs.WellFormedTable.{HoldsNothing}
use Rattle.tx_laws.proofs.Coherence.{clear_foot, in_targets, objects_in, reserved_new, taken_foot}
use Rattle.tx_laws.proofs.Local.{actor_in}
use Rattle.tx_moment.specs.Laws.{MomentLaws}
use Rattle.tx_moment.proofs.OwnEvents.{IsOwnEvent}
use Rattle.tx_moment.specs.Unseen.{overlooks}

neither : (x y : Bool) → (x || y) ≡ false → (x ≡ false) × (y ≡ false)
neither true y h = cc
neither false y h = (refl, h)

-- a step that looks at no signals of s has an event that does not
kind_overlooks : (t : Table) (p s : ℕ) (step : Step) (k : Kind) (m : Option Mark) → (process_of step == s && looks_at_signals step) ≡ false → overlooks s (kind_event t p step k m) ≡ true
kind_overlooks t p s step Ordinary m h = rw h refl
kind_overlooks t p s step (Forking c) m h = rw h refl
kind_overlooks t p s step (Beginning defers) None h = refl
kind_overlooks t p s step (Beginning defers) (Some m) h = refl
kind_overlooks t p s step Leaving None h = refl
kind_overlooks t p s step Leaving (Some m) h = refl
kind_overlooks t p s step Aborting None h = refl
kind_overlooks t p s step Aborting (Some m) h = refl

step_overlooks : (t : Table) (s : ℕ) (step : Step) (r : Reply) → (process_of step == s && looks_at_signals step) ≡ false → overlooks s (step_event t step r) ≡ true
step_overlooks t s (Calls p call) r h = kind_overlooks t p.0 s (Calls p call) (kind_of call) (t.marks p.0) h
step_overlooks t s (Deliver p signo) r h = kind_overlooks t p.0 s (Deliver p signo) Ordinary (t.marks p.0) h
step_overlooks t s (KernelAbort u) r h = refl

-- the first step of a transaction is noted
ends_begin : (b : Bool) (u s : ℕ) (defers : Bool) → member_end_role b u ≡ Within s (Begins defers) → ⊥
ends_begin true u s defers h = cc
ends_begin false u s defers h = cc

ordinary_begin : (b : Bool) (t : Table) (u p s : ℕ) (defers : Bool) → ordinary_role b t u p ≡ Within s (Begins defers) → ⊥
ordinary_begin true t u p s defers h = ends_begin (others_open t u p t.width) u s defers h
ordinary_begin false t u p s defers h = cc

kind_begin : (t : Table) (p s : ℕ) (step : Step) (k : Kind) (r : Reply) (m : Option Mark) (defers : Bool) → kind_role t p k r m ≡ Within s (Begins defers) → kind_event t p step k m ≡ Note p (pos 0)
kind_begin t p s step Ordinary r None defers h = cc
kind_begin t p s step Ordinary r (Some m) defers h = absurd (ordinary_begin (says_ended r) t m.starter.0 p s defers h)
kind_begin t p s step (Forking c) r None defers h = cc
kind_begin t p s step (Forking c) r (Some m) defers h = cc
kind_begin t p s step (Beginning d) r None defers h = refl
kind_begin t p s step (Beginning d) r (Some m) defers h = cc
kind_begin t p s step Leaving r None defers h = cc
kind_begin t p s step Leaving r (Some m) defers h = absurd (ends_begin (others_open t m.starter.0 p t.width) m.starter.0 s defers h)
kind_begin t p s step Aborting r None defers h = cc
kind_begin t p s step Aborting r (Some m) defers h = cc

step_begin : (t : Table) (step : Step) (r : Reply) (s : ℕ) (defers : Bool) → role t step r ≡ Within s (Begins defers) → step_event t step r ≡ Note (process_of step) (pos 0)
step_begin t (Calls p call) r s defers h = kind_begin t p.0 s (Calls p call) (kind_of call) r (t.marks p.0) defers h
step_begin t (Deliver p signo) r s defers h = kind_begin t p.0 s (Deliver p signo) Ordinary r (t.marks p.0) defers h
step_begin t (KernelAbort u) r s defers h = cc

-- the event of a step looks at no signals of s, and sends it nothing
pub record TellsNothing (S : State) (s : ℕ) (e : Accepted) (h : List Accepted) : Type 0 where
  pub overlooks : overlooks s (event_of S e h) ≡ true
  pub unsent : is_sent_to s (effect (event_of S e h) (without S nobody h)).sends ≡ false

within_event : (t : Table) (step : Step) (r : Reply) (s : ℕ) (part : Progress) → role t step r ≡ Within s part → event t step r ≡ step_event t step r
within_event t step r s part h = ap (λ (x : Role). event_in x (step_event t step r)) h

pub silent_step : (S : State) (s : ℕ) (e : Accepted) (h : List Accepted) (part : Progress) → role_in S e h ≡ Within s part → tells_moment S s e h ≡ false → TellsNothing S s e h
silent_step S s e h part is told =
    let not_told = neither (process_of e.step == s && looks_at_signals e.step) _ told in
    record {
      overlooks = subst (λ (ev : Event). overlooks s ev ≡ true) (sym (within_event (table_of S h) e.step e.reply s part is)) (step_overlooks (table_of S h) s e.step e.reply not_told.0);
      unsent = not_told.1;
    }

pub begins_silent : (S : State) (s : ℕ) (e : Accepted) (h : List Accepted) (defers : Bool) → role_in S e h ≡ Within s (Begins defers) → TellsNothing S s e h
unfolding effect is_sent_to
begins_silent S s e h defers is =
    let note : event_of S e h ≡ Note (process_of e.step) (pos 0) =
    within_event (table_of S h) e.step e.reply s (Begins defers) is ∙ step_begin (table_of S h) e.step e.reply s defers is in
    record {
      overlooks = subst (λ (ev : Event). overlooks s ev ≡ true) (sym note) refl;
      unsent = subst (λ (ev : Event). is_sent_to s (effect ev (without S nobody h)).sends ≡ false) (sym note) refl;
    }

runs_there : (x : Option Process) → is_running x ≡ true → is_some x ≡ true
runs_there None h = h
runs_there (Some q) h = refl

module _ (laws : MomentLaws) (V : View) (ev : Event) (s p : ℕ) (part : Progress) (sound : IsSound V) (clear : IsClear V ev) (fits : FitsWithin s part ev p V) (X : Starters) (kept : X s ≡ false) where
  quiet : IsQuiet V ev X
  quiet t k = subst (λ (n : ℕ). X n ≡ false) (sym (fits.mine t (subst (λ (q : ℕ). is_member_of V.table t q ≡ true) fits.actor_is k))) kept

  same_objects : AgreeOn (objects ev (present V)) (present V) (V.without X)
  same_objects = laws.objects V ev X sound clear quiet

  pub same_effect : effect ev (present V) ≡ effect ev (V.without X)
  same_effect = laws.events.effects ev (present V) (V.without X) same_objects

  -- what the event names is in its footprint
  named : (o : Object) → has_object o (objects ev (V.without X)) ≡ true → has_object o (event_footprint V.table ev (present V)) ≡ true
  named o h =
      objects_in V.table ev (present V) o (subst (λ (os : List Object). has_object o os ≡ true) (sym (laws.events.objects ev (present V) (V.without X) same_objects)) h)

  targeted : (m : Sending) → IsIn m (effect ev (V.without X)).sends → has_object (Proc m.target) (event_footprint V.table ev (present V)) ≡ true
  unfolding event_footprint
  targeted m i =
      let i : IsIn m (effect ev (present V)).sends = subst (λ (f : Effect). IsIn m f.sends) (sym same_effect) i in
      has_right (Proc m.target) (objects ev (present V)) (targets V.table (actor ev) (effect ev (present V)).sends)
      (in_targets V.table (actor ev) (effect ev (present V)).sends m i (fits.sends (present V) m i))

  -- the starter is there, as it is in the state
  live_there : is_live V.table s ≡ true → is_some ((present V).procs s) ≡ true → is_some ((V.without X).procs s) ≡ true
  live_there live there =
      let mine : V.reserved s (Proc s) ≡ true = sound.own_procs s s live in
      subst (λ x. is_some x ≡ true) (sound.coherent nobody X (Proc s) (λ u k. sym (subst (λ (n : ℕ). X n ≡ false) (sound.single s u (Proc s) mine k) kept))).equal there

  first_there : s ≡ p → is_running ((present V).procs p) ≡ true → is_some ((V.without X).procs s) ≡ true
  first_there e runs =
      subst (λ (n : ℕ). is_some ((V.without X).procs n) ≡ true) (fits.actor_is ∙ sym e)
      (subst (λ x. is_some x ≡ true) (same_objects (Proc (actor ev)) (actor_in ev (present V))).equal
      (subst (λ (n : ℕ). is_some ((present V).procs n) ≡ true) (sym fits.actor_is) (runs_there ((present V).procs p) runs)))

  member_live : is_member_of V.table s p ≡ true → is_live V.table s ≡ true
  member_live h = sound.owned_live s (Proc p) (sound.own_procs s p h)

  pub own_there : (is_live V.table s ≡ true → is_some ((present V).procs s) ≡ true) → is_some ((V.without X).procs s) ≡ true
  own_there there = by part fits.progress_fits
    where
      by : (x : Progress) → ProgressFits V s p ev x → is_some ((V.without X).procs s) ≡ true
      by Continues h = live_there (member_live h) (there (member_live h))
      by Parks h = live_there (member_live h) (there (member_live h))
      by (Forks c) h = live_there (member_live h.0) (there (member_live h.0))
      by (Begins defers) h = first_there h.0 h.3

  pub own_event : (T : Object → Bool) → ((o : Object) → has_object o (event_footprint V.table ev (present V)) ≡ true → T o ≡ true) → overlooks s ev ≡ true
      → is_sent_to s (effect ev (present V)).sends ≡ false → (is_live V.table s ≡ true → is_some ((present V).procs s) ≡ true) → IsOwnEvent T s ev (V.without X)
  own_event T in_T looks unsent there = record {
    names = λ o h. in_T o (named o h);
    sends = λ m i. in_T (Proc m.target) (targeted m i);
    unsent = subst (λ (f : Effect). is_sent_to s f.sends ≡ false) same_effect unsent;
    overlooks = looks;
    there = own_there there;
  }

-- whom a step within the transaction makes a member was a member of no other
abbrev pub IsFree : ℕ → Progress → Table → Type 0
IsFree s Continues t = Unit {0}
IsFree s Parks t = Unit {0}
IsFree s (Forks c) t = mark_unless_of s (t.marks c) ≡ None
IsFree s (Begins defers) t = Unit {0}

unmarked_by : (s : ℕ) (m : Option Mark) → ((u : ℕ) → is_of u m ≡ true → u ≡ s) → mark_unless_of s m ≡ None
unmarked_by s None only = refl
unmarked_by s (Some m) only = rw (eq-eqb m.starter.0 s (only m.starter.0 (eq-eqb m.starter.0 m.starter.0 refl))) refl

free_by : (V : View) (ev : Event) (s p : ℕ) (part : Progress) → IsSound V → IsClear V ev → FitsWithin s part ev p V → IsFree s part V.table
free_by V ev s p part sound clear fits = by part fits.progress_fits
  where
    by : (x : Progress) → ProgressFits V s p ev x → IsFree s x V.table
    by Continues h = tt
    by Parks h = tt
    by (Forks c) h =
        unmarked_by s (V.table.marks c) (λ u k.
        fits.mine u (subst (λ (q : ℕ). is_member_of V.table u q ≡ true) fits.actor_is
        (clear_foot V ev sound clear (Proc c) u (objects_in V.table ev (present V) (Proc c) h.1) (sound.own_procs u c k))))
    by (Begins defers) h = tt

-- the same of a step of a lawful history
module _ (laws : MomentLaws) (S : State) (form : IsWellFormed S) (nothing : HoldsNothing S) (s : ℕ) (e : Accepted) (h : List Accepted) (lawful : Lawful S (e ∷ h)) (part : Progress)
    (is : role_in S e h ≡ Within s part) where
  pub forked_free : IsFree s part (table_of S h)
  unfolding view Lawful
  forked_free =
      let fit = laws.fit S e h lawful in
      free_by (view S h) (event_of S e h) s (process_of e.step) part (laws.sound S h lawful.0) (subst (λ (r : Role). Passes r (event_of S e h) (view S h)) is fit.0)
      (subst (λ (r : Role). Fits r (event_of S e h) (process_of e.step) (view S h)) is fit.1)

  in_reserved : (o : Object) → has_object o (event_footprint (table_of S h) (event_of S e h) (without S nobody h)) ≡ true → reserved_of S (e ∷ h) s o ≡ true
  unfolding reserved_of
  in_reserved o k =
      let F : List Object = event_footprint (table_of S h) (event_of S e h) (without S nobody h) in
      subst (λ (r : Role). reserved_after r F (reserved_of S h) s o ≡ true) (sym is) (reserved_new s (has_object o (objects_reserved part s F)) (reserved_of S h s o) (taken_foot part s F o k))

  pub own_step_event : (X : Starters) → X s ≡ false → TellsNothing S s e h → IsOwnEvent (reserved_of S (e ∷ h) s) s (event_of S e h) (without S X h)
  unfolding view Lawful
  own_step_event X kept quiet =
      let fit = laws.fit S e h lawful in
      let passes : IsClear (view S h) (event_of S e h) = subst (λ (r : Role). Passes r (event_of S e h) (view S h)) is fit.0 in
      let fits : FitsWithin s part (event_of S e h) (process_of e.step) (view S h) = subst (λ (r : Role). Fits r (event_of S e h) (process_of e.step) (view S h)) is fit.1 in
      own_event laws (view S h) (event_of S e h) s (process_of e.step) part (laws.sound S h lawful.0) passes fits X kept (reserved_of S (e ∷ h) s) in_reserved quiet.overlooks quiet.unsent
      (λ live. ((laws.table S h form nothing lawful.0).live s live).starter)

  -- its reply is that of its event
  pub own_step_reply : (X : Starters) → X s ≡ false → e.reply ≡ reply_of (event_of S e h) (without S X h)
  unfolding AgreesWithout
  own_step_reply X kept =
      let k : ℕ = abort_status (view S h) e.step in
      subst (λ (r : Role). is_left_in r X ≡ true → e.reply ≡ plain_reply k r (event_of S e h) (without S (left_out_before r X) h)) is (laws.agree S (e ∷ h) lawful X).0 (ap not kept)
