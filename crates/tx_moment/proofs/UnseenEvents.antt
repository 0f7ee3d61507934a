-- An event that looks at no signals of a process, and sends it none, does the same whatever is pending there.
use Rattle.std.proofs.Common.{◌≡◌, ℕ, Bool, true, false, not, ◌&&◌, List, [], ◌∷◌, ◌++◌, ℤ, Option, Some, None, is_some, if◌then◌else◌, ◌==◌, refl, sym, ap, ◌∙◌, subst}
use Rattle.tx_base.specs.declared.steps.Call.{Call}
use Rattle.tx_base.specs.declared.steps.Refusal.TheVariants.{NoProcess, NotRunning}
use Rattle.tx_base.specs.declared.steps.Reply.TheVariants.{Done}
use Rattle.tx_base.specs.declared.steps.Step.{Step}
use Rattle.tx_base.specs.declared.steps.Step.TheVariants.{Call as Calls, Deliver, KernelAbort}
use Rattle.tx_model.specs.State.{Process, State, Object, Proc, Held, Write, SetHeld}
use Rattle.tx_model.specs.Effects.{Inside, Effect, Replies, ListsFailed, idle, with_answer_if, send_answers, concluding_reply, commit_effect}
use Rattle.tx_model.specs.Events.{Event, Do, Note, Commit, process_of, step_effect, effect, objects, after, reply_of, effect_at, objects_at, page_of_step}
use Rattle.tx_model.specs.Book.{page_of_call}
use Rattle.tx_model.specs.Forms.{◌or◌, Page, ◌when◌, effect_of, caller}
use Rattle.tx_model.specs.Deliveries.{delivery_page}
use Rattle.tx_model.specs.Words.{delivery_effect, call_objects, note_effect}
use Rattle.tx_laws.specs.OneMoment.{call_looks, looks_at_signals}
use Rattle.tx_moment.specs.Unseen.{Signals, resignalled_if, with_signals, overlooks, UnseenSignalsStay, UnseenObjectsStay, UnseenRepliesStay}
use Rattle.tx_moment.proofs.Resigned.{resigned, seen, edit_resigned, noted_resigned, written_resigned, send_answers_resigned, effect_resigned}
use Rattle.tx_moment.proofs.UnseenParts.{resigned_append}
use Rattle.tx_moment.proofs.UnseenCalls.{signed, running_seen, Follows, else_now, call_same, delivery_same, call_unseen, delivery_unseen}

-- where not both hold and the second does, the first does not
not_both : (a b : Bool) → not (a && b) ≡ true → b ≡ true → a ≡ false
not_both true true h k = cc
not_both true false h k = cc
not_both false b h k = refl

module _ (s : ℕ) (g : Signals) (S : State) where
  -- the state with these signals
  abbrev R : State
  R = with_signals s g S

  -- what is seen of a process that has ended
  ended_seen : (b : Bool) (me : Process) (status : ℕ) → me.status ≡ Some status → (if b then resignalled_if g (Some me) else Some me) ≡ Some me
  ended_seen true me status h = ap (λ (x : Option ℕ). Some (if is_some x then me else record me { pending = g.pending; queued = g.queued })) h
  ended_seen false me status h = refl

  -- what a page does for a process p that is so, and what it names
  abbrev run_of : Option Inside → ℕ → Page → State → Process → Option ℕ → Effect
  run_of inside p page T me status = (idle NotRunning when is_some status) (effect_of p me (page.outcome (caller inside p me T)))

  abbrev done_of : Option Inside → ℕ → Page → State → Option Process → Effect
  done_of inside p page T x = (x or idle NoProcess) λ me. run_of inside p page T me me.status

  abbrev names_of : Option Inside → ℕ → Page → State → Option Process → List Object
  names_of inside p page T x = (x or []) λ me. page.names (caller inside p me T)

  -- what a step of process p does, if it does the same where the process runs
  act_follows : (inside : Option Inside) (p : ℕ) (page : Page)
      → ((me : Process) → me.status ≡ None → Follows s g (effect_of p (signed (p == s) g me) (page.outcome (caller inside p (signed (p == s) g me) R))) (effect_of p me (page.outcome (caller inside p me S))))
      → Follows s g (effect_at inside p page R) (effect_at inside p page S)
  act_follows inside p page acts =
      subst (λ (x : Option Process). Follows s g (done_of inside p page R x) (effect_at inside p page S)) (sym (seen s g S p)) (at (S.procs p))
    where
      nobody : (b : Bool) → Follows s g (done_of inside p page R (if b then None else None)) (idle NoProcess)
      nobody true = record { same = refl }
      nobody false = record { same = refl }

      by : (me : Process) (status : Option ℕ) → me.status ≡ status
          → Follows s g (done_of inside p page R (if p == s then resignalled_if g (Some me) else Some me)) (run_of inside p page S me status)
      by me None e =
          subst (λ (x : Option Process). Follows s g (done_of inside p page R x) (effect_of p me (page.outcome (caller inside p me S)))) (sym (running_seen (p == s) g me e))
          (subst (λ (x : Option ℕ). Follows s g (run_of inside p page R (signed (p == s) g me) x) (effect_of p me (page.outcome (caller inside p me S)))) (sym e) (acts me e))
      by me (Some status) e =
          subst (λ (x : Option Process). Follows s g (done_of inside p page R x) (idle NotRunning)) (sym (ended_seen (p == s) me status e))
          (subst (λ (x : Option ℕ). Follows s g (run_of inside p page R me x) (idle NotRunning)) (sym e) (record { same = refl }))

      at : (x : Option Process) → Follows s g (done_of inside p page R (if p == s then resignalled_if g x else x)) (done_of inside p page S x)
      at None = nobody (p == s)
      at (Some me) = by me me.status refl

  step_follows : (step : Step) (inside : Option Inside) → is_some (S.procs s) ≡ true → not (process_of step == s && looks_at_signals step) ≡ true
      → Follows s g (step_effect step inside R) (step_effect step inside S)
  step_follows (Calls p call) inside there h =
      act_follows inside p.0 (page_of_call call) (λ me runs. call_same s g p.0 me runs inside call S there (not_both (p.0 == s) (call_looks call) h))
  step_follows (Deliver p signo) inside there h =
      let apart : (p.0 == s) ≡ false = not_both (p.0 == s) true h refl in
      act_follows inside p.0 (delivery_page signo.0)
      (λ me runs.
      subst (λ (x : Process). Follows s g (delivery_effect inside p.0 signo.0 x R) (delivery_effect inside p.0 signo.0 me S)) (sym (else_now s g p.0 me runs apart))
      (delivery_same s g p.0 me runs inside signo.0 S apart))
  step_follows (KernelAbort p) inside there h = record { same = refl }

  note_follows : (p : ℕ) (r : ℤ) → Follows s g (note_effect p r (R.procs p)) (note_effect p r (S.procs p))
  note_follows p r = record {
    same = ap (λ (w : Write). record { writes = w ∷ []; sends = []; conclusion = Replies (Done r) }) (edit_resigned s g (with_answer_if r) (noted_resigned s g r) S p);
  }

  commit_follows : (t : ℕ) (f h : Effect) → Follows s g f h → Follows s g (commit_effect t f R) (commit_effect t h S)
  commit_follows t f h k = record {
    same = ap (λ (x : Effect). commit_effect t x R) k.same
        ∙ (λ i. record { writes = sym (resigned_append s g h.writes (SetHeld t [] ∷ [])) i; sends = h.sends ++ (written_resigned s g h.writes S i).held t; conclusion = ListsFailed });
  }

  -- what an event does
  event_follows : (ev : Event) → is_some (S.procs s) ≡ true → overlooks s ev ≡ true → Follows s g (effect ev R) (effect ev S)
  unfolding effect
  event_follows (Do step inside) there h = step_follows step inside there h
  event_follows (Note p r) there h = note_follows p r
  event_follows (Commit t ev) there h = commit_follows t (effect ev R) (effect ev S) (event_follows ev there h)

  -- what a step names
  call_named : (inside : Option Inside) (p : ℕ) (c : Call) → names_of inside p (page_of_call c) R (R.procs p) ≡ names_of inside p (page_of_call c) S (S.procs p)
  call_named inside p c = ap (names_of inside p (page_of_call c) R) (seen s g S p) ∙ at (p == s) (S.procs p)
    where
      of : (b : Bool) (me : Process) → names_of inside p (page_of_call c) R (Some (if b then me else record me { pending = g.pending; queued = g.queued })) ≡ call_objects inside c p me S
      of true me = call_unseen s g inside c p false me S
      of false me = call_unseen s g inside c p true me S

      at : (b : Bool) (x : Option Process) → names_of inside p (page_of_call c) R (if b then resignalled_if g x else x) ≡ names_of inside p (page_of_call c) S x
      at true None = refl
      at false None = refl
      at true (Some me) = of (is_some me.status) me
      at false (Some me) = call_unseen s g inside c p false me S

  delivery_named : (inside : Option Inside) (p signo : ℕ) → (p == s) ≡ false → names_of inside p (delivery_page signo) R (R.procs p) ≡ names_of inside p (delivery_page signo) S (S.procs p)
  delivery_named inside p signo apart =
      ap (λ (b : Bool). names_of inside p (delivery_page signo) R (if b then resignalled_if g (S.procs s) else S.procs p)) apart ∙ at (S.procs p)
    where
      at : (x : Option Process) → names_of inside p (delivery_page signo) R x ≡ names_of inside p (delivery_page signo) S x
      at None = refl
      at (Some me) = delivery_unseen s g inside signo p me S

  step_named : (step : Step) (inside : Option Inside) → not (process_of step == s && looks_at_signals step) ≡ true → objects_at inside (process_of step) (page_of_step step) R ≡ objects_at inside (process_of step) (page_of_step step) S
  step_named (Calls p call) inside h = ap (λ (os : List Object). Proc p.0 ∷ os) (call_named inside p.0 call)
  step_named (Deliver p signo) inside h = ap (λ (os : List Object). Proc p.0 ∷ os) (delivery_named inside p.0 signo.0 (not_both (p.0 == s) true h refl))
  step_named (KernelAbort p) inside h = ap (λ (os : List Object). Proc p.0 ∷ os) (nothing (R.procs p.0) ∙ sym (nothing (S.procs p.0)))
    where
      nothing : (x : Option Process) → ◌or◌ {R = List Object} x [] (λ me. []) ≡ []
      nothing None = refl
      nothing (Some me) = refl

  event_named : (ev : Event) → overlooks s ev ≡ true → objects ev R ≡ objects ev S
  unfolding objects
  event_named (Do step inside) h = step_named step inside h
  event_named (Note p r) h = refl
  event_named (Commit t ev) h = ap (λ (os : List Object). Held t ∷ os) (event_named ev h)

pub unseen_signals_stay : UnseenSignalsStay
unfolding after
unseen_signals_stay ev S s g h = effect_resigned s g (effect ev S) (effect ev (with_signals s g S)) S (event_follows s g S ev h.there h.overlooks).same h.unsent

pub unseen_objects_stay : UnseenObjectsStay
unseen_objects_stay ev S s g h = event_named s g S ev h.overlooks

pub unseen_replies_stay : UnseenRepliesStay
unfolding reply_of
unseen_replies_stay ev S s g h =
    let R : State = with_signals s g S in
    let f : Effect = effect ev S in
    let same : effect ev R ≡ resigned s g f = (event_follows s g S ev h.there h.overlooks).same in (
      ap (λ (x : Effect). x.sends) same,
      ap (λ (x : Effect). concluding_reply x.conclusion x.sends (send_answers x R)) same
          ∙ ap (concluding_reply f.conclusion f.sends) (send_answers_resigned s g f S h.unsent),
    )
