-- Which steps are refused by their rules, and which are made.
use Rattle.std.proofs.Common.{◌≡◌, ℕ, ℤ, Bool, true, false, not, if◌then◌else◌, pos, List, Option, Some, is_some, ◌==◌, refl, ap, sym, subst, ◌∙◌}
use Rattle.tx_base.specs.declared.signals.Action.TheVariants.{Usual}
use Rattle.tx_base.specs.declared.steps.Call.{Call}
use Rattle.tx_base.specs.declared.steps.Call.TheVariants as call
use Rattle.tx_base.specs.declared.steps.Refusal.TheVariants.{FramesFull, NumberTaken, Wait}
use Rattle.tx_change.specs.States.{state_of}
use Rattle.tx_kernel.proofs.Delivered.{acting, delivers_is, catching}
use Rattle.tx_kernel.proofs.AnyCall.{own_lines}
use Rattle.tx_laws.specs.OwnCalls.{OwnCallsStayOwn}
use Rattle.tx_kernel.proofs.PageLines.{decides}
use Rattle.tx_kernel.specs.Actors.{CountsHeld, caller_of, effect_by, inside_of, me_of}
use Rattle.tx_kernel.specs.Refusals.{IsMade, TellsWait, lacks_frame}
use Rattle.tx_kernel.specs.declared.actor.Actor.{Actor}
use Rattle.tx_model.specs.BookLaws.{through_or, through_when, fork_lines, exit_lines, dup_lines, dup2_lines, close_lines, set_nonblock_lines, sigqueue_lines}
use Rattle.tx_model.specs.Answer.{is_choice_in_use}
use Rattle.tx_model.specs.Words.{chosen_in, call_effect}
use Rattle.tx_model.specs.Book.{page_of_call, waitpid}
use Rattle.tx_model.specs.Forms.{Caller, Outcome, answers, effect_of, refuses}
use Rattle.tx_model.specs.Deliveries.{action_at, delivered_value, is_deferred, delivery}
use Rattle.tx_model.specs.Descriptors.{is_pipe_in_use, lowest_free, with_descriptor}
use Rattle.tx_model.specs.Effects.{Effect, Inside, idle}
use Rattle.tx_model.specs.SignalSets.{child_signo}
use Rattle.tx_model.specs.Signals.{Caught, Disposition, Fatal, Ignored, disposition}
use Rattle.tx_model.specs.State.{Process, Sending, State}

-- a call that chooses a number in use is refused
pub taken_refuses : (inside : Option Inside) (p : ℕ) (c : Call) (me : Process) (S : State) → is_choice_in_use S (chosen_in c) ≡ true → call_effect inside p c me S ≡ idle NumberTaken
taken_refuses inside p (call.Fork child) me S taken = ap (effect_of p me) (decides (is_some (S.procs child.0)) _ _ taken)
taken_refuses inside p (call.Pipe q r w) me S taken = ap (effect_of p me) (decides (is_pipe_in_use q.0 r.0 w.0 S) _ _ taken)
taken_refuses inside p c me S taken = cc

-- the call never waits
pub record NeverWaits (c : Call) : Type 0 where
  pub waitpid : (x : ℤ) (y : Bool) → c ≡ call.Waitpid x y → ⊥
  pub read : (x y z : ℤ) → c ≡ call.Read x y z → ⊥
  pub write : (x y z : ℤ) → c ≡ call.Write x y z → ⊥

-- what comes to this is made
abbrev IsMadeBy : Caller → Outcome → Type 0
IsMadeBy c outcome = IsMade (effect_of c.number c.process outcome)

page_made : OwnCallsStayOwn → (d : Caller) (c : Call) → NeverWaits c → is_choice_in_use d.state (chosen_in c) ≡ false → IsMadeBy d ((page_of_call c).outcome d)
page_made law d (call.Waitpid x y) is free = absurd (is.waitpid x y refl)
page_made law d (call.Read x y z) is free = absurd (is.read x y z refl)
page_made law d (call.Write x y z) is free = absurd (is.write x y z refl)
page_made law d (call.Fork child) is free = fork_lines (IsMadeBy d) d (λ e rs. tt) child.0 (λ taken. let never : true ≡ false = sym taken ∙ free in cc) (λ z rs. tt)
page_made law d (call.Exit status) is free = exit_lines (IsMadeBy d) d (λ e rs. tt) status (λ z rs. tt)
page_made law d (call.Pipe q r w) is free =
    through_when (IsMadeBy d) (is_pipe_in_use q.0 r.0 w.0 d.state) _ _ (λ taken. let never : true ≡ false = sym taken ∙ free in cc)
    λ z. through_or (IsMadeBy d) (lowest_free d.process) _ _ (λ rs. tt)
    λ f one. through_or (IsMadeBy d) (lowest_free (with_descriptor f (Some r.0) d.process)) _ _ (λ rs. tt) λ g two rs. tt
page_made law d (call.Dup f) is free = dup_lines (IsMadeBy d) d (λ e rs. tt) f (λ x g e z rs. tt)
page_made law d (call.Dup2 f g) is free = dup2_lines (IsMadeBy d) d (λ e rs. tt) f g (λ k rs. tt) (λ k x l e h i z rs. tt)
page_made law d (call.Close f) is free = close_lines (IsMadeBy d) d (λ e rs. tt) f (λ k x e z rs. tt)
page_made law d (call.SetNonblock f on) is free = set_nonblock_lines (IsMadeBy d) d (λ e rs. tt) f on (λ k x e z rs. tt)
page_made law d (call.Kill t s) is free = sigqueue_lines (IsMadeBy d) d (λ e rs. tt) t s (pos 0) (λ rs. tt) (λ signo target e h z rs. tt) (λ signo target i e h j z k rs. tt)
page_made law d (call.Sigqueue t s value) is free = sigqueue_lines (IsMadeBy d) d (λ e rs. tt) t s value (λ rs. tt) (λ signo target e h z rs. tt) (λ signo target i e h j z k rs. tt)
page_made law d c is free = own_lines law (IsMadeBy d) d (λ e rs. tt) (λ r rs. tt) (λ r q rs. tt) (λ q reply accepted rs. accepted) c refl

pub call_made : OwnCallsStayOwn → (inside : Option Inside) (p : ℕ) (c : Call) (me : Process) (S : State) → NeverWaits c → is_choice_in_use S (chosen_in c) ≡ false → IsMade (call_effect inside p c me S)
call_made law inside p c me S is free = page_made law (record { number = p; process = me; inside = inside; state = S }) c is free

-- a step that waits, and one that is made

pub tells_wait : (actor : Actor) (rule : State → Effect) → ((held : ℕ → List Sending) → CountsHeld actor.inside held → rule (state_of held actor.parts.now) ≡ idle Wait) → TellsWait actor true rule
tells_wait actor rule waits = record { refused = λ e. waits; made = λ e held counted rs. cc }

pub tells_made : (actor : Actor) (rule : State → Effect) → ((held : ℕ → List Sending) → CountsHeld actor.inside held → IsMade (rule (state_of held actor.parts.now))) → TellsWait actor false rule
tells_made actor rule made = record { refused = λ e held counted. cc; made = λ e. made }

-- a page that comes to what is made, and one that comes to a wait
pub made_of : (actor : Actor) {page : Outcome} (outcome : Outcome) → page ≡ outcome → IsMade (effect_of actor.pid.0 (me_of actor) outcome) → IsMade (effect_of actor.pid.0 (me_of actor) page)
made_of actor outcome is made = subst (λ (o : Outcome). IsMade (effect_of actor.pid.0 (me_of actor) o)) (sym is) made

pub wait_of : (actor : Actor) {page : Outcome} → page ≡ refuses Wait → effect_of actor.pid.0 (me_of actor) page ≡ idle Wait
wait_of actor is = ap (effect_of actor.pid.0 (me_of actor)) is

pub running_told : (actor : Actor) (number : ℤ) (nohang : Bool) →
    ((held : ℕ → List Sending) → waitpid number nohang (caller_of actor (state_of held actor.parts.now)) ≡ (if nohang then answers (pos 0) else refuses Wait)) →
    TellsWait actor (not nohang) (effect_by actor (waitpid number nohang))
running_told actor number true is = tells_made actor (effect_by actor (waitpid number true)) (λ held counted. made_of actor (answers (pos 0)) (is held) (λ rs. tt))
running_told actor number false is = tells_wait actor (effect_by actor (waitpid number false)) (λ held counted. wait_of actor (is held))

-- a signal that is not caught needs no frame
pub usual_has_frame : (signo : ℕ) (me : Process) → false ≡ lacks_frame (disposition signo Usual) me
usual_has_frame signo me = by (signo == child_signo)
  where
    by : (b : Bool) → false ≡ lacks_frame (if b then Ignored else Fatal) me
    by true = refl
    by false = refl

-- a delivery that may be made, whose signal has a frame if it is caught

full_refuses : (actor : Actor) (signo : ℕ) (value : ℤ) (d : Disposition) (S : State) → lacks_frame d (me_of actor) ≡ true → acting actor signo value d S ≡ idle FramesFull
full_refuses actor signo value Ignored S full = cc
full_refuses actor signo value Fatal S full = cc
full_refuses actor signo value (Caught point mask) S full = ap (λ (b : Bool). effect_by actor (λ c. if b then refuses FramesFull else catching signo value point mask c) S) full

room_made : (actor : Actor) (signo : ℕ) (value : ℤ) (d : Disposition) (S : State) → lacks_frame d (me_of actor) ≡ false → IsMade (acting actor signo value d S)
room_made actor signo value Ignored S room = λ rs. tt
room_made actor signo value Fatal S room = λ rs. tt
room_made actor signo value (Caught point mask) S room =
    subst (λ (b : Bool). IsMade (effect_by actor (λ c. if b then refuses FramesFull else catching signo value point mask c) S)) (sym room) (λ rs. tt)

acting_is : (actor : Actor) (signo : ℕ) (value : ℤ) (S : State) → delivered_value signo (me_of actor) ≡ Some value → is_deferred (inside_of actor.inside) signo ≡ false →
    acting actor signo value (disposition signo (action_at signo (me_of actor))) S ≡ effect_by actor (delivery signo) S
acting_is actor signo value S here now = ap (λ (rule : State → Effect). rule S) (delivers_is actor signo value value here now refl)

pub frameless_refuses : (actor : Actor) (signo : ℕ) (value : ℤ) (S : State) → delivered_value signo (me_of actor) ≡ Some value → is_deferred (inside_of actor.inside) signo ≡ false →
    lacks_frame (disposition signo (action_at signo (me_of actor))) (me_of actor) ≡ true →
    effect_by actor (delivery signo) S ≡ idle FramesFull
frameless_refuses actor signo value S here now full =
    let me : Process = me_of actor in
    sym (acting_is actor signo value S here now) ∙ full_refuses actor signo value (disposition signo (action_at signo me)) S full

pub delivery_made : (actor : Actor) (signo : ℕ) (value : ℤ) (S : State) → delivered_value signo (me_of actor) ≡ Some value → is_deferred (inside_of actor.inside) signo ≡ false →
    lacks_frame (disposition signo (action_at signo (me_of actor))) (me_of actor) ≡ false →
    IsMade (effect_by actor (delivery signo) S)
delivery_made actor signo value S here now room =
    let me : Process = me_of actor in
    subst IsMade (acting_is actor signo value S here now) (room_made actor signo value (disposition signo (action_at signo me)) S room)
