-- What is posted with the event of a step, by what the step sends.
use Rattle.std.proofs.Common.{◌≡◌, ℕ, List, ◌++◌, Option, Some, None, refl, sym, ap, ap₂, subst, ◌∙◌, eq-eqb, append-nil}
use Rattle.tx_base.specs.declared.marks.Mark.{Mark}
use Rattle.tx_base.specs.declared.names.Pid.{Pid}
use Rattle.tx_base.specs.declared.names.Signo.{Signo}
use Rattle.tx_base.specs.declared.steps.Call.{Call}
use Rattle.tx_base.specs.declared.steps.Call.TheVariants as call
use Rattle.tx_base.specs.declared.steps.Reply.{Reply}
use Rattle.tx_base.specs.declared.steps.Step.{Step}
use Rattle.tx_base.specs.declared.steps.Step.TheVariants.{Call as Calls, Deliver}
use Rattle.tx_change.specs.States.{state_of}
use Rattle.tx_step.proofs.StepEvents.{commits_own}
use Rattle.tx_step.specs.Faces.{sent_at_commit}
use Rattle.tx_step.specs.InWay.{starter_in}
use Rattle.tx_step.specs.Roles.{role_as}
use Rattle.tx_step.specs.Ways.{posted_with}
use Rattle.tx_step.specs.declared.roles.StepRole.{StepRole}
use Rattle.tx_step.specs.declared.roles.StepRole.TheVariants as step
use Rattle.tx_kernel.specs.Actors.{CountsHeld, inside_of, me_of}
use Rattle.tx_kernel.specs.Plans.{held_after, sent_at_once}
use Rattle.tx_kernel.specs.Sends.{IsSentBy}
use Rattle.tx_kernel.specs.declared.actor.Actor.{Actor}
use Rattle.tx_kernel.specs.declared.planned.Sends.{Sends}
use Rattle.tx_kernel.specs.declared.planned.Sends.TheVariants.{Nothing, AtOnce, AtCommit}
use Rattle.tx_content.specs.Content.{held_of, now_of}
use Rattle.tx_content.specs.declared.content.Content.{Content}
use Rattle.tx_model.specs.Words.{call_effect, delivery_effect, before_sends, kind_of, kind_role}
use Rattle.tx_model.specs.Effects.{Effect, Inside}
use Rattle.tx_model.specs.Events.{Event, Do, effect}
use Rattle.tx_model.specs.Membership.{Table, Kind, Ordinary, event_in, inside_by, is_member_of, kind_event}
use Rattle.tx_model.specs.State.{Process, Sending, State, with_writes}
use Rattle.tx_model.specs.Book.{page_of_call}
use Rattle.tx_model.specs.Deliveries.{delivery_page}
use Rattle.tx_model.specs.BookLaws.{runs_as}

-- the event posts what the effect posts, and transactions hold the same then
pub record PostsAs (ev : Event) (f : Effect) (S : State) : Type 0 where
  pub sends : (effect ev S).sends ≡ f.sends
  pub held : (before_sends (effect ev S) S).held ≡ (before_sends f S).held

same_posts : (ev : Event) (f : Effect) (S : State) → effect ev S ≡ f → PostsAs ev f S
same_posts ev f S e = record { sends = ap (λ (g : Effect). g.sends) e; held = ap (λ (g : Effect). (before_sends g S).held) e }

-- a call's event posts what the call posts
pub call_posts : (t : Table) (pid : Pid) (called : Call) (mark : Option Mark) (S : State) (me : Process) → S.procs pid.0 ≡ Some me → me.status ≡ None →
    PostsAs (kind_event t pid.0 (Calls pid called) (kind_of called) mark) (call_effect (inside_by t mark) pid.0 called me S) S
unfolding effect with_writes
call_posts t pid call.SysXbegin None S me there runs = record { sends = refl; held = refl }
call_posts t pid call.SysXbegin (Some m) S me there runs = record { sends = refl; held = refl }
call_posts t pid call.SysXbeginDefer None S me there runs = record { sends = refl; held = refl }
call_posts t pid call.SysXbeginDefer (Some m) S me there runs = record { sends = refl; held = refl }
call_posts t pid call.SysXend None S me there runs = record { sends = refl; held = refl }
call_posts t pid call.SysXend (Some m) S me there runs = record { sends = refl; held = refl }
call_posts t pid call.SysXabort None S me there runs = record { sends = refl; held = refl }
call_posts t pid call.SysXabort (Some m) S me there runs = record { sends = refl; held = refl }
call_posts t pid called mark S me there runs =
    same_posts (Do (Calls pid called) (inside_by t mark)) (call_effect (inside_by t mark) pid.0 called me S) S (runs_as (inside_by t mark) pid.0 (page_of_call called) S me there runs)

-- and a delivery's event what the delivery posts
pub delivery_posts : (t : Table) (pid : Pid) (signo : Signo) (mark : Option Mark) (S : State) (me : Process) → S.procs pid.0 ≡ Some me → me.status ≡ None →
    PostsAs (kind_event t pid.0 (Deliver pid signo) Ordinary mark) (delivery_effect (inside_by t mark) pid.0 signo.0 me S) S
unfolding effect
delivery_posts t pid signo mark S me there runs =
    same_posts (Do (Deliver pid signo) (inside_by t mark)) (delivery_effect (inside_by t mark) pid.0 signo.0 me S) S (runs_as (inside_by t mark) pid.0 (delivery_page signo.0) S me there runs)

-- what the transaction holds after its own step has last what that handed out
own_after : (inside : Inside) (first : Sends) (held : ℕ → List Sending) → held_after (Some inside) first held inside.starter ≡ held inside.starter ++ sent_at_commit first
own_after inside Nothing held = sym (append-nil (held inside.starter))
own_after inside (AtOnce m) held = sym (append-nil (held inside.starter))
own_after inside (AtCommit m) held = rw (eq-eqb inside.starter inside.starter refl) refl

held_own : (t : Table) (mark : Option Mark) (s : ℕ) (first : Sends) (held : ℕ → List Sending) → starter_in mark ≡ Some s → held_after (inside_by t mark) first held s ≡ held s ++ sent_at_commit first
held_own t None s first held h = cc
held_own t (Some m) s first held h =
    let same : m.starter.0 ≡ s = cc in
    subst (λ (u : ℕ). held_after (inside_by t (Some m)) first held u ≡ held u ++ sent_at_commit first) same
    (own_after (record { starter = m.starter.0; members = is_member_of t m.starter.0; defers = m.defers }) first held)

-- what a step sends, told by the content
pub record SendsSo (k : Content) (inside : Option Inside) (first : Sends) (f : Effect) : Type 0 where
  pub sends : f.sends ≡ sent_at_once first
  pub held : (before_sends f (now_of k)).held ≡ held_after inside first (held_of k)

pub sends_so : (k : Content) (pid : Pid) (inside : Option Inside) (actor : Actor) (first : Sends) (rule : Option Inside → ℕ → Process → State → Effect) →
    actor.parts.now ≡ k.parts → actor.pid ≡ pid → inside_of actor.inside ≡ inside → CountsHeld actor.inside (held_of k) →
    IsSentBy actor first (λ S. rule (inside_of actor.inside) actor.pid.0 (me_of actor) S) →
    SendsSo k inside first (rule inside pid.0 (me_of actor) (now_of k))
sends_so k pid inside actor first rule parts at in_it counts sent = record {
  sends = sym (λ j. (rule (in_it j) (at j).0 (me_of actor) (state_of (held_of k) (parts j))).sends) ∙ sent.at_once (held_of k) counts;
  held =
      sym (λ j. (before_sends (rule (in_it j) (at j).0 (me_of actor) (state_of (held_of k) (parts j))) (state_of (held_of k) (parts j))).held)
      ∙ sent.handed_out (held_of k) counts ∙ ap (λ (x : Option Inside). held_after x first (held_of k)) in_it;
}

-- what is posted with a step's event, by what the step is to the transactions
pub posted_in : (k : Content) (t : Table) (p : ℕ) (made : Step) (kind : Kind) (r : Reply) (mark : Option Mark) (first : Sends) (role : StepRole) (f : Effect) →
    role_as p role ≡ kind_role t p kind r mark → PostsAs (kind_event t p made kind mark) f (now_of k) → SendsSo k (inside_by t mark) first f →
    (effect (event_in (kind_role t p kind r mark) (kind_event t p made kind mark)) (now_of k)).sends ≡ posted_with k role first
unfolding effect
posted_in k t p made kind r mark first role f is posts so =
    ap (λ role. (effect (event_in role (kind_event t p made kind mark)) (now_of k)).sends) (sym is) ∙ by role is
  where
    by : (role : StepRole) → role_as p role ≡ kind_role t p kind r mark → (effect (event_in (role_as p role) (kind_event t p made kind mark)) (now_of k)).sends ≡ posted_with k role first
    by step.Outside e = posts.sends ∙ so.sends
    by (step.Begins defers) e = posts.sends ∙ so.sends
    by (step.Inside starter progress) e = posts.sends ∙ so.sends
    by (step.Commits starter) e =
        ap₂ (λ (xs ys : List Sending). xs ++ ys) (posts.sends ∙ so.sends)
        (ap (λ (held : ℕ → List Sending). held starter.0) (posts.held ∙ so.held) ∙ held_own t mark starter.0 first (held_of k) (commits_own t p kind r mark starter.0 e))
    by (step.Aborts starter) e = posts.sends ∙ so.sends
