-- Who makes a step, and what is held and posted with it, by its role.
use Rattle.std.specs.Prelude.{◌≡◌, ◌++◌, ℕ, List, [], Option, Some, None}
use Rattle.tx_base.specs.Slots.{slot_at}
use Rattle.tx_base.specs.declared.names.Pid.{Pid}
use Rattle.tx_base.specs.declared.names.Signo.{Signo}
use Rattle.tx_base.specs.declared.steps.Call.{Call}
use Rattle.tx_base.specs.declared.steps.Step.TheVariants.{Call as Calls, Deliver}
use Rattle.tx_step.specs.Faces.{sent_at_commit}
use Rattle.tx_step.specs.Roles.{role_as}
use Rattle.tx_step.specs.declared.roles.StepRole.{StepRole}
use Rattle.tx_step.specs.declared.roles.StepRole.TheVariants.{Outside, Begins, Inside, Commits, Aborts}
use Rattle.tx_kernel.specs.Actors.{CountsHeld, IsActor, inside_of, me_of}
use Rattle.tx_kernel.specs.Plans.{sent_at_once}
use Rattle.tx_kernel.specs.Sends.{IsSentBy}
use Rattle.tx_kernel.specs.declared.planned.Sends.{Sends}
use Rattle.tx_kernel.specs.declared.actor.Actor.{Actor}
use Rattle.tx_content.specs.Content.{held_of, now_of, view_of}
use Rattle.tx_content.specs.declared.content.Content.{Content}
use Rattle.tx_model.specs.Words.{call_effect, delivery_effect}
use Rattle.tx_model.specs.Effects.{Inside as TheInside}
use Rattle.tx_model.specs.Events.{effect}
use Rattle.tx_model.specs.Footprints.{call_row}
use Rattle.tx_model.specs.Membership.{Table, inside_by}
use Rattle.tx_model.specs.State.{Process, Sending, State}
use Rattle.tx_model.specs.View.{event_on, role_on}
use Rattle.tx_txn.specs.Marks.{table_at}

-- what the step sends at once, and if it commits, what is held then
abbrev pub posted_with : Content → StepRole → Sends → List Sending
posted_with k Outside first = sent_at_once first
posted_with k (Begins defers) first = sent_at_once first
posted_with k (Inside starter progress) first = sent_at_once first
posted_with k (Commits starter) first =
    sent_at_once first ++ (held_of k starter.0 ++ sent_at_commit first)
posted_with k (Aborts starter) first = sent_at_once first

-- what the transaction holds that the step commits, if it commits one
abbrev pub held_at_commit : Content → StepRole → Option (List Sending)
held_at_commit k (Commits starter) = Some (held_of k starter.0)
held_at_commit k other = None

-- the process of a number, with the transaction that it is a member of
pub record IsOwnActor (k : Content) (pid : Pid) (actor : Actor) : Type 0 where
  pub parts : actor.parts.now ≡ k.parts
  pub pid_is : actor.pid ≡ pid
  pub is : IsActor actor
  pub inside : inside_of actor.inside ≡ inside_by (table_at k.marks) (slot_at k.marks pid.0)
  pub counts : CountsHeld actor.inside (held_of k)

-- whoever makes the call, it sends nothing
abbrev pub SendsNothing : Call → Type 0
SendsNothing call =
    (inside : Option TheInside) (p : ℕ) (me : Process) (S : State)
    → (call_effect inside p call me S).sends ≡ []

-- whoever makes the call, it names only its process and sends nothing
pub record ConcernsItself (call : Call) : Type 0 where
  pub names : (t : Table) (p : ℕ) (me : Process) (S : State) → call_row t p call me S ≡ []
  pub sends : SendsNothing call

-- what is posted with a call, by its role and by what it sends first
abbrev pub CallIsPosted : Type 0
CallIsPosted =
    (k : Content) (pid : Pid) (actor : Actor) → IsOwnActor k pid actor
    → (called : Call) (role : StepRole) (first : Sends) →
    role_as pid.0 role ≡ role_on (view_of k) (Calls pid called) →
    IsSentBy actor first
    (λ S. call_effect (inside_of actor.inside) actor.pid.0 called (me_of actor) S) →
    (effect (event_on (view_of k) (Calls pid called)) (now_of k)).sends ≡ posted_with k role first

-- and with a delivery
abbrev pub DeliveryIsPosted : Type 0
DeliveryIsPosted =
    (k : Content) (pid : Pid) (actor : Actor) → IsOwnActor k pid actor
    → (signo : Signo) (role : StepRole) (first : Sends) →
    role_as pid.0 role ≡ role_on (view_of k) (Deliver pid signo) →
    IsSentBy actor first
    (λ S. delivery_effect (inside_of actor.inside) actor.pid.0 signo.0 (me_of actor) S) →
    (effect (event_on (view_of k) (Deliver pid signo)) (now_of k)).sends ≡ posted_with k role first
