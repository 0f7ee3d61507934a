-- What a step inside a transaction is made with, and what it makes of the transaction.
use Rattle.std.specs.Prelude.{◌≡◌, ◌++◌, ◌∷◌, [], ℕ, Bool, true, false, List, map, Option, Some, None, option_map}
use Rattle.tx_base.specs.Slots.{slot_at}
use Rattle.tx_base.specs.declared.marks.Mark.{Mark}
use Rattle.tx_base.specs.declared.names.Pid.{Pid}
use Rattle.tx_base.specs.declared.names.Sending.{Sending}
use Rattle.tx_base.specs.declared.steps.Refusal.{Refusal}
use Rattle.tx_change.specs.declared.parts.Parts.{Parts}
use Rattle.tx_kernel.specs.Actors.{transaction_of}
use Rattle.tx_kernel.specs.Acts.{RefusesEvent, event_of, Makes}
use Rattle.tx_kernel.specs.Plans.{sending_of}
use Rattle.tx_kernel.specs.declared.events.Act.{Act}
use Rattle.tx_kernel.specs.declared.inside.Inside.{Inside}
use Rattle.tx_kernel.specs.declared.planned.Planned.{Planned}
use Rattle.tx_kernel.specs.declared.planned.Sends.{Sends}
use Rattle.tx_kernel.specs.declared.planned.Sends.TheVariants.{Nothing, AtOnce, AtCommit}
use Rattle.tx_laws.specs.Footprints.{is_shared}
use Rattle.tx_content.specs.Content.{now_of}
use Rattle.tx_content.specs.declared.content.Content.{Content}
use Rattle.tx_content.specs.declared.marking.Member.{Member}
use Rattle.tx_model.specs.Effects.{Inside as TheInside}
use Rattle.tx_model.specs.Events.{Event}
use Rattle.tx_model.specs.History.{event_footprint}
use Rattle.tx_model.specs.Book.{member_sends}
use Rattle.tx_model.specs.State.{Object, has_object}
use Rattle.tx_reserve.specs.Objects.{is_in}
use Rattle.tx_reserve.specs.Reservations.{owner_of, unless}
use Rattle.tx_reserve.specs.declared.objects.Objects.{Objects}
use Rattle.tx_txn.specs.Marks.{table_at}
use Rattle.tx_txn.specs.Outboxes.{unmade}
use Rattle.tx_txn.specs.Txns.{inside_at}
use Rattle.tx_txn.specs.declared.outbox.HeldPost.{HeldPost}
use Rattle.tx_txn.specs.declared.txn.Txn.{Txn}

-- what a step of a member is made inside
abbrev pub inside_in : Content → Pid → Option TheInside
inside_in k starter =
    option_map (λ boxed. inside_at boxed.txn.value k.marks) (slot_at k.txns starter.0)

-- the event of a member that does this
abbrev pub event_inside : Content → Member → Act → Event
event_inside k member act = event_of (inside_in k member.starter) member.pid act

-- the set is the footprint of the event
abbrev pub IsFootprint : Content → Event → Objects → Type 0
IsFootprint k event footprint =
    (o : Object) → is_shared o ≡ true
    → is_in footprint o ≡ has_object o (event_footprint (table_at k.marks) event (now_of k))

-- no other transaction owns any of it
abbrev pub IsFree : Content → ℕ → Objects → Type 0
IsFree k starter footprint =
    (o : Object) → is_in footprint o ≡ true → unless (Some starter) (owner_of k.owners o) ≡ None

-- what a step hands out
abbrev pub handed_out : Sends → List Sending
handed_out Nothing = []
handed_out (AtOnce m) = []
handed_out (AtCommit m) = m ∷ []

-- the place for the post of that
abbrev pub unmade_of : Sends → List HeldPost
unmade_of Nothing = []
unmade_of (AtOnce m) = []
unmade_of (AtCommit m) = unmade ∷ []

abbrev pub is_handed_out : Sends → Bool
is_handed_out Nothing = false
is_handed_out (AtOnce m) = false
is_handed_out (AtCommit m) = true

-- the event was made on the parts by a member of the transaction, whose log has what leads back and
-- which holds what it handed out
pub record MakesIn (before after : Parts) (marks : List (Option Mark)) (pid : Pid) (act : Act)
    (old new : Txn) (planned : Planned) : Type 0 where
  pub inside : Inside
  pub is : transaction_of inside ≡ inside_at old marks
  pub held : inside.held ≡ member_sends (map sending_of old.outbox.sendings)
  pub makes :
      Makes before pid (Some inside) (event_of (Some (inside_at old marks)) pid act) old.log new.log
      after planned
  pub outbox :
      new.outbox
      ≡ record {
        sendings = old.outbox.sendings ++ handed_out planned.sends;
        posts = old.outbox.posts ++ unmade_of planned.sends;
      }
  pub rest : new ≡ record old { log = new.log; outbox = new.outbox }

-- why a member of the transaction is refused its act
pub record RefusesIn (before : Parts) (marks : List (Option Mark)) (pid : Pid) (act : Act)
    (txn : Txn) (why : Refusal) : Type 0 where
  pub inside : Inside
  pub is : transaction_of inside ≡ inside_at txn marks
  pub held : inside.held ≡ member_sends (map sending_of txn.outbox.sendings)
  pub refuses :
      RefusesEvent before (Some inside) (event_of (Some (inside_at txn marks)) pid act) why
