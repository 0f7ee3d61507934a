-- Where no other transaction is live a step is the same to its own, and names what its sends go to.
use Rattle.std.proofs.Common.{◌≡◌, ℕ, Bool, false, List, [], ◌∷◌, Option, Some, None, if◌then◌else◌, refl, ap, ap₂, eq-eqb, arith}
use Rattle.tx_base.specs.declared.marks.Mark.{Mark}
use Rattle.tx_base.specs.declared.names.Pid.{Pid}
use Rattle.tx_base.specs.declared.steps.Reply.{Reply}
use Rattle.tx_base.specs.declared.steps.Step.{Step}
use Rattle.tx_base.specs.declared.steps.Step.TheVariants.{Call as Calls, Deliver, KernelAbort}
use Rattle.tx_journal.specs.Lives.{starter_by, starter_of}
use Rattle.tx_journal.specs.Reach.{own_mark, own_table}
use Rattle.tx_model.specs.Events.{Event, reply_of}
use Rattle.tx_model.specs.History.{is_other_starter, targets}
use Rattle.tx_model.specs.Membership.{Kind, Ordinary, Role, Table, event_in, kind_event, others_open}
use Rattle.tx_model.specs.State.{Sending}
use Rattle.tx_model.specs.View.{View, event_on, present, role_on}
use Rattle.tx_model.specs.Words.{kind_of, kind_role, processes_of}

own_is : (m : Mark) → own_mark m.starter.0 (Some m) ≡ Some m
own_is m = ap (λ (b : Bool). if b then Some m else None) (eq-eqb m.starter.0 m.starter.0 refl)

module _ (t : Table) (p : ℕ) where
  abbrev s : ℕ
  s = starter_by p (t.marks p)

  abbrev own : Table
  own = own_table s t

  pub no_other : (n : ℕ) → is_other_starter own p n ≡ false
  no_other n = grind arith

  -- so every send is to one that is named
  pub all_targets : (ms : List Sending) → targets own p ms ≡ processes_of ms
  unfolding targets
  all_targets [] = refl
  all_targets (m ∷ ms) = grind (arith, no_other, all_targets ms)

-- the event and the role of the step of a member of the transaction of the mark
module _ (t : Table) (p : ℕ) (m : Mark) where
  abbrev its : Table
  its = own_table m.starter.0 t

  others_same : (n : ℕ) → others_open its m.starter.0 p n ≡ others_open t m.starter.0 p n
  unfolding others_open
  others_same n = grind arith

  member_role_same : (kind : Kind) (r : Reply) → kind_role its p kind r (Some m) ≡ kind_role t p kind r (Some m)
  member_role_same kind r = grind (arith, others_same)

pub event_same : (t : Table) (p : ℕ) (step : Step) (kind : Kind) (mark : Option Mark) → kind_event (own_table (starter_by p mark) t) p step kind (own_mark (starter_by p mark) mark) ≡ kind_event t p step kind mark
event_same t p step kind mark = grind arith

pub role_same : (t : Table) (p : ℕ) (kind : Kind) (r : Reply) (mark : Option Mark) → kind_role (own_table (starter_by p mark) t) p kind r (own_mark (starter_by p mark) mark) ≡ kind_role t p kind r mark
role_same t p kind r mark = grind (arith, member_role_same, own_is)

-- the view where no other transaction is live
abbrev pub alone : View → Step → View
alone V step = record V { table = own_table (starter_of V.table step) V.table }

-- a step is there what it is
pub record IsAlike (V : View) (step : Step) : Type 0 where
  pub role : role_on (alone V step) step ≡ role_on V step
  pub event : event_on (alone V step) step ≡ event_on V step

module _ (V : View) (p : Pid) (step : Step) (kind : Kind) where
  abbrev mark : Option Mark
  mark = V.table.marks p.0

  abbrev at : ℕ
  at = starter_by p.0 mark

  abbrev there : Event
  there = kind_event (own_table at V.table) p.0 step kind (own_mark at mark)

  abbrev here : Event
  here = kind_event V.table p.0 step kind mark

  same_there : there ≡ here
  same_there = event_same V.table p.0 step kind mark

  pub roles_alike : kind_role (own_table at V.table) p.0 kind (reply_of there (present V)) (own_mark at mark) ≡ kind_role V.table p.0 kind (reply_of here (present V)) mark
  roles_alike = grind (arith, role_same, same_there)

  pub events_alike :
      event_in (kind_role (own_table at V.table) p.0 kind (reply_of there (present V)) (own_mark at mark)) there
      ≡ event_in (kind_role V.table p.0 kind (reply_of here (present V)) mark) here
  events_alike = ap₂ (λ (r : Role) (ev : Event). event_in r ev) roles_alike same_there

pub is_alike : (V : View) (step : Step) → IsAlike V step
is_alike V (Calls p call) = record {
  role = roles_alike V p (Calls p call) (kind_of call);
  event = events_alike V p (Calls p call) (kind_of call);
}
is_alike V (Deliver p signo) = record {
  role = roles_alike V p (Deliver p signo) Ordinary;
  event = events_alike V p (Deliver p signo) Ordinary;
}
is_alike V (KernelAbort s) = record { role = refl; event = refl }
