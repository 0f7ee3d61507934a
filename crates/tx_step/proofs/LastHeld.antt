-- What is given of the sends that a transaction holds, told by what the step is to the transactions.
use Rattle.std.proofs.Common.{◌≡◌, ℕ, Bool, true, false, List, map, Option, Some, None, option_map, refl, sym, ap, subst, ◌∙◌}
use Rattle.tx_base.specs.Slots.{slot_at}
use Rattle.tx_base.specs.declared.marks.Mark.{Mark}
use Rattle.tx_base.specs.declared.names.Pid.{Pid}
use Rattle.tx_base.specs.declared.names.Sending.{Sending}
use Rattle.tx_base.specs.declared.names.Signo.{Signo}
use Rattle.tx_base.specs.declared.steps.Call.{Call}
use Rattle.tx_base.specs.declared.steps.Call.TheVariants as call
use Rattle.tx_base.specs.declared.steps.Step.TheVariants.{Call as Calls, Deliver}
use Rattle.tx_step.proofs.RolesTold.{call_role, delivery_role}
use Rattle.tx_step.proofs.StepFootprints.{same_tables}
use Rattle.tx_step.specs.Roles.{role_as}
use Rattle.tx_step.specs.Ways.{held_at_commit}
use Rattle.tx_step.specs.declared.roles.StepRole.{StepRole}
use Rattle.tx_step.specs.declared.roles.StepRole.TheVariants as step
use Rattle.tx_kernel.specs.Plans.{sending_of}
use Rattle.tx_laws.specs.Endings.{end_reply, DeliveryIsTold, ExitIsTold, OtherCallIsTold}
use Rattle.tx_laws.specs.LawsOfTwoStates.{PresentIsNow}
use Rattle.tx_content.specs.Content.{held_of, view_of, IsShaped}
use Rattle.tx_content.specs.Made.{IsRunning}
use Rattle.tx_content.specs.declared.content.Content.{Content}
use Rattle.tx_model.specs.Deliveries.{delivered_value, ends_by}
use Rattle.tx_model.specs.Membership.{Leaving, Ordinary, Outside, Role, Table, inside_by, member_end, others_open}
use Rattle.tx_model.specs.View.{role_on}
use Rattle.tx_model.specs.Words.{kind_of, kind_role, member_end_role}
use Rattle.tx_proc.specs.Parts.{process_of}
use Rattle.tx_proc.specs.declared.proc.Proc.{Proc}
use Rattle.tx_reserve.specs.Footprints.{ends_part, GoesBy, table_of}
use Rattle.tx_txn.specs.Marks.{table_at}

-- this goes with what process p of a content holds
abbrev pub GoesAt : Content → ℕ → Option (List Sending) → Type 0
GoesAt k p last = GoesBy (table_of k.parts k.marks) p (slot_at k.marks p) last (held_of k)

-- what the end of its part is, of a process of this mark
abbrev end_role : Table → ℕ → Option Mark → Role
end_role t p None = Outside
end_role t p (Some m) = member_end t m.starter.0 p

-- there, what is held is given where the step commits, and so where no other member's part is open
given_at_end : (k : Content) (t : Table) (p : ℕ) (mark : Option Mark) (role : StepRole) (last : Option (List Sending)) →
    role_as p role ≡ end_role t p mark → option_map (map sending_of) last ≡ held_at_commit k role → GoesBy t p mark last (held_of k)
given_at_end k t p None (step.Commits s) last is held = cc
given_at_end k t p None role None is held = tt
given_at_end k t p None role (Some sends) is held = cc
given_at_end k t p (Some m) role last is held = by (others_open t m.starter.0 p t.width) refl role last is held
  where
    by : (others : Bool) → others_open t m.starter.0 p t.width ≡ others → (role : StepRole) (last : Option (List Sending)) →
        role_as p role ≡ member_end_role others m.starter.0 → option_map (map sending_of) last ≡ held_at_commit k role → GoesBy t p (Some m) last (held_of k)
    by true same (step.Commits s) last is held = cc
    by true same role None is held = same
    by true same role (Some sends) is held = cc
    by false same (step.Commits s) None is held = cc
    by false same (step.Commits s) (Some sends) is held =
        let own : s.0 ≡ m.starter.0 = cc in
        let all : map sending_of sends ≡ held_of k s.0 = cc in
        (same, ap (held_of k) (sym own) ∙ sym all)
    by false same role last is held = cc

-- an ordinary step that ends its process is such an end, and so is a sys_xend
ordinary_end : (t : Table) (p : ℕ) (mark : Option Mark) → kind_role t p Ordinary (end_reply true) mark ≡ end_role t p mark
ordinary_end t p None = refl
ordinary_end t p (Some m) = refl

leaving_end : (t : Table) (p : ℕ) (mark : Option Mark) → kind_role t p Leaving (end_reply true) mark ≡ end_role t p mark
leaving_end t p None = refl
leaving_end t p (Some m) = refl

call_end : (t : Table) (p : ℕ) (called : Call) (mark : Option Mark) → ends_part p called ≡ true → kind_role t p (kind_of called) (end_reply (ends_part p called)) mark ≡ end_role t p mark
call_end t p (call.Exit status) mark ends = ap (λ (b : Bool). kind_role t p Ordinary (end_reply b) mark) ends ∙ ordinary_end t p mark
call_end t p call.SysXend mark ends = leaving_end t p mark
call_end t p called mark ends = cc

-- what is given by the role of a step goes with the step, where that ends the part of its process
module _ (seen : PresentIsNow) (k : Content) (pid : Pid) (shaped : IsShaped k) (running : IsRunning (slot_at k.parts.procs pid.0))
    (role : StepRole) (last : Option (List Sending)) (held : option_map (map sending_of) last ≡ held_at_commit k role) where
  at_end : role_as pid.0 role ≡ end_role (table_at k.marks) pid.0 (slot_at k.marks pid.0) → GoesAt k pid.0 last
  at_end is =
      subst (λ (t : Table). GoesBy t pid.0 (slot_at k.marks pid.0) last (held_of k)) (sym (same_tables k shaped))
      (given_at_end k (table_at k.marks) pid.0 (slot_at k.marks pid.0) role last is held)

  pub call_goes : OtherCallIsTold → ExitIsTold → (called : Call) → role_as pid.0 role ≡ role_on (view_of k) (Calls pid called) → ends_part pid.0 called ≡ true → GoesAt k pid.0 last
  call_goes other exit called is ends =
      at_end (is ∙ sym (call_role seen k pid running (slot_at k.marks pid.0) refl other exit called) ∙ call_end (table_at k.marks) pid.0 called (slot_at k.marks pid.0) ends)

  pub delivery_goes : DeliveryIsTold → (signo : Signo) (q : Proc) → slot_at k.parts.procs pid.0 ≡ Some q → role_as pid.0 role ≡ role_on (view_of k) (Deliver pid signo) →
      ends_by (inside_by (table_at k.marks) (slot_at k.marks pid.0)) signo.0 (process_of q) (delivered_value signo.0 (process_of q)) ≡ true → GoesAt k pid.0 last
  delivery_goes told signo q there is ends =
      at_end (is ∙ sym (delivery_role seen k pid running (slot_at k.marks pid.0) refl told signo q there true (sym ends)) ∙ ordinary_end (table_at k.marks) pid.0 (slot_at k.marks pid.0))
