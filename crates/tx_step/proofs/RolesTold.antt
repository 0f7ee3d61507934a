-- What a step of a process that runs is to the transactions.
use Rattle.std.proofs.Common.{◌≡◌, ℕ, Bool, true, false, Option, Some, None, refl, sym, ap, ap₂, ◌∙◌}
use Rattle.tx_base.specs.Slots.{slot_at}
use Rattle.tx_base.specs.declared.marks.Mark.{Mark}
use Rattle.tx_base.specs.declared.names.Pid.{Pid}
use Rattle.tx_base.specs.declared.names.Signo.{Signo}
use Rattle.tx_base.specs.declared.steps.Call.{Call}
use Rattle.tx_base.specs.declared.steps.Call.TheVariants as call
use Rattle.tx_base.specs.declared.steps.Reply.{Reply}
use Rattle.tx_base.specs.declared.steps.Step.TheVariants.{Call as Calls, Deliver}
use Rattle.tx_step.proofs.WholeContents.{slot_seen}
use Rattle.tx_laws.specs.Endings.{end_reply, DeliveryIsTold, ExitIsTold, OtherCallIsTold}
use Rattle.tx_laws.specs.LawsOfTwoStates.{PresentIsNow}
use Rattle.tx_laws.specs.TwoStates.{states_view}
use Rattle.tx_content.specs.Content.{view_of, IsShaped, IsTxn}
use Rattle.tx_content.specs.Made.{IsRunning}
use Rattle.tx_content.specs.declared.content.BoxedTxn.{BoxedTxn}
use Rattle.tx_content.specs.declared.content.Content.{Content}
use Rattle.tx_model.specs.Deliveries.{delivered_value, ends_by}
use Rattle.tx_model.specs.Membership.{Leaving, Outside, Ordinary, Table, inside_by, is_of, role}
use Rattle.tx_model.specs.Words.{kind_of, kind_role}
use Rattle.tx_model.specs.View.{View, present, role_on}
use Rattle.tx_proc.specs.Parts.{process_in, process_of}
use Rattle.tx_proc.specs.declared.proc.Proc.{Proc}
use Rattle.tx_reserve.specs.Footprints.{ends_part}
use Rattle.tx_txn.specs.Marks.{table_at}
use Rattle.tx_txn.specs.Txns.{inside_at}

-- a member that leaves ends its part, whatever the reply
leaving : (t : Table) (p : ℕ) (mark : Option Mark) (r other : Reply) → kind_role t p Leaving r mark ≡ kind_role t p Leaving other mark
leaving t p None r other = refl
leaving t p (Some m) r other = refl

-- a call of a process that runs is told by whether it ends the part of that
call_told : OtherCallIsTold → ExitIsTold → (V : View) (pid : Pid) (slot : Option Proc) → (present V).procs pid.0 ≡ process_in slot → IsRunning slot → (called : Call) →
    role V.table (Calls pid called) (end_reply (ends_part pid.0 called)) ≡ role_on V (Calls pid called)
call_told other exit V pid None seen runs called = absurd runs
call_told other exit V pid (Some q) seen runs called = by called
  where
    by : (called : Call) → role V.table (Calls pid called) (end_reply (ends_part pid.0 called)) ≡ role_on V (Calls pid called)
    by (call.Exit status) = (exit V pid status (process_of q) seen runs).0
    by call.SysXend = leaving V.table pid.0 (V.table.marks pid.0) (end_reply true) (end_reply false) ∙ (other V pid call.SysXend refl).0
    by called = (other V pid called refl).0

-- the transaction that a member's mark names is the one that its steps are made inside of
pub inside_marked : (k : Content) (p : ℕ) (m : Mark) (boxed : BoxedTxn) → IsShaped k → slot_at k.marks p ≡ Some m → slot_at k.txns m.starter.0 ≡ Some boxed →
    Some (inside_at boxed.txn.value k.marks) ≡ inside_by (table_at k.marks) (Some m)
inside_marked k p m boxed shaped at there =
    let was : IsTxn k m.starter.0 boxed.txn.value = shaped.each m.starter.0 boxed there in
    ap₂ (λ (s : ℕ) (defers : Bool). Some (record { starter = s; members = λ n. is_of s (slot_at k.marks n); defers = defers })) was.starter (sym (was.defers p m at refl))

-- what a process of a content is to the transactions by its steps, where its mark is this
module _ (seen : PresentIsNow) (k : Content) (pid : Pid) (running : IsRunning (slot_at k.parts.procs pid.0)) (mark : Option Mark) (at : slot_at k.marks pid.0 ≡ mark) where
  pub call_role : OtherCallIsTold → ExitIsTold → (called : Call) →
      kind_role (table_at k.marks) pid.0 (kind_of called) (end_reply (ends_part pid.0 called)) mark ≡ role_on (view_of k) (Calls pid called)
  unfolding view_of states_view
  call_role other exit called =
      ap (kind_role (table_at k.marks) pid.0 (kind_of called) (end_reply (ends_part pid.0 called))) (sym at)
      ∙ call_told other exit (view_of k) pid (slot_at k.parts.procs pid.0) (slot_seen seen k pid) running called

  pub delivery_role : DeliveryIsTold → (signo : Signo) (q : Proc) → slot_at k.parts.procs pid.0 ≡ Some q → (ends : Bool) →
      ends ≡ ends_by (inside_by (table_at k.marks) mark) signo.0 (process_of q) (delivered_value signo.0 (process_of q)) →
      kind_role (table_at k.marks) pid.0 Ordinary (end_reply ends) mark ≡ role_on (view_of k) (Deliver pid signo)
  unfolding view_of states_view
  delivery_role told signo q there ends is =
      ap₂ (λ (b : Bool) (x : Option Mark). kind_role (table_at k.marks) pid.0 Ordinary (end_reply b) x)
      (is ∙ ap (λ (x : Option Mark). ends_by (inside_by (table_at k.marks) x) signo.0 (process_of q) (delivered_value signo.0 (process_of q))) (sym at)) (sym at)
      ∙ (told (view_of k) pid signo (process_of q) (slot_seen seen k pid ∙ ap process_in there) (runs_in (slot_at k.parts.procs pid.0) q running there)).0
    where
      runs_in : (slot : Option Proc) (q : Proc) → IsRunning slot → slot ≡ Some q → q.status ≡ None
      runs_in None q runs here = absurd runs
      runs_in (Some p) q runs here = let z : p ≡ q = cc in ap (λ (x : Proc). x.status) (sym z) ∙ runs

-- a delivery to a process that is in no transaction
pub outside_delivery : PresentIsNow → DeliveryIsTold → (k : Content) (pid : Pid) → IsRunning (slot_at k.parts.procs pid.0) → slot_at k.marks pid.0 ≡ None → (signo : Signo) →
    Outside ≡ role_on (view_of k) (Deliver pid signo)
outside_delivery seen told k pid running at signo = by (slot_at k.parts.procs pid.0) refl running
  where
    by : (slot : Option Proc) → slot_at k.parts.procs pid.0 ≡ slot → IsRunning slot → Outside ≡ role_on (view_of k) (Deliver pid signo)
    by None there runs = absurd runs
    by (Some q) there runs = delivery_role seen k pid running None at told signo q there _ refl
