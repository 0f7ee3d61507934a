-- The footprint of a step: the objects that the step of a member reserves until its transaction
-- ends, row by row. Own rules. What a transaction holds is nobody else's concern, and is no part of
-- it.
use Rattle.std.specs.Prelude.{ℕ, Bool, List, [], ◌∷◌, ◌++◌, Option, Some, None, is_some, if◌then◌else◌, ◌==◌}
use Rattle.tx_base.specs.declared.marks.Mark.{Mark}
use Rattle.tx_base.specs.declared.steps.Call.{Call}
use Rattle.tx_base.specs.declared.steps.Call.TheVariants as call
use Rattle.tx_base.specs.declared.steps.Step.{Step}
use Rattle.tx_base.specs.declared.steps.Step.TheVariants.{Call as Calls, Deliver, KernelAbort}
use Rattle.tx_model.specs.State.{Process, State, Sending, Object, Proc}
use Rattle.tx_model.specs.Effects.{Inside}
use Rattle.tx_model.specs.Descriptors.{open_in, desc_pipe_objects}
use Rattle.tx_model.specs.Processes.{children_of, child_notice, holder_of, pid_of, procs_of}
use Rattle.tx_model.specs.Book.{page_of_call, sendable}
use Rattle.tx_model.specs.Deliveries.{delivered_value, ends_by}
use Rattle.tx_model.specs.Membership.{Table, inside_by, others_open}
use Rattle.tx_model.specs.History.{is_other_starter, targets}

-- whether a send to the process is held until the commit
abbrev pub is_for_later : Option Inside → ℕ → Bool
is_for_later inside target = is_some (holder_of target inside)

-- what is posted at once: its target, unless that is the live starter of another transaction
abbrev pub target_row : Table → ℕ → ℕ → List Object
target_row t p target =
    if is_for_later (inside_by t (t.marks p)) target
    then []
    else (if is_other_starter t p target then [] else Proc target ∷ [])

-- kill and sigqueue, of a good process number and a signal that may be sent
abbrev pub send_row : Table → ℕ → Option ℕ → Option ℕ → List Object
send_row t p None signo = []
send_row t p (Some target) None = []
send_row t p (Some target) (Some signo) = target_row t p target

-- a step that commits: the targets of all that is held, in which what this step hands out is the
-- last
abbrev pub commit_row_of : Table → ℕ → Option Mark → List Sending → State → List Object
commit_row_of t p None more S = []
commit_row_of t p (Some m) more S =
    if others_open t m.starter.0 p t.width then [] else targets t p (S.held m.starter.0 ++ more)

abbrev pub commit_row : Table → ℕ → List Sending → State → List Object
commit_row t p more S = commit_row_of t p (t.marks p) more S

-- what the end of the process hands out for the commit
abbrev pub told_for_later : Table → ℕ → ℕ → List Sending
told_for_later t p parent =
    if parent == 1
    then []
    else (if is_for_later (inside_by t (t.marks p)) parent then child_notice parent ∷ [] else [])

-- an end of the process: what its descriptors name, its children, its parent, and what is posted
-- where it commits
abbrev pub ending_row : Table → ℕ → Process → State → List Object
ending_row t p me S =
    desc_pipe_objects (open_in me.descriptors) S
    ++ procs_of (children_of p S)
    ++ (if me.parent == 1 then [] else target_row t p me.parent)
    ++ commit_row t p (told_for_later t p me.parent) S

-- what a call names beside its process
abbrev pub call_row : Table → ℕ → Call → Process → State → List Object
call_row t p (call.Exit status) me S = if p == 1 then [] else ending_row t p me S
call_row t p (call.Kill n signo) me S = send_row t p (pid_of S.width n) (sendable signo)
call_row t p (call.Sigqueue n signo value) me S = send_row t p (pid_of S.width n) (sendable signo)
call_row t p call.SysXend me S = commit_row t p [] S
call_row t p c me S =
    (page_of_call c).names
    (record { number = p; process = me; inside = inside_by t (t.marks p); state = S })

-- what a delivery names beside its process: nothing, unless it ends the process
abbrev pub delivery_row : Table → ℕ → ℕ → Process → State → List Object
delivery_row t p signo me S =
    if ends_by (inside_by t (t.marks p)) signo me (delivered_value signo me)
    then ending_row t p me S
    else []

abbrev pub call_row_at : Table → ℕ → Call → Option Process → State → List Object
call_row_at t p c None S = []
call_row_at t p c (Some me) S = call_row t p c me S

abbrev pub delivery_row_at : Table → ℕ → ℕ → Option Process → State → List Object
delivery_row_at t p signo None S = []
delivery_row_at t p signo (Some me) S = delivery_row t p signo me S

-- the footprint of a step, in a state with a table. The kernel's abort names nothing
unfoldable pub footprint : Table → Step → State → List Object
footprint t (Calls p c) S = Proc p.0 ∷ call_row_at t p.0 c (S.procs p.0) S
footprint t (Deliver p signo) S = Proc p.0 ∷ delivery_row_at t p.0 signo.0 (S.procs p.0) S
footprint t (KernelAbort s) S = []
