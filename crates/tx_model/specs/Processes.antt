-- Children, the end of a process, and the wait for it (POSIX.1-2017, XSH, fork(), _exit() and
-- waitpid()).
use Rattle.std.specs.Prelude.{ℕ, zero, suc, ◌+◌, ◌-◌, ◌%◌, List, [], ◌∷◌, ◌++◌, ℤ, pos, negsuc, Option, Some, None, map, if◌then◌else◌, ◌==◌}
use Rattle.tx_base.specs.declared.steps.Reply.TheVariants.{Ended}
use Rattle.tx_model.specs.SignalSets.{child_signo}
use Rattle.tx_model.specs.State.{Process, State, Sending, Object, Proc, Held, Write, SetProc, SetHeld, write_one, has_parent, bare_process, is_between}
use Rattle.tx_model.specs.Effects.{Inside, Effect, Replies, next_point}
use Rattle.tx_model.specs.Forms.{Caller, ◌or◌, ◌>>=◌, ◌when◌, ◌>>◌}
use Rattle.tx_model.specs.Descriptors.{open_in, removals, desc_pipe_objects}

-- a copy of its parent, pending signals apart, with the answer 0 at the point after the call
abbrev pub child_of : ℕ → Process → Process
child_of p me = record me {
  registers = record me.registers { point = next_point me.registers.point; ret = pos 0 };
  parent = p;
  pending = 0;
  queued = [];
}

abbrev pub ended_process : ℕ → Process → Process
ended_process status me = bare_process me.parent (Some status) me.ids

unfoldable pub children_below : ℕ → ℕ → State → List ℕ
children_below p zero S = []
children_below p (suc q) S =
    if has_parent p (S.procs q) then q ∷ children_below p q S else children_below p q S

-- those of process 1 are nobody's concern
abbrev pub children_of : ℕ → State → List ℕ
children_of p S = if p == 1 then [] else children_below p (S.width + 1) S

abbrev pub with_parent : ℕ → Option Process → Option Process
with_parent n None = None
with_parent n (Some q) = Some (record q { parent = n })

unfoldable pub orphan_writes : List ℕ → State → List Write
orphan_writes [] S = []
orphan_writes (q ∷ qs) S = SetProc q (with_parent 1 (S.procs q)) ∷ orphan_writes qs S

abbrev pub child_notice : ℕ → Sending
child_notice parent = record { target = parent; signo = child_signo; value = pos 0; from = None }

-- the transaction that holds a send until its commit: the sender's, unless the target is a member
abbrev pub holder_of : ℕ → Option Inside → Option Inside
holder_of target None = None
holder_of target (Some inside) = if inside.members target then None else Some inside

-- how the parent of a process that ends is notified
pub data Notice : Type 0 where
  NotTold : Notice
  AtOnce : Notice
  -- when the transaction of this starter commits
  AtCommit : ℕ → Notice

-- process 1 is not notified; a parent that is no member is notified at the commit
abbrev pub parent_notice : Option Inside → ℕ → Notice
parent_notice inside parent = do
  NotTold when parent == 1
  transaction ← holder_of parent inside or AtOnce
  AtCommit transaction.starter

abbrev pub notice_now : Notice → ℕ → List Sending
notice_now AtOnce parent = child_notice parent ∷ []
notice_now parent_notice parent = []

abbrev pub notice_held : Notice → ℕ → State → List Write
notice_held (AtCommit s) parent S = SetHeld s (S.held s ++ child_notice parent ∷ []) ∷ []
notice_held parent_notice parent S = []

-- the children get parent 1, the descriptors are closed, and the parent is notified
abbrev pub ending : ℕ → Caller → Effect
ending status c =
    let parent = c.process.parent in
    let gone = SetProc c.number (Some (ended_process status c.process)) in
    record {
      writes = gone
          ∷ orphan_writes (children_of c.number c.state) c.state
          ++ removals (open_in c.process.descriptors) (write_one gone c.state)
          ++ notice_held (parent_notice c.inside parent) parent c.state;
      sends = notice_now (parent_notice c.inside parent) parent;
      conclusion = Replies Ended;
    }

abbrev pub procs_of : List ℕ → List Object
procs_of = map Proc

abbrev pub held_objects : Option Inside → List Object
held_objects None = []
held_objects (Some inside) = Held inside.starter ∷ []

abbrev pub ending_objects : Caller → List Object
ending_objects c =
    desc_pipe_objects (open_in c.process.descriptors) c.state
    ++ procs_of (children_of c.number c.state)
    ++ held_objects c.inside

abbrev pub exit_status : ℤ → ℕ
exit_status (pos n) = n % 256
exit_status (negsuc n) = 255 - n % 256

abbrev pub pid_of : ℕ → ℤ → Option ℕ
pid_of width (pos n) = if is_between width n then Some n else None
pid_of width (negsuc n) = None
