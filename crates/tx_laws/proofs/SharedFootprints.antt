-- The footprint of a step has nothing that a transaction holds.
use Rattle.std.proofs.Common.{◌≡◌, ℕ, Bool, true, false, List, [], ◌∷◌, ◌++◌, Option, Some, None, if◌then◌else◌, ◌==◌, refl}
use Rattle.tx_base.specs.declared.marks.Mark.{Mark}
use Rattle.tx_base.specs.declared.steps.Call.{Call}
use Rattle.tx_base.specs.declared.steps.Call.TheVariants as call
use Rattle.tx_base.specs.declared.steps.Step.TheVariants.{Call as Calls, Deliver, KernelAbort}
use Rattle.tx_model.specs.ObjectFacts.{targets_lack}
use Rattle.tx_model.specs.State.{Process, State, Sending, Object, Proc, Held, same_object, has_object}
use Rattle.tx_model.specs.Descriptors.{descriptor, description_named, option_list, open_in, desc_pipe_objects, desc_objects, other_than}
use Rattle.tx_model.specs.Processes.{children_of, pid_of, procs_of}
use Rattle.tx_model.specs.Words.{numbered_objects}
use Rattle.tx_model.specs.Book.{sendable}
use Rattle.tx_model.specs.Deliveries.{delivered_value, ends_by}
use Rattle.tx_model.specs.Membership.{Table, inside_by, others_open}
use Rattle.tx_model.specs.History.{is_other_starter, targets}
use Rattle.tx_model.specs.Footprints.{is_for_later, target_row, send_row, commit_row_of, commit_row, told_for_later, ending_row, call_row, call_row_at, delivery_row_at, footprint}
use Rattle.tx_laws.specs.Footprints.{FootprintIsShared}
use Rattle.tx_laws.proofs.Released.{lacks_both, descs_held, ends_held}

-- an object that is no process is none of a list of processes
module _ (o : Object) (other : (n : ℕ) → same_object o (Proc n) ≡ false) where
  -- one more process makes no difference
  no_proc : (n : ℕ) (os : List Object) → has_object o os ≡ false → has_object o (Proc n ∷ os) ≡ false
  unfolding has_object
  no_proc n os h = rw (other n) h

  -- it is none of the processes of some numbers
  procs_lack : (qs : List ℕ) → has_object o (procs_of qs) ≡ false
  unfolding has_object
  procs_lack [] = refl
  procs_lack (q ∷ qs) = no_proc q (procs_of qs) (procs_lack qs)

-- what the transaction of u holds is in no row
module _ (t : Table) (u p : ℕ) (S : State) where
  -- that of a target that is posted to
  target_held : (n : ℕ) → has_object (Held u) (target_row t p n) ≡ false
  unfolding has_object
  target_held n = by (is_for_later (inside_by t (t.marks p)) n) (is_other_starter t p n)
    where
      by : (b c : Bool) → has_object (Held u) (if b then [] else (if c then [] else Proc n ∷ [])) ≡ false
      by true c = refl
      by false true = refl
      by false false = refl

  -- that of a send
  send_held : (target signo : Option ℕ) → has_object (Held u) (send_row t p target signo) ≡ false
  unfolding has_object
  send_held None signo = refl
  send_held (Some n) None = refl
  send_held (Some n) (Some signo) = target_held n

  -- that of what a commit posts
  commit_held : (mark : Option Mark) (more : List Sending) → has_object (Held u) (commit_row_of t p mark more S) ≡ false
  unfolding has_object
  commit_held None more = refl
  commit_held (Some m) more = by (others_open t m.starter.0 p t.width)
    where
      by : (b : Bool) → has_object (Held u) (if b then [] else targets t p (S.held m.starter.0 ++ more)) ≡ false
      by true = refl
      by false = targets_lack (Held u) (λ n. refl) t p (S.held m.starter.0 ++ more)

  -- that of the end of a process
  ending_held : (me : Process) → has_object (Held u) (ending_row t p me S) ≡ false
  unfolding has_object
  ending_held me =
      let ends : List Object = desc_pipe_objects (open_in me.descriptors) S in
      let children : List Object = procs_of (children_of p S) in
      let parent : List Object = if me.parent == 1 then [] else target_row t p me.parent in
      lacks_both (Held u) (ends ++ children ++ parent) (commit_row t p (told_for_later t p me.parent) S)
      (lacks_both (Held u) (ends ++ children) parent
      (lacks_both (Held u) ends children (ends_held u (open_in me.descriptors) S) (procs_lack (Held u) (λ n. refl) (children_of p S)))
      (by (me.parent == 1)))
      (commit_held (t.marks p) (told_for_later t p me.parent))
    where
      by : (b : Bool) → has_object (Held u) (if b then [] else target_row t p me.parent) ≡ false
      by true = refl
      by false = target_held me.parent

  -- that of a process that is waited for
  numbered_held : (x : Option ℕ) → has_object (Held u) (numbered_objects x) ≡ false
  unfolding has_object
  numbered_held None = refl
  numbered_held (Some n) = refl

  -- that of a call
  call_held : (c : Call) (me : Process) → has_object (Held u) (call_row t p c me S) ≡ false
  unfolding has_object
  call_held (call.Fork child) me = descs_held u (open_in me.descriptors)
  call_held (call.Exit status) me = by (p == 1)
    where
      by : (b : Bool) → has_object (Held u) (if b then [] else ending_row t p me S) ≡ false
      by true = refl
      by false = ending_held me
  call_held (call.Waitpid n nohang) me = numbered_held (pid_of S.width n)
  call_held (call.Dup f) me = descs_held u (option_list (description_named me (descriptor f)))
  call_held (call.Dup2 f g) me =
      lacks_both (Held u) (desc_objects (option_list (description_named me (descriptor f)))) (desc_pipe_objects (other_than (descriptor f) (descriptor g) me) S)
      (descs_held u (option_list (description_named me (descriptor f)))) (ends_held u (other_than (descriptor f) (descriptor g) me) S)
  call_held (call.Close f) me = ends_held u (option_list (description_named me (descriptor f))) S
  call_held (call.SetNonblock f on) me = descs_held u (option_list (description_named me (descriptor f)))
  call_held (call.Read f address n) me = ends_held u (option_list (description_named me (descriptor f))) S
  call_held (call.Write f address n) me = ends_held u (option_list (description_named me (descriptor f))) S
  call_held (call.Kill n signo) me = send_held (pid_of S.width n) (sendable signo)
  call_held (call.Sigqueue n signo value) me = send_held (pid_of S.width n) (sendable signo)
  call_held call.SysXend me = commit_held (t.marks p) []
  call_held c me = refl

  -- that of a call, if its process is there
  call_held_at : (c : Call) (x : Option Process) → has_object (Held u) (call_row_at t p c x S) ≡ false
  unfolding has_object
  call_held_at c None = refl
  call_held_at c (Some me) = call_held c me

  -- that of a delivery, if its process is there
  delivery_held_at : (signo : ℕ) (x : Option Process) → has_object (Held u) (delivery_row_at t p signo x S) ≡ false
  unfolding has_object
  delivery_held_at signo None = refl
  delivery_held_at signo (Some me) = by (ends_by (inside_by t (t.marks p)) signo me (delivered_value signo me))
    where
      by : (b : Bool) → has_object (Held u) (if b then ending_row t p me S else []) ≡ false
      by true = ending_held me
      by false = refl

-- what a transaction holds is in the footprint of no step
pub footprint_held : FootprintIsShared
unfolding footprint has_object
footprint_held t (Calls pid c) S u = call_held_at t u pid.0 S c (S.procs pid.0)
footprint_held t (Deliver pid signo) S u = delivery_held_at t u pid.0 S signo.0 (S.procs pid.0)
footprint_held t (KernelAbort s) S u = refl
