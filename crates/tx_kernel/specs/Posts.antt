-- What decides the answer of a post to a process, and what the post exchanges.
use Rattle.std.specs.Prelude.{◌≡◌, ℕ, List, [], ◌∷◌, ◌++◌, Option, Some, None, Result, Ok, Err, IfOk, IsSome, is_some, length, option_map}
use Rattle.tx_base.specs.Slots.{slot_at}
use Rattle.tx_base.specs.declared.errors.Errno.{Errno}
use Rattle.tx_change.specs.Counts.{AreNameless}
use Rattle.tx_change.specs.Exchange.{AreNamed, IsPid, sizes_of}
use Rattle.tx_change.specs.Laws.{revised_by}
use Rattle.tx_change.specs.Own.{AreOf}
use Rattle.tx_change.specs.declared.change.Change.{Change}
use Rattle.tx_change.specs.declared.parts.Parts.{Parts}
use Rattle.tx_cred.specs.Cred.{ids_of}
use Rattle.tx_kernel.specs.declared.posts.Face.{Face}
use Rattle.tx_model.specs.Posts.{post_answer, target_after}
use Rattle.tx_model.specs.State.{Process, Sending}
use Rattle.tx_proc.specs.Parts.{revised, with_pending}
use Rattle.tx_proc.specs.declared.proc.Part.{Part}
use Rattle.tx_proc.specs.declared.proc.Part.TheVariants.{Pending, Queued}
use Rattle.tx_proc.specs.declared.proc.Proc.{Proc}
use Rattle.tx_signal.specs.Parts.{answer_of, PendingView}

-- the process has these ids, has ended or not, and has this many entries in its queue
pub record HasFace (face : Face) (q : Process) : Type 0 where
  pub ids : ids_of face.ids ≡ q.ids
  pub ended : face.ended ≡ is_some q.status
  pub queued : face.queued ≡ length q.queued

-- a process with the part replaced, if there is one
abbrev pub revised_if : Option Part → Process → Process
revised_if None q = q
revised_if (Some part) q = revised part q

-- only the answer
abbrev pub without_part : {A : Type 0} → Result A Errno → Result (Unit {0}) Errno
without_part (Ok _) = Ok tt
without_part (Err errno) = Err errno

-- the process after the planned post
abbrev pub posted : Result (Option Part) Errno → Process → Process
posted (Ok part) q = revised_if part q
posted (Err errno) q = q

-- the part, if there is one, is of what is pending
abbrev pub IsOfPending : Option Part → Type 0
IsOfPending None = Unit {0}
IsOfPending (Some (Pending set)) = Unit {0}
IsOfPending (Some (Queued place entry)) = Unit {0}
IsOfPending (Some part) = ⊥

-- a process with the ids, the status and the pending signals of this one: what a post sees of it
abbrev pub seen_as : Proc → Process → Process
seen_as proc me =
    record me {
      ids = ids_of proc.cred;
      status = proc.status;
      pending = proc.pending.standard;
      queued = proc.pending.queued;
    }

-- a post sees the process that the slot has
abbrev pub IsSeen : Option Proc → Option Process → Type 0
IsSeen None None = Unit {0}
IsSeen None (Some q) = ⊥
IsSeen (Some proc) None = ⊥
IsSeen (Some proc) (Some q) = q ≡ seen_as proc q

-- a log that now ends in the exchanges of a post: of its target, if seen as this, they make what
-- the posting rule makes
pub record PlansPost (parts : Parts) (before now : List Change) (m : Sending)
    (answer : Result (Unit {0}) Errno) : Type 0 where
  pub plan : List Change
  pub added : now ≡ before ++ plan
  pub own : AreOf m.target plan
  pub nameless : AreNameless plan
  pub named : AreNamed parts plan
  pub answers : (q : Option Process) → IsSeen (slot_at parts.procs m.target) q
      → answer_of answer ≡ post_answer m q
  pub receives : (q : Option Process) → IsSeen (slot_at parts.procs m.target) q
      → option_map (revised_by plan) q ≡ target_after m q

-- what a post to the process of a number exchanges: the answer and the process after it are the
-- posting rule's, for each process that is seen as the one there
pub record PlansAt (parts : Parts) (m : Sending) (result : Result (Option Part) Errno)
    : Type 0 where
  pub pending : IfOk result IsOfPending
  pub there : IfOk result (λ part. IsSome part → IsPid (sizes_of parts) m.target)
  pub answers : (q : Option Process) → IsSeen (slot_at parts.procs m.target) q
      → answer_of (without_part result) ≡ post_answer m q
  pub receives : (q : Option Process) → IsSeen (slot_at parts.procs m.target) q
      → option_map (posted result) q ≡ target_after m q

-- a change, if there is one
abbrev pub listed_change : Option Change → List Change
listed_change None = []
listed_change (Some change) = change ∷ []

-- the parts are the same except what is pending at processes
pub record IsButPending (before after : Parts) : Type 0 where
  pub width : length after.procs ≡ length before.procs
  pub each : (n : ℕ)
      → (pending : PendingView)
      × (slot_at after.procs n ≡ option_map (with_pending pending) (slot_at before.procs n))
  pub descs : after.descs ≡ before.descs
  pub pipes : after.pipes ≡ before.pipes
