-- The kernel's state, and what is written into it.
use Rattle.std.specs.Prelude.{ℕ, zero, suc, Bool, true, false, List, [], ◌∷◌, Option, Some, None, ℤ, pos, if◌then◌else◌, nat_lt, ◌==◌, is_some, replicate, slice_index_or}
use Rattle.tx_base.specs.declared.limits.TheConstants.{DESCRIPTORS, SIGNALS, SLOTS}
use Rattle.tx_base.specs.declared.names.Regs.{Regs}
use Rattle.tx_base.specs.declared.signals.Action.{Action}
use Rattle.tx_base.specs.declared.signals.Action.TheVariants.{Usual}
use Rattle.tx_model.specs.Memory.{Memory, no_memory}

-- POSIX.1-2017, XBD, Real User ID, Effective User ID and Saved Set-User-ID, and the same of the
-- group
pub record Ids : Type 0 where
  pub real_user : ℕ
  pub effective_user : ℕ
  pub saved_user : ℕ
  pub real_group : ℕ
  pub effective_group : ℕ
  pub saved_group : ℕ

-- a realtime signal in the queue
pub record Queued : Type 0 where
  pub signo : ℕ
  pub value : ℤ

-- what a caught signal saved
pub record Frame : Type 0 where
  pub registers : Regs
  pub mask : ℕ

-- a set of signals is a number: the bit of signal n is 2 ^ n
pub record Process : Type 0 where
  pub registers : Regs
  pub parent : ℕ
  -- nothing while it runs
  pub status : Option ℕ
  pub ids : Ids
  pub memory : Memory
  -- the description that each of 0 to 15 names
  pub descriptors : List (Option ℕ)
  pub mask : ℕ
  -- for signals 0 to 39
  pub actions : List Action
  pub pending : ℕ
  pub queued : List Queued
  -- the oldest first
  pub frames : List Frame

pub data Side : Type 0 where
  ReadSide : Side
  WriteSide : Side

-- an open description of a pipe (POSIX.1-2017, XBD, Open File Description)
pub record Description : Type 0 where
  pub pipe : ℕ
  pub side : Side
  pub nonblock : Bool

-- the user ids of a sender, at the call
pub record Sender : Type 0 where
  pub real : ℕ
  pub effective : ℕ

-- a signal on its way; the kernel's own is from nobody
pub record Sending : Type 0 where
  pub target : ℕ
  pub signo : ℕ
  pub value : ℤ
  pub from : Option Sender

-- a description is there while a descriptor names it, a pipe while a description does; nothing is
-- counted
pub record State : Type 0 where
  -- the greatest process number: 64, or 256 on a wide machine
  pub width : ℕ
  pub procs : ℕ → Option Process
  pub descs : ℕ → Option Description
  pub pipes : ℕ → Option (List ℕ)
  -- what the members of a live transaction have handed out so far, by its starter
  pub held : ℕ → List Sending

-- what steps name and transactions reserve
pub data Object : Type 0 where
  Proc : ℕ → Object
  Desc : ℕ → Object
  Pipe : ℕ → Object
  -- what the transaction of this starter holds
  Held : ℕ → Object

pub data Write : Type 0 where
  SetProc : ℕ → Option Process → Write
  SetDesc : ℕ → Option Description → Write
  SetPipe : ℕ → Option (List ℕ) → Write
  SetHeld : ℕ → List Sending → Write

abbrev pub put_at : {A : Type 0} → (ℕ → A) → ℕ → A → ℕ → A
put_at f k v n = if n == k then v else f n

abbrev pub write_one : Write → State → State
write_one (SetProc n x) S = record S { procs = put_at S.procs n x }
write_one (SetDesc n x) S = record S { descs = put_at S.descs n x }
write_one (SetPipe n x) S = record S { pipes = put_at S.pipes n x }
write_one (SetHeld n x) S = record S { held = put_at S.held n x }

unfoldable pub with_writes : List Write → State → State
with_writes [] S = S
with_writes (w ∷ ws) S = with_writes ws (write_one w S)

abbrev pub has_parent : ℕ → Option Process → Bool
has_parent p None = false
has_parent p (Some q) = q.parent == p

abbrev pub is_number : ℕ → Option ℕ → Bool
is_number n None = false
is_number n (Some m) = m == n

-- whether its descriptor f names description d; a process that has ended names nothing
abbrev pub names_at : ℕ → ℕ → Option Process → Bool
names_at d f None = false
names_at d f (Some q) =
    if is_some q.status then false else is_number d (slice_index_or q.descriptors f None)

-- the side of pipe k that the description is
abbrev pub side_in : ℕ → Option Description → Option Side
side_in k None = None
side_in k (Some d) = if d.pipe == k then Some d.side else None

abbrev pub same_object : Object → Object → Bool
same_object (Proc n) (Proc m) = n == m
same_object (Desc n) (Desc m) = n == m
same_object (Pipe n) (Pipe m) = n == m
same_object (Held n) (Held m) = n == m
same_object one other = false

unfoldable pub has_object : Object → List Object → Bool
has_object o [] = false
has_object o (x ∷ xs) = if same_object o x then true else has_object o xs

abbrev pub root_ids : Ids
root_ids =
    record {
      real_user = 0;
      effective_user = 0;
      saved_user = 0;
      real_group = 0;
      effective_group = 0;
      saved_group = 0;
    }

abbrev pub first_registers : Regs
first_registers = record { point = 0; ret = pos 0; slots = replicate SLOTS (pos 0) }

-- a process with nothing else
abbrev pub bare_process : ℕ → Option ℕ → Ids → Process
bare_process parent status ids = record {
  registers = first_registers;
  parent = parent;
  status = status;
  ids = ids;
  memory = no_memory;
  descriptors = replicate DESCRIPTORS None;
  mask = 0;
  actions = replicate SIGNALS Usual;
  pending = 0;
  queued = [];
  frames = [];
}

-- process 1 is the parent of the others, and has none itself
abbrev pub booted_process : ℕ → Process
booted_process n = bare_process (if n == 1 then 0 else 1) None root_ids

abbrev pub with_slots : List ℤ → Process → Process
with_slots slots me = record me { registers = record me.registers { slots = slots } }

-- in 1 to the limit
abbrev pub is_between : ℕ → ℕ → Bool
is_between limit zero = false
is_between limit (suc n) = nat_lt n limit

abbrev pub boot_state : ℕ → ℕ → State
boot_state width count = record {
  width = width;
  procs = λ n. if is_between count n then Some (booted_process n) else None;
  descs = λ n. None;
  pipes = λ n. None;
  held = λ n. [];
}
