-- The parts of a process, a table for each question about them: what an exchange of one leaves,
-- which are the same, and what the process is in the rules.
use Rattle.std.specs.Prelude.{ℕ, ◌<◌, ◌-◌, Bool, true, false, ◌==◌, List, [], ◌∷◌, ◌++◌, Option, Some, None, if◌then◌else◌, nat_lt, length, take, slice_index_or, slice_set}
use Rattle.tx_base.specs.Signals.{bits_of, set_of_bits}
use Rattle.tx_base.specs.declared.names.DescNo.{DescNo}
use Rattle.tx_base.specs.declared.limits.TheConstants.{QUEUED, FRAMES}
use Rattle.tx_cred.specs.Cred.{ids_of}
use Rattle.tx_desc.specs.Places.{number_in}
use Rattle.tx_model.specs.Memory.{page_at}
use Rattle.tx_model.specs.Signals.{newest_frame}
use Rattle.tx_model.specs.State.{Process, Queued as Entry, Frame as Saved}
use Rattle.tx_proc.specs.declared.proc.Part.{Part}
use Rattle.tx_proc.specs.declared.proc.Part.TheVariants.{Answer, Register, Parent, Status, Cred, Page, Descriptor, Mask, Action, Pending, Queued, Frame}
use Rattle.tx_proc.specs.declared.proc.Proc.{Proc}
use Rattle.tx_signal.specs.Entries.{entry_swapped, entry_given}
use Rattle.tx_signal.specs.Parts.{PendingView}

-- the queue after an exchange at a place, and the entry: with none, the entry there is taken out;
-- one is put in before it where there is room. A queue that is too long stays
abbrev pub queue_swapped : ℕ → Option Entry → List Entry → List Entry
queue_swapped place entry queue =
    if nat_lt QUEUED (length queue) then queue else entry_swapped place entry queue

abbrev pub queue_given : ℕ → Option Entry → List Entry → Option Entry
queue_given place entry queue =
    if nat_lt QUEUED (length queue) then entry else entry_given place entry queue

-- the frames after an exchange: with none, the newest is taken out; one is put in where there is
-- room. Too many frames stay
abbrev pub frames_swapped : Option Saved → List Saved → List Saved
frames_swapped None frames =
    if nat_lt FRAMES (length frames) then frames else take (length frames - 1) frames
frames_swapped (Some frame) frames =
    if nat_lt (length frames) FRAMES then frames ++ frame ∷ [] else frames

-- the frame that was taken out, or none where one was put in
abbrev pub frame_given : Option Saved → List Saved → Option Saved
frame_given None frames = if nat_lt FRAMES (length frames) then None else newest_frame frames
frame_given (Some frame) frames = if nat_lt (length frames) FRAMES then None else Some frame

-- the description of a number, as the code names it
abbrev pub desc_in : Option ℕ → Option DescNo
desc_in None = None
desc_in (Some d) = Some (record { 0 = d })

-- a process with one of its parts replaced
abbrev pub edited_once : Proc → Part → Proc
edited_once proc (Answer answer) =
    record proc { regs = record proc.regs { point = answer.point; ret = answer.ret } }
edited_once proc (Register slot) =
    record proc {
      regs = record proc.regs { slots = slice_set proc.regs.slots slot.number slot.value };
    }
edited_once proc (Parent parent) = record proc { parent = parent }
edited_once proc (Status status) = record proc { status = status }
edited_once proc (Cred cred) = record proc { cred = cred }
edited_once proc (Page number page) = record proc { space = slice_set proc.space number page }
edited_once proc (Descriptor number name) =
    record proc { descriptors = slice_set proc.descriptors number (number_in name) }
edited_once proc (Mask mask) = record proc { mask = mask }
edited_once proc (Action signo action) =
    record proc { actions = slice_set proc.actions signo.0 action }
edited_once proc (Pending set) =
    record proc { pending = record proc.pending { standard = bits_of set } }
edited_once proc (Queued place entry) =
    record proc {
      pending = record proc.pending { queued = queue_swapped place entry proc.pending.queued };
    }
edited_once proc (Frame frame) = record proc { frames = frames_swapped frame proc.frames }

-- the same part of a process
abbrev pub part_of : Proc → Part → Part
part_of proc (Answer answer) = Answer (record { point = proc.regs.point; ret = proc.regs.ret })
part_of proc (Register slot) =
    Register (record slot { value = slice_index_or proc.regs.slots slot.number slot.value })
part_of proc (Parent parent) = Parent proc.parent
part_of proc (Status status) = Status proc.status
part_of proc (Cred cred) = Cred proc.cred
part_of proc (Page number page) = Page number (page_at proc.space number)
part_of proc (Descriptor number name) =
    Descriptor number (desc_in (slice_index_or proc.descriptors number None))
part_of proc (Mask mask) = Mask proc.mask
part_of proc (Action signo action) = Action signo (slice_index_or proc.actions signo.0 action)
part_of proc (Pending set) = Pending (set_of_bits proc.pending.standard)
part_of proc (Queued place entry) = Queued place (queue_given place entry proc.pending.queued)
part_of proc (Frame frame) = Frame (frame_given frame proc.frames)

-- where there is no process, the part stays
abbrev pub part_in : Option Proc → Part → Part
part_in None part = part
part_in (Some proc) part = part_of proc part

-- a process with this pending at it
abbrev pub with_pending : PendingView → Proc → Proc
with_pending pending proc = record proc { pending = pending }

-- what is pending at the process of a slot, or else this
abbrev pub pending_in : Option Proc → PendingView → PendingView
pending_in None pending = pending
pending_in (Some proc) pending = proc.pending

-- a number in the part is valid
abbrev pub HasPlace : Part → Type 0
HasPlace (Register slot) = slot.number < 8
HasPlace (Page number page) = number < 16
HasPlace (Descriptor number name) = number < 16
HasPlace part = Unit {0}

-- whether the two name one part: of the queue, and of the frames, each entry is the same part
abbrev pub is_same_part : Part → Part → Bool
is_same_part (Answer answer) (Answer new) = true
is_same_part (Register slot) (Register new) = slot.number == new.number
is_same_part (Parent parent) (Parent new) = true
is_same_part (Status status) (Status new) = true
is_same_part (Cred cred) (Cred new) = true
is_same_part (Page number page) (Page other new) = number == other
is_same_part (Descriptor number name) (Descriptor other new) = number == other
is_same_part (Mask mask) (Mask new) = true
is_same_part (Action signo action) (Action other new) = signo.0 == other.0
is_same_part (Pending set) (Pending new) = true
is_same_part (Queued place entry) (Queued other new) = true
is_same_part (Frame frame) (Frame new) = true
is_same_part part other = false

-- a process, as the rules have it
abbrev pub process_of : Proc → Process
process_of proc = record {
  registers = proc.regs;
  parent = proc.parent.0;
  status = proc.status;
  ids = ids_of proc.cred;
  memory = proc.space;
  descriptors = proc.descriptors;
  mask = bits_of proc.mask;
  actions = proc.actions;
  pending = proc.pending.standard;
  queued = proc.pending.queued;
  frames = proc.frames;
}

abbrev pub process_in : Option Proc → Option Process
process_in None = None
process_in (Some proc) = Some (process_of proc)

-- a process with one of its parts replaced, as the rules have it
abbrev pub revised : Part → Process → Process
revised (Answer answer) me =
    record me { registers = record me.registers { point = answer.point; ret = answer.ret } }
revised (Register slot) me =
    record me {
      registers =
          record me.registers { slots = slice_set me.registers.slots slot.number slot.value };
    }
revised (Parent parent) me = record me { parent = parent.0 }
revised (Status status) me = record me { status = status }
revised (Cred cred) me = record me { ids = ids_of cred }
revised (Page number page) me = record me { memory = slice_set me.memory number page }
revised (Descriptor number name) me =
    record me { descriptors = slice_set me.descriptors number (number_in name) }
revised (Mask mask) me = record me { mask = bits_of mask }
revised (Action signo action) me = record me { actions = slice_set me.actions signo.0 action }
revised (Pending set) me = record me { pending = bits_of set }
revised (Queued place entry) me = record me { queued = queue_swapped place entry me.queued }
revised (Frame frame) me = record me { frames = frames_swapped frame me.frames }
