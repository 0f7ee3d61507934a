-- The rule book: for each call one page, which is read from the top. XSH is POSIX.1-2017's volume
-- of system interfaces; a page that names no source is an own rule.
use Rattle.std.specs.Prelude.{ℕ, ◌+◌, Bool, true, false, not, ◌&&◌, ◌||◌, List, [], ◌∷◌, ◌++◌, length, ℤ, pos, Option, Some, None, if◌then◌else◌, nat_lt, ◌==◌, min, take, drop, is_some, bit_and, slice_set, zero, suc, negsuc}
use Rattle.std.specs.Ordering.{int_eq}
use Rattle.tx_base.specs.Signals.{bits_of}
use Rattle.tx_base.specs.declared.limits.TheConstants.{PIPE_BYTES, SLOTS, CONSOLE_BYTES, LAST_POINT, HELD_SENDS, PAGES, LAST_ID, CLOSED_INSIDE}
use Rattle.tx_base.specs.declared.errors.Errno.TheVariants.{NotPermitted, NoSuchProcess, BadDescriptor, NoChild, TryAgain, BadAddress, InvalidArgument, TooManyDescriptors, BrokenPipe}
use Rattle.tx_base.specs.declared.signals.Action.{Action}
use Rattle.tx_base.specs.declared.signals.How.{How}
use Rattle.tx_base.specs.declared.signals.SigSet.{SigSet}
use Rattle.tx_base.specs.declared.steps.Call.{Call}
use Rattle.tx_base.specs.declared.steps.Call.TheVariants as call
use Rattle.tx_base.specs.declared.steps.Refusal.TheVariants.{NumberTaken, Wait}
use Rattle.tx_base.specs.declared.steps.Reply.TheVariants.{Done, Out}
use Rattle.tx_base.specs.declared.steps.When.{When}
use Rattle.tx_base.specs.declared.steps.When.TheVariants.{Always, IfRet}
use Rattle.tx_model.specs.Numbers.{below, error_answer, negative}
use Rattle.tx_model.specs.SignalSets.{kill_signo, maskable, broken_pipe_signo}
use Rattle.tx_model.specs.Memory.{Memory, page_at, zero_page, is_good, is_mapped, is_writable, stored_memory, loaded_byte, bytes_at, address_of}
use Rattle.tx_model.specs.State.{with_slots, Ids, Process, Side, ReadSide, WriteSide, Description, State, Object, SetProc, SetDesc, SetPipe, SetHeld, write_one, Sender, Sending, Proc, Desc, Pipe}
use Rattle.tx_model.specs.Effects.{with_answer, Effect, Replies}
use Rattle.tx_model.specs.Signals.{known_signal, changed_mask, pending_signals, newest_frame, with_frame, is_bad_action, disposition, is_ignoring, with_action, without_signal}
use Rattle.tx_model.specs.Descriptors.{description_named, descriptor, lowest_free, with_descriptor, removals, is_pipe_in_use, option_list, desc_objects, desc_pipe_objects, open_in, other_than, has_side}
use Rattle.tx_model.specs.Processes.{child_of, ending, exit_status, holder_of, pid_of, ending_objects, held_objects, procs_of}
use Rattle.tx_model.specs.Forms.{Caller, Rule, fails, answers, changes, stands, posts, refuses, does, ◌or◌, ◌>>=◌, ◌when◌, ◌>>◌, Page, page, page_naming, ChoosesProcess, ChoosesPipe, Forking, Beginning, Leaving, Aborting}

-- the answer of a call that is not open inside a transaction (own number)
abbrev pub closed_inside : ℤ
closed_inside = negative CLOSED_INSIDE

-- A. Memory

abbrev pub with_memory : Memory → Rule
with_memory memory c = changes (pos 0) (record c.process { memory = memory }) []

abbrev pub map : ℤ → Rule
map n c = do
  p ← below PAGES n or fails InvalidArgument
  let memory = c.process.memory
  fails InvalidArgument when is_mapped (page_at memory p)
  with_memory (slice_set memory p (Some zero_page)) c

abbrev pub unmap : ℤ → Rule
unmap n c = do
  p ← below PAGES n or fails InvalidArgument
  let memory = c.process.memory
  fails InvalidArgument when not (is_mapped (page_at memory p))
  with_memory (slice_set memory p None) c

abbrev pub protect : ℤ → Bool → Rule
protect n writable c = do
  p ← below PAGES n or fails InvalidArgument
  let memory = c.process.memory
  page ← page_at memory p or fails InvalidArgument
  with_memory (slice_set memory p (Some (record page { writable = writable }))) c

-- all the bytes, or none
abbrev pub store : ℤ → List ℕ → Rule
store address bytes c = do
  fails BadAddress when not (is_good is_writable c.process.memory address (length bytes))
  with_memory (stored_memory c.process.memory (address_of address) bytes) c

abbrev pub load : ℤ → Rule
load address c = do
  byte ← loaded_byte c.process.memory (address_of address) or fails BadAddress
  answers (pos byte)

-- B. Processes

-- the schedule chooses the child's number (XSH, fork())
abbrev pub fork : ℕ → Rule
fork child c = do
  refuses NumberTaken when is_some (c.state.procs child)
  changes (pos child) c.process (SetProc child (Some (child_of c.number c.process)) ∷ [])

-- with the status modulo 256 (XSH, _exit()); process 1 does not end
abbrev pub exit : ℤ → Rule
exit status c = do
  fails NotPermitted when c.number == 1
  does (ending (exit_status status) c)

-- an ended child is removed (XSH, waitpid())
abbrev pub waitpid : ℤ → Bool → Rule
waitpid t nohang c = do
  child ← pid_of c.state.width t or fails NoChild
  q ← c.state.procs child or fails NoChild
  fails NoChild when not (q.parent == c.number)
  status ← q.status or (if nohang then answers (pos 0) else refuses Wait)
  changes (pos child) (with_slots (slice_set c.process.registers.slots 0 (pos status)) c.process)
      (SetProc child None ∷ [])

-- C. Ids

abbrev pub id_of : ℤ → Option ℕ
id_of = below (LAST_ID + 1)

abbrev pub is_privileged : Ids → Bool
is_privileged ids = ids.effective_user == 0

abbrev pub is_own_user : ℕ → Ids → Bool
is_own_user u ids = ids.real_user == u || ids.saved_user == u

abbrev pub is_own_group : ℕ → Ids → Bool
is_own_group g ids = ids.real_group == g || ids.saved_group == g

abbrev pub with_ids : Ids → Rule
with_ids ids c = changes (pos 0) (record c.process { ids = ids }) []

-- XSH, setuid()
abbrev pub setuid : ℤ → Rule
setuid v c = do
  let ids = c.process.ids
  u ← id_of v or fails InvalidArgument
  let users = record ids { real_user = u; effective_user = u; saved_user = u }
  with_ids users c when is_privileged ids
  with_ids (record ids { effective_user = u }) c when is_own_user u ids
  fails NotPermitted

-- XSH, seteuid()
abbrev pub seteuid : ℤ → Rule
seteuid v c = do
  let ids = c.process.ids
  u ← id_of v or fails InvalidArgument
  with_ids (record ids { effective_user = u }) c when is_privileged ids || is_own_user u ids
  fails NotPermitted

-- XSH, setgid()
abbrev pub setgid : ℤ → Rule
setgid v c = do
  let ids = c.process.ids
  g ← id_of v or fails InvalidArgument
  let groups = record ids { real_group = g; effective_group = g; saved_group = g }
  with_ids groups c when is_privileged ids
  with_ids (record ids { effective_group = g }) c when is_own_group g ids
  fails NotPermitted

-- XSH, setegid()
abbrev pub setegid : ℤ → Rule
setegid v c = do
  let ids = c.process.ids
  g ← id_of v or fails InvalidArgument
  with_ids (record ids { effective_group = g }) c when is_privileged ids || is_own_group g ids
  fails NotPermitted

-- D. Descriptors and pipes

abbrev pub is_read_side : Side → Bool
is_read_side ReadSide = true
is_read_side WriteSide = false

abbrev pub is_write_side : Side → Bool
is_write_side ReadSide = false
is_write_side WriteSide = true

abbrev pub has_writer : ℕ → State → Bool
has_writer k S = has_side is_write_side k S

abbrev pub has_reader : ℕ → State → Bool
has_reader k S = has_side is_read_side k S

abbrev pub bytes_in : Option (List ℕ) → List ℕ
bytes_in None = []
bytes_in (Some bytes) = bytes

-- no reader is left
abbrev pub broken_pipe : ℕ → Process → Effect
broken_pipe p me = record {
  writes = SetProc p (Some (with_answer (error_answer BrokenPipe) me)) ∷ [];
  sends = record { target = p; signo = broken_pipe_signo; value = pos 0; from = None } ∷ [];
  conclusion = Replies (Done (error_answer BrokenPipe));
}

abbrev pub description_at : ℤ → Caller → Option ℕ
description_at f c = description_named c.process (descriptor f)

abbrev pub release : List ℕ → ℤ → Process → Rule
release ds r q c =
    changes r q (removals ds (write_one (SetProc c.number (Some (with_answer r q))) c.state))

-- the schedule chooses the numbers of the pipe and of its ends (XSH, pipe())
abbrev pub pipe : ℕ → ℕ → ℕ → Rule
pipe q r w c = do
  refuses NumberTaken when is_pipe_in_use q r w c.state
  f ← lowest_free c.process or fails TooManyDescriptors
  let one = with_descriptor f (Some r) c.process
  g ← lowest_free one or fails TooManyDescriptors
  let ends =
      SetPipe q (Some [])
      ∷ SetDesc r (Some (record { pipe = q; side = ReadSide; nonblock = false }))
      ∷ SetDesc w (Some (record { pipe = q; side = WriteSide; nonblock = false })) ∷ []
  let slots = slice_set (slice_set c.process.registers.slots 0 (pos f)) 1 (pos g)
  changes (pos 0) (with_slots slots (with_descriptor g (Some w) one)) ends

-- the lowest free descriptor (XSH, dup())
abbrev pub dup : ℤ → Rule
dup f c = do
  d ← description_at f c or fails BadDescriptor
  g ← lowest_free c.process or fails TooManyDescriptors
  changes (pos g) (with_descriptor g (Some d) c.process) []

-- descriptor g is closed, and names what f names (XSH, dup())
abbrev pub dup2 : ℤ → ℤ → Rule
dup2 a b c = do
  f ← descriptor a or fails BadDescriptor
  d ← description_named c.process (Some f) or fails BadDescriptor
  g ← descriptor b or fails BadDescriptor
  answers (pos g) when f == g
  release (option_list (description_named c.process (Some g))) (pos g)
      (with_descriptor g (Some d) c.process) c

-- XSH, close()
abbrev pub close : ℤ → Rule
close a c = do
  f ← descriptor a or fails BadDescriptor
  d ← description_named c.process (Some f) or fails BadDescriptor
  release (d ∷ []) (pos 0) (with_descriptor f None c.process) c

-- reads and writes fail where they would wait (XSH, fcntl(), O_NONBLOCK)
abbrev pub set_nonblock : ℤ → Bool → Rule
set_nonblock f on c = do
  d ← description_at f c or fails BadDescriptor
  x ← c.state.descs d or fails BadDescriptor
  changes (pos 0) c.process (SetDesc d (Some (record x { nonblock = on })) ∷ [])

abbrev pub of_side : (Side → Bool) → Option Description → Option Description
of_side test None = None
of_side test (Some x) = if test x.side then Some x else None

abbrev pub description_in : Option ℕ → State → Option Description
description_in None S = None
description_in (Some d) S = S.descs d

abbrev pub end_at : (Side → Bool) → ℤ → Caller → Option Description
end_at test f c = of_side test (description_in (description_at f c) c.state)

abbrev pub is_empty : List ℕ → Bool
is_empty [] = true
is_empty (byte ∷ bytes) = false

-- the first bytes of a pipe move to an address (XSH, read())
abbrev pub read : ℤ → ℤ → ℤ → Rule
read f address v c = do
  end ← end_at is_read_side f c or fails BadDescriptor
  n ← below (PIPE_BYTES + 1) v or fails InvalidArgument
  answers (pos 0) when n == 0
  fails BadAddress when not (is_good is_writable c.process.memory address n)
  let bytes = bytes_in (c.state.pipes end.pipe)
  answers (pos 0) when is_empty bytes && not (has_writer end.pipe c.state)
  fails TryAgain when is_empty bytes && end.nonblock
  refuses Wait when is_empty bytes
  let m = min n (length bytes)
  let memory = stored_memory c.process.memory (address_of address) (take m bytes)
  changes (pos m) (record c.process { memory = memory })
      (SetPipe end.pipe (Some (drop m bytes)) ∷ [])

-- bytes at an address are appended to those of a pipe, all or none (XSH, write())
abbrev pub write : ℤ → ℤ → ℤ → Rule
write f address v c = do
  end ← end_at is_write_side f c or fails BadDescriptor
  n ← below (PIPE_BYTES + 1) v or fails InvalidArgument
  answers (pos 0) when n == 0
  fails BadAddress when not (is_good is_mapped c.process.memory address n)
  does (broken_pipe c.number c.process) when not (has_reader end.pipe c.state)
  let bytes = bytes_in (c.state.pipes end.pipe)
  let is_full = nat_lt PIPE_BYTES (length bytes + n)
  fails TryAgain when is_full && end.nonblock
  refuses Wait when is_full
  changes (pos n) c.process
      (SetPipe end.pipe (Some (bytes ++ bytes_at c.process.memory (address_of address) n)) ∷ [])

-- E. Signals

abbrev pub sender_count : Option Sender → ℕ
sender_count None = 0
sender_count (Some from) = 1

unfoldable pub member_sends : List Sending → ℕ
member_sends [] = 0
member_sends (m ∷ ms) = sender_count m.from + member_sends ms

-- a signal that may be sent: 0, which only asks, or a known number
abbrev pub sendable : ℤ → Option ℕ
sendable (pos zero) = Some 0
sendable (pos (suc n)) = known_signal (pos (suc n))
sendable (negsuc n) = None

abbrev pub sending_from : Process → ℕ → ℕ → ℤ → Sending
sending_from me t signo value =
    record {
      target = t;
      signo = signo;
      value = value;
      from = Some (record { real = me.ids.real_user; effective = me.ids.effective_user });
    }

-- XSH, sigqueue()
abbrev pub sigqueue : ℤ → ℤ → ℤ → Rule
sigqueue t s value c = do
  signo ← sendable s or fails InvalidArgument
  target ← pid_of c.state.width t or fails NoSuchProcess
  let m = sending_from c.process target signo value
  inside ← holder_of target c.inside or posts m
  let held = c.state.held inside.starter
  answers closed_inside when signo == 0
  fails TryAgain when not (nat_lt (member_sends held) HELD_SENDS)
  changes (pos 0) c.process (SetHeld inside.starter (held ++ m ∷ []) ∷ [])

-- XSH, kill()
abbrev pub kill : ℤ → ℤ → Rule
kill t s = sigqueue t s (pos 0)

-- an action that ignores discards what is pending (XSH, sigaction())
abbrev pub sigaction : ℤ → Action → Rule
sigaction s action c = do
  signo ← known_signal s or fails InvalidArgument
  fails InvalidArgument when signo == kill_signo || is_bad_action action
  let ignores = is_ignoring (disposition signo action)
  let me = if ignores then without_signal signo c.process else c.process
  changes (pos 0) (with_action signo action me) []

-- XSH, sigprocmask()
abbrev pub sigprocmask : How → SigSet → Rule
sigprocmask how set c =
    changes (pos 0)
    (record c.process { mask = maskable (changed_mask how (bits_of set) c.process.mask) }) []

-- the pending signals that are blocked, as a number (XSH, sigpending())
abbrev pub sigpending : Rule
sigpending c = answers (pos (bit_and (pending_signals c.process) c.process.mask))

-- the process goes on as before its newest caught signal
abbrev pub sigreturn : Rule
sigreturn c = do
  frame ← newest_frame c.process.frames or fails InvalidArgument
  stands (with_frame frame c.process) (Done frame.registers.ret)

-- F. The console and the registers

abbrev pub is_jump_taken : When → ℤ → Bool
is_jump_taken Always ret = true
is_jump_taken (IfRet v) ret = int_eq ret v

-- closed inside a transaction
abbrev pub console_write : ℤ → ℤ → Rule
console_write address v c = do
  answers closed_inside when is_some c.inside
  n ← below (CONSOLE_BYTES + 1) v or fails InvalidArgument
  fails BadAddress when not (is_good is_mapped c.process.memory address n)
  stands (with_answer (pos n) c.process)
      (Out (record { items = bytes_at c.process.memory (address_of address) n }))

-- the last answer stays and is the answer
abbrev pub jump : ℕ → When → Rule
jump point if_so c = do
  let now = c.process.registers
  fails InvalidArgument when nat_lt LAST_POINT point
  answers now.ret when not (is_jump_taken if_so now.ret)
  stands (record c.process { registers = record now { point = point } }) (Done now.ret)

-- a slot becomes the last answer, which stays and is the answer
abbrev pub keep : ℤ → Rule
keep slot c = do
  k ← below SLOTS slot or fails InvalidArgument
  let now = c.process.registers
  changes now.ret (with_slots (slice_set now.slots k now.ret) c.process) []

-- G. The contents, with what the calls name beside their process, choose, and are to transactions

abbrev pub desc_of : ℤ → Caller → List Object
desc_of f c = desc_objects (option_list (description_at f c))

abbrev pub desc_and_pipe_of : ℤ → Caller → List Object
desc_and_pipe_of f c = desc_pipe_objects (option_list (description_at f c)) c.state

abbrev pub page_of_call : Call → Page
page_of_call (call.Map n) = page (map n)
page_of_call (call.Unmap n) = page (unmap n)
page_of_call (call.Protect n writable) = page (protect n writable)
page_of_call (call.Store address bytes) = page (store address bytes.items)
page_of_call (call.Load address) = page (load address)
page_of_call (call.Fork n) =
    record (page_naming (fork n.0) (λ c. Proc n.0 ∷ desc_objects (open_in c.process.descriptors)))
    { chooses = ChoosesProcess n.0; kind = Forking n.0 }
page_of_call (call.Exit status) =
    page_naming (exit status) (λ c. if c.number == 1 then [] else ending_objects c)
page_of_call (call.Waitpid t nohang) =
    page_naming (waitpid t nohang) (λ c. procs_of (option_list (pid_of c.state.width t)))
page_of_call call.Getpid = page (λ c. answers (pos c.number))
page_of_call call.Getppid = page (λ c. answers (pos c.process.parent))
page_of_call (call.Setuid u) = page (setuid u)
page_of_call (call.Seteuid u) = page (seteuid u)
page_of_call (call.Setgid g) = page (setgid g)
page_of_call (call.Setegid g) = page (setegid g)
page_of_call (call.Pipe q r w) =
    record (page_naming (pipe q.0 r.0 w.0) (λ c. Pipe q.0 ∷ Desc r.0 ∷ Desc w.0 ∷ []))
    { chooses = ChoosesPipe q.0 r.0 w.0 }
page_of_call (call.Dup f) = page_naming (dup f) (desc_of f)
page_of_call (call.Dup2 f g) =
    page_naming (dup2 f g) λ c.
    desc_of f c ++ desc_pipe_objects (other_than (descriptor f) (descriptor g) c.process) c.state
page_of_call (call.Close f) = page_naming (close f) (desc_and_pipe_of f)
page_of_call (call.SetNonblock f on) = page_naming (set_nonblock f on) (desc_of f)
page_of_call (call.Read f address n) = page_naming (read f address n) (desc_and_pipe_of f)
page_of_call (call.Write f address n) = page_naming (write f address n) (desc_and_pipe_of f)
page_of_call (call.Kill t s) = page_naming (kill t s) (λ c. held_objects c.inside)
page_of_call (call.Sigqueue t s value) =
    page_naming (sigqueue t s value) (λ c. held_objects c.inside)
page_of_call (call.Sigaction s action) = page (sigaction s action)
page_of_call (call.Sigprocmask how set) = page (sigprocmask how set)
page_of_call call.Sigpending = page sigpending
page_of_call call.Sigreturn = page sigreturn
page_of_call (call.ConsoleWrite address n) = page (console_write address n)
page_of_call (call.Jump point if_so) = page (jump point if_so)
page_of_call (call.Keep slot) = page (keep slot)
page_of_call call.SysXbegin = record (page (λ c. fails InvalidArgument)) { kind = Beginning false }
page_of_call call.SysXbeginDefer =
    record (page (λ c. fails InvalidArgument)) { kind = Beginning true }
page_of_call call.SysXend = record (page (λ c. fails InvalidArgument)) { kind = Leaving }
page_of_call call.SysXabort = record (page (λ c. fails InvalidArgument)) { kind = Aborting }
