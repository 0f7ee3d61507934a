-- The processes that JSON gives.
use Rattle.std.specs.Prelude.{ℕ, zero, suc, ◌+◌, List, [], ◌∷◌, ◌++◌, Option, Some, None, codes, if◌then◌else◌, nat_eq, unwrap_or}
use Rattle.std.specs.Str.{bytes_eq}
use Rattle.json.specs.Token.{Token}
use Rattle.tx_base.specs.declared.limits.TheConstants.{DESCRIPTORS, SIGNALS}
use Rattle.tx_base.specs.declared.names.Regs.{Regs}
use Rattle.tx_base.specs.declared.signals.Action.{Action}
use Rattle.tx_base.specs.declared.signals.Action.TheVariants.{Usual, Ignore, Catch}
use Rattle.tx_model.specs.Memory.{Memory, PageView}
use Rattle.tx_model.specs.SignalSets.{set_of}
use Rattle.tx_model.specs.State.{Frame, Ids, Process, Queued}
use Rattle.tx_reads_back.specs.Reading.{◌>>=◌, bytes_in, count_at, count_in, flag_in, list_in, number_at, number_in, object_by, word_in, Read}

-- what is at a number among numbered things
abbrev pub found_at : {A : Type 0} → List (ℕ × A) → ℕ → Option A
found_at [] number = None
found_at (one ∷ rest) number = if nat_eq one.0 number then Some one.1 else found_at rest number

-- what is at each number below a limit
unfoldable pub table : {A : Type 0} → (ℕ → A) → ℕ → List A
table at zero = []
table at (suc limit) = table at limit ++ at limit ∷ []

-- a set of signals, by a list of them
unfoldable pub set_in : List ℕ → Read ℕ
set_in name tokens = do
  signos ← list_in name count_at tokens
  Some (set_of signos.0, signos.1)

abbrev pub three_of : List ℕ → Option (ℕ × ℕ × ℕ)
three_of (real ∷ effective ∷ saved ∷ []) = Some (real, effective, saved)
three_of _ = None

-- a real, an effective and a saved id
unfoldable pub three_in : List ℕ → Read (ℕ × ℕ × ℕ)
three_in name tokens = do
  ids ← list_in name count_at tokens
  three ← three_of ids.0
  Some (three, ids.1)

abbrev pub ids_of : ℕ × ℕ × ℕ → ℕ × ℕ × ℕ → Ids
ids_of users groups = record {
  real_user = users.0;
  effective_user = users.1;
  saved_user = users.2;
  real_group = groups.0;
  effective_group = groups.1;
  saved_group = groups.2;
}

unfoldable pub ids_in : Read Ids
ids_in tokens = do
  users ← three_in (codes "users") tokens
  groups ← three_in (codes "groups") users.1
  Some (ids_of users.0 groups.0, groups.1)

-- a page, with its number, and the sixteen of a process
unfoldable pub page_members : Read (ℕ × PageView)
page_members tokens = do
  number ← count_in (codes "page") tokens
  writable ← flag_in (codes "writable") number.1
  bytes ← bytes_in (codes "bytes") writable.1
  Some ((number.0, record { writable = writable.0; bytes = bytes.0 }), bytes.1)

unfoldable pub pages_in : Read Memory
pages_in tokens = do
  pages ← list_in (codes "pages") (object_by page_members) tokens
  Some (table (found_at pages.0) 16, pages.1)

-- an open descriptor, with its number, and all of a process
unfoldable pub fd_members : Read (ℕ × ℕ)
fd_members tokens = do
  fd ← count_in (codes "fd") tokens
  desc ← count_in (codes "desc") fd.1
  Some ((fd.0, desc.0), desc.1)

unfoldable pub fds_in : Read (List (Option ℕ))
fds_in tokens = do
  fds ← list_in (codes "fds") (object_by fd_members) tokens
  Some (table (found_at fds.0) DESCRIPTORS, fds.1)

-- an action, with its signal, and those of all signals
abbrev pub action_by : List ℕ → Read Action
action_by word tokens =
    if bytes_eq word (codes "ignore") then Some (Ignore, tokens)
    else if bytes_eq word (codes "catch") then (do
      point ← count_in (codes "point") tokens
      mask ← set_in (codes "mask") point.1
      Some (Catch point.0 (record { 0 = mask.0 }), mask.1))
    else None

unfoldable pub action_members : Read (ℕ × Action)
action_members tokens = do
  signo ← count_in (codes "signo") tokens
  word ← word_in (codes "action") signo.1
  action ← action_by word.0 word.1
  Some ((signo.0, action.0), action.1)

unfoldable pub actions_in : Read (List Action)
actions_in tokens = do
  actions ← list_in (codes "actions") (object_by action_members) tokens
  Some (table (λ signo. unwrap_or (found_at actions.0 signo) Usual) SIGNALS, actions.1)

-- an entry of the queue
unfoldable pub entry_members : Read Queued
entry_members tokens = do
  signo ← count_in (codes "signo") tokens
  value ← number_in (codes "value") signo.1
  Some (record { signo = signo.0; value = value.0 }, value.1)

-- what a caught signal saved
unfoldable pub frame_members : Read Frame
frame_members tokens = do
  point ← count_in (codes "point") tokens
  ret ← number_in (codes "ret") point.1
  mask ← set_in (codes "mask") ret.1
  slots ← list_in (codes "slots") number_at mask.1
  Some (
    record {
      registers = record { point = point.0; ret = ret.0; slots = slots.0 };
      mask = mask.0;
    },
    slots.1,
  )

unfoldable pub registers_in : Read Regs
registers_in tokens = do
  point ← count_in (codes "point") tokens
  ret ← number_in (codes "ret") point.1
  slots ← list_in (codes "slots") number_at ret.1
  Some (record { point = point.0; ret = ret.0; slots = slots.0 }, slots.1)

-- how a process ended: by an exit, by a signal, or not yet
abbrev pub status_by : Option (ℕ × List Token) → Option (ℕ × List Token) → Read (Option ℕ)
status_by (Some exit) killed tokens = Some (Some exit.0, exit.1)
status_by None (Some killed) tokens = Some (Some (killed.0 + 256), killed.1)
status_by None None tokens = Some (None, tokens)

unfoldable pub status_in : Read (Option ℕ)
status_in tokens =
    status_by (count_in (codes "exit") tokens) (count_in (codes "killed") tokens) tokens

-- what has to do with signals
pub record JsonSignals : Type 0 where
  pub mask : ℕ
  pub actions : List Action
  pub pending : ℕ
  pub queued : List Queued
  pub frames : List Frame

unfoldable pub signals_in : Read JsonSignals
signals_in tokens = do
  mask ← set_in (codes "mask") tokens
  actions ← actions_in mask.1
  pending ← set_in (codes "pending") actions.1
  queued ← list_in (codes "queued") (object_by entry_members) pending.1
  frames ← list_in (codes "frames") (object_by frame_members) queued.1
  Some (
    record {
      mask = mask.0;
      actions = actions.0;
      pending = pending.0;
      queued = queued.0;
      frames = frames.0;
    },
    frames.1,
  )

abbrev pub process_with : ℕ → Option ℕ → Regs → Ids → Memory → List (Option ℕ) → JsonSignals
    → Process
process_with parent status registers ids memory descriptors signals = record {
  registers = registers;
  parent = parent;
  status = status;
  ids = ids;
  memory = memory;
  descriptors = descriptors;
  mask = signals.mask;
  actions = signals.actions;
  pending = signals.pending;
  queued = signals.queued;
  frames = signals.frames;
}

-- all that follows its parent and how it ended
unfoldable pub own_in : ℕ → Option ℕ → Read Process
own_in parent status tokens = do
  registers ← registers_in tokens
  ids ← ids_in registers.1
  memory ← pages_in ids.1
  descriptors ← fds_in memory.1
  signals ← signals_in descriptors.1
  Some (process_with parent status registers.0 ids.0 memory.0 descriptors.0 signals.0, signals.1)

-- a process, with its number
unfoldable pub process_members : Read (ℕ × Process)
process_members tokens = do
  pid ← count_in (codes "pid") tokens
  parent ← count_in (codes "parent") pid.1
  status ← status_in parent.1
  own ← own_in parent.0 status.0 status.1
  Some ((pid.0, own.0), own.1)
