-- What reads and writes come to.
use Rattle.std.specs.Prelude.{take, drop, map, ◌≡◌, ◌≢◌, ◌≤◌, ◌+◌, ◌++◌, ℕ, ℤ, pos, true, List, [], ◌∷◌, Option, Some, None, Result, Ok, Err, if◌then◌else◌, length, nat_lt, false, slice_index_or}
use Rattle.tx_pages.specs.declared.plans.NewPage.{NewPage}
use Rattle.tx_pages.specs.Outcomes.{with_pages, AreNumbered}
use Rattle.tx_kernel.specs.Own.{page_change}
use Rattle.tx_change.specs.declared.pipes.PipePart.TheVariants.{Front}
use Rattle.tx_change.specs.declared.change.Change.TheVariants.{Pipe}
use Rattle.tx_change.specs.declared.change.Change.{Change}
use Rattle.tx_kernel.specs.declared.transfers.Reading.{Reading}
use Rattle.tx_base.specs.declared.errors.Errno.{Errno}
use Rattle.tx_base.specs.declared.errors.Errno.TheVariants.{BadDescriptor, BrokenPipe, TryAgain}
use Rattle.tx_base.specs.declared.limits.TheConstants.{PIPE_BYTES}
use Rattle.tx_base.specs.declared.names.PipeNo.{PipeNo}
use Rattle.tx_base.specs.declared.names.Sending.{Sending}
use Rattle.tx_base.specs.declared.signals.TheConstants.{SIGPIPE}
use Rattle.tx_base.specs.declared.steps.Refusal.TheVariants.{Wait}
use Rattle.tx_change.specs.Exchange.{pipe_at}
use Rattle.tx_change.specs.States.{state_of}
use Rattle.tx_desc.specs.Descriptions.{description_of, end_for, side_test}
use Rattle.tx_desc.specs.declared.opened.Desc.{Desc}
use Rattle.tx_desc.specs.declared.opened.Opened.{Opened}
use Rattle.tx_desc.specs.declared.opened.Side.{Side}
use Rattle.tx_kernel.specs.Actors.{caller_of, me_of}
use Rattle.tx_kernel.specs.declared.actor.Actor.{Actor}
use Rattle.tx_kernel.specs.declared.planned.Outcome.TheVariants.{Done}
use Rattle.tx_kernel.specs.declared.planned.Planned.{Planned}
use Rattle.tx_kernel.specs.declared.planned.Sends.TheVariants.{AtOnce}
use Rattle.tx_kernel.specs.declared.transfers.Reading.TheVariants as reading
use Rattle.tx_kernel.specs.declared.transfers.Writing.{Writing}
use Rattle.tx_kernel.specs.declared.transfers.Writing.TheVariants as writing
use Rattle.tx_model.specs.Book.{end_at as end_in, broken_pipe, bytes_in, is_read_side}
use Rattle.tx_model.specs.Forms.{Caller, Rule, answers, changes, does, fails, refuses}
use Rattle.tx_model.specs.Memory.{stored_memory, address_of, bytes_at, is_good, is_mapped, is_writable}
use Rattle.tx_model.specs.Numbers.{below, error_answer}
use Rattle.tx_model.specs.State.{Sending as TheSending, SetPipe}

-- what the description that a descriptor names has, if it names one
abbrev pub opened_at : List (Option Opened) → Option ℕ → Option Opened
opened_at descs None = None
opened_at descs (Some d) = slice_index_or descs d None

-- the description, if it is of the side
abbrev pub end_at : Side → Option Opened → Result Desc Errno
end_at side None = Err BadDescriptor
end_at side (Some opened) =
    if side_test side (end_for opened.desc.side) then Ok opened.desc else Err BadDescriptor

-- the bytes of a pipe
abbrev pub held_in : Actor → PipeNo → List ℕ
held_in actor pipe = bytes_in (pipe_at actor.parts.now.pipes pipe.0)

-- the process as the caller, in the state that its parts mean
abbrev pub calling : Actor → (ℕ → List TheSending) → Caller
calling actor held = caller_of actor (state_of held actor.parts.now)

-- what a write comes to
abbrev pub writing_outcome : ℤ → Result Writing Errno → Rule
writing_outcome address (Err errno) c = fails errno
writing_outcome address (Ok writing.Nothing) c = answers (pos 0)
writing_outcome address (Ok writing.Breaks) c = does (broken_pipe c.number c.process)
writing_outcome address (Ok writing.Waits) c = refuses Wait
writing_outcome address (Ok (writing.Puts pipe n)) c =
    changes (pos n) c.process
    (SetPipe pipe.0
    (Some
    (bytes_in (c.state.pipes pipe.0)
    ++ bytes_at c.process.memory (address_of address) n))
    ∷ [])

-- the bytes that a write puts are there, and there is room for them in the pipe
pub record CanPut (actor : Actor) (address : ℤ) (pipe : PipeNo) (n : ℕ) : Type 0 where
  pub good : is_good is_mapped (me_of actor).memory address n ≡ true
  pub room : length (held_in actor pipe) + n ≤ PIPE_BYTES

-- bytes are put only to this pipe, and can be
abbrev pub IsReadyToPut : Actor → ℤ → PipeNo → Writing → Type 0
IsReadyToPut actor address pipe writing.Nothing = Unit {0}
IsReadyToPut actor address pipe writing.Breaks = Unit {0}
IsReadyToPut actor address pipe writing.Waits = Unit {0}
IsReadyToPut actor address pipe (writing.Puts to n) = (to ≡ pipe) × CanPut actor address to n

-- the description that a descriptor names is one of the pipe
pub record NamesPipe (actor : Actor) (x : Option ℕ) (pipe : PipeNo) : Type 0 where
  pub number : ℕ
  pub opened : Opened
  pub names : x ≡ Some number
  pub there : slice_index_or actor.parts.now.descs number None ≡ Some opened
  pub same : opened.desc.pipe ≡ pipe

-- bytes are put to the pipe that a descriptor names, and can be
abbrev pub PutsTo : Actor → Option ℕ → ℤ → Writing → Type 0
PutsTo actor x address writing.Nothing = Unit {0}
PutsTo actor x address writing.Breaks = Unit {0}
PutsTo actor x address writing.Waits = Unit {0}
PutsTo actor x address (writing.Puts to n) = NamesPipe actor x to × CanPut actor address to n

-- what a write of this many bytes to a description with a reader comes to
abbrev pub IsPutting : Actor → Desc → ℕ → Result Writing Errno → Type 0
IsPutting actor desc n (Ok writing.Nothing) = ⊥
IsPutting actor desc n (Ok writing.Breaks) = ⊥
IsPutting actor desc n (Ok writing.Waits) =
    (nat_lt PIPE_BYTES (length (held_in actor desc.pipe) + n) ≡ true) × (desc.nonblock ≡ false)
IsPutting actor desc n (Ok (writing.Puts to m)) =
    (nat_lt PIPE_BYTES (length (held_in actor desc.pipe) + n) ≡ false) × (to ≡ desc.pipe) × (m ≡ n)
IsPutting actor desc n (Err errno) =
    (errno ≡ TryAgain)
    × (nat_lt PIPE_BYTES (length (held_in actor desc.pipe) + n) ≡ true)
    × (desc.nonblock ≡ true)

-- the bytes that a write puts
abbrev pub put_bytes : Actor → ℤ → ℕ → List ℕ
put_bytes actor address n = bytes_at (me_of actor).memory (address_of address) n

-- the signal for a process that writes without a reader
abbrev pub broken_sending : Actor → Sending
broken_sending actor = record { target = actor.pid; signo = SIGPIPE; value = pos 0; from = None }

-- a write without a reader
abbrev pub broken : Actor → Planned
broken actor =
    record { outcome = Done (error_answer BrokenPipe); sends = AtOnce (broken_sending actor) }

-- what a read comes to
abbrev pub reading_outcome : ℤ → Result Reading Errno → Rule
reading_outcome address (Err errno) c = fails errno
reading_outcome address (Ok reading.Nothing) c = answers (pos 0)
reading_outcome address (Ok reading.Waits) c = refuses Wait
reading_outcome address (Ok (reading.Takes pipe n)) c =
    let held = bytes_in (c.state.pipes pipe.0) in
    changes (pos n)
    (record c.process {
      memory = stored_memory c.process.memory (address_of address) (take n held);
    }) (SetPipe pipe.0 (Some (drop n held)) ∷ [])

-- a read from such a descriptor is one from the description, of this many bytes that may be put at
-- the address
pub record AsksFor (actor : Actor) (desc : Desc) (n : ℕ) (fd address count : ℤ)
    (held : ℕ → List TheSending) : Type 0 where
  pub end : end_in is_read_side fd (calling actor held) ≡ Some (description_of desc)
  pub number : below 513 count ≡ Some n
  pub some : n ≢ 0
  pub good : is_good is_writable (me_of actor).memory address n ≡ true

-- the pipe holds the bytes that a read takes
pub record CanTake (actor : Actor) (pipe : PipeNo) (n : ℕ) : Type 0 where
  pub held : n ≤ length (held_in actor pipe)
  pub fits : length (held_in actor pipe) ≤ PIPE_BYTES

-- bytes are taken only from this pipe, and can be
abbrev pub IsReadyToTake : Actor → PipeNo → Reading → Type 0
IsReadyToTake actor pipe reading.Nothing = Unit {0}
IsReadyToTake actor pipe reading.Waits = Unit {0}
IsReadyToTake actor pipe (reading.Takes from n) = (from ≡ pipe) × CanTake actor from n

-- bytes are taken from the pipe that a descriptor names, and can be
abbrev pub TakesFrom : Actor → Option ℕ → Reading → Type 0
TakesFrom actor x reading.Nothing = Unit {0}
TakesFrom actor x reading.Waits = Unit {0}
TakesFrom actor x (reading.Takes from n) = NamesPipe actor x from × CanTake actor from n

-- a log that now ends in taking bytes from the pipe, and in the pages with these bytes
pub record TakesBytes (actor : Actor) (before now : List Change) (pipe : PipeNo) (address : ℤ)
    (n : ℕ) : Type 0 where
  pub pages : List NewPage
  pub numbered : AreNumbered pages
  pub memory :
      with_pages (me_of actor).memory pages
      ≡ stored_memory (me_of actor).memory (address_of address) (take n (held_in actor pipe))
  pub added : now ≡ before ++ Pipe pipe (Front n []) ∷ map (page_change actor.pid) pages
