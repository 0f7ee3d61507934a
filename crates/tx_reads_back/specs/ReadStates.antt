-- The state that a line of JSON gives.
use Rattle.std.specs.Prelude.{ℕ, ◌+◌, Bool, List, [], ◌∷◌, ◌++◌, Option, Some, None, codes, if◌then◌else◌}
use Rattle.json.specs.Lex.{tokens}
use Rattle.tx_model.specs.State.{Description, Process, ReadSide, Sending, Side, WriteSide}
use Rattle.tx_reads_back.specs.ReadProcesses.{found_at, process_members}
use Rattle.tx_reads_back.specs.ReadReplies.{named_by}
use Rattle.tx_reads_back.specs.Reading.{◌>>=◌, after_key, bytes_in, count_at, count_in, flag_in, list_in, number_in, object_by, whole, word_in, Read}

-- a live transaction: whether it defers deliveries, the members whose part is open or ended, and
-- the sends that it holds, without their senders
pub record JsonTxn : Type 0 where
  pub defers : Bool
  pub open_parts : List ℕ
  pub ended_parts : List ℕ
  pub held : List Sending

-- what is said of a state, by number: processes, descriptions and pipes, and live transactions by
-- their starters
pub record JsonState : Type 0 where
  pub procs : ℕ → Option Process
  pub descs : ℕ → Option Description
  pub pipes : ℕ → Option (List ℕ)
  pub txns : ℕ → Option JsonTxn

abbrev pub sides : List (List ℕ × Side)
sides = (codes "read", ReadSide) ∷ (codes "write", WriteSide) ∷ []

unfoldable pub desc_members : Read (ℕ × Description)
desc_members tokens = do
  number ← count_in (codes "desc") tokens
  pipe ← count_in (codes "pipe") number.1
  word ← word_in (codes "side") pipe.1
  side ← named_by sides word.0
  nonblock ← flag_in (codes "nonblock") word.1
  Some ((number.0, record { pipe = pipe.0; side = side; nonblock = nonblock.0 }), nonblock.1)

unfoldable pub pipe_members : Read (ℕ × List ℕ)
pipe_members tokens = do
  number ← count_in (codes "pipe") tokens
  bytes ← bytes_in (codes "bytes") number.1
  Some ((number.0, bytes.0), bytes.1)

unfoldable pub held_members : Read Sending
held_members tokens = do
  target ← count_in (codes "target") tokens
  signo ← count_in (codes "signo") target.1
  value ← number_in (codes "value") signo.1
  Some (record { target = target.0; signo = signo.0; value = value.0; from = None }, value.1)

-- its members, and what it holds
unfoldable pub lists_in : Bool → Read JsonTxn
lists_in defers tokens = do
  open_parts ← list_in (codes "open") count_at tokens
  ended_parts ← list_in (codes "ended") count_at open_parts.1
  held ← list_in (codes "held") (object_by held_members) ended_parts.1
  Some (
    record {
      defers = defers;
      open_parts = open_parts.0;
      ended_parts = ended_parts.0;
      held = held.0;
    },
    held.1,
  )

unfoldable pub txn_members : Read (ℕ × JsonTxn)
txn_members tokens = do
  starter ← count_in (codes "txn") tokens
  defers ← flag_in (codes "defers") starter.1
  txn ← lists_in defers.0 defers.1
  Some ((starter.0, txn.0), txn.1)

-- the processes, descriptions and pipes, each with its number
unfoldable pub parts_in : Read (List (ℕ × Process) × List (ℕ × Description) × List (ℕ × List ℕ))
parts_in tokens = do
  procs ← list_in (codes "procs") (object_by process_members) tokens
  descs ← list_in (codes "descs") (object_by desc_members) procs.1
  pipes ← list_in (codes "pipes") (object_by pipe_members) descs.1
  Some ((procs.0, descs.0, pipes.0), pipes.1)

unfoldable pub state_members : Read JsonState
state_members tokens = do
  parts ← parts_in tokens
  txns ← list_in (codes "txns") (object_by txn_members) parts.1
  Some (
    record {
      procs = found_at parts.0.0;
      descs = found_at parts.0.1;
      pipes = found_at parts.0.2;
      txns = found_at txns.0;
    },
    txns.1,
  )

-- a position, and the state there
unfoldable pub place_members : Read (ℕ × JsonState)
place_members tokens = do
  at ← count_in (codes "at") tokens
  inside ← after_key (codes "state") at.1
  state ← object_by state_members inside
  Some ((at.0, state.0), state.1)

-- what a line says of a state: the position, and what is there
abbrev pub state_of_json : List ℕ → Option (ℕ × JsonState)
state_of_json line = whole (object_by place_members (tokens line))
