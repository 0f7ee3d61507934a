-- The reply that a line of JSON gives.
use Rattle.std.specs.Prelude.{ℕ, List, [], ◌∷◌, Option, Some, None, codes, if◌then◌else◌, nat_eq}
use Rattle.std.specs.Str.{bytes_eq}
use Rattle.json.specs.Lex.{tokens}
use Rattle.json.specs.Token.{Token}
use Rattle.tx_base.specs.declared.errors.Errno.{Errno}
use Rattle.tx_base.specs.declared.errors.Errno.TheVariants.{NotPermitted, NoSuchProcess, BadDescriptor, NoChild, TryAgain, BadAddress, InvalidArgument, TooManyDescriptors, BrokenPipe}
use Rattle.tx_base.specs.declared.names.Missed.{Missed}
use Rattle.tx_base.specs.declared.steps.Refusal.{Refusal}
use Rattle.tx_base.specs.declared.steps.Refusal.TheVariants.{NoProcess, NotRunning, BadNumber, NumberTaken, Doomed, Parked, KillPending, Busy, Wait, NotDeliverable, FramesFull, NoTransaction, NoMemory, Deferred}
use Rattle.tx_base.specs.declared.steps.Reply.{Reply}
use Rattle.tx_base.specs.declared.steps.Reply.TheVariants.{Done, Ended, Committed, Aborted, Out, No}
use Rattle.tx_reads_back.specs.Reading.{◌>>=◌, bytes_in, count_in, list_in, number_in, object_by, whole, word_in, Read}
use Rattle.tx_state_text.specs.Replies.{error_name}

-- which of some names a word is
abbrev pub named_by : {A : Type 0} → List (List ℕ × A) → List ℕ → Option A
named_by [] word = None
named_by (one ∷ rest) word = if bytes_eq one.0 word then Some one.1 else named_by rest word

abbrev pub numbered_by : {A : Type 0} → List (ℕ × A) → ℕ → Option A
numbered_by [] number = None
numbered_by (one ∷ rest) number =
    if nat_eq one.0 number then Some one.1 else numbered_by rest number

abbrev pub errors : List (ℕ × Errno)
errors =
    (1, NotPermitted) ∷ (3, NoSuchProcess) ∷ (9, BadDescriptor) ∷ (10, NoChild) ∷ (11, TryAgain)
    ∷ (14, BadAddress) ∷ (22, InvalidArgument)
    ∷ (24, TooManyDescriptors) ∷ (32, BrokenPipe) ∷ []

-- all refusals but the one that names who is in the way
abbrev pub refusals : List (List ℕ × Refusal)
refusals =
    (codes "N1", NoProcess) ∷ (codes "N2", NotRunning) ∷ (codes "N3", BadNumber)
    ∷ (codes "N4", NumberTaken) ∷ (codes "N5", Doomed) ∷ (codes "N6", Parked)
    ∷ (codes "N7", KillPending) ∷ (codes "N9", Wait) ∷ (codes "N10", NotDeliverable)
    ∷ (codes "N11", FramesFull) ∷ (codes "N12", NoTransaction)
    ∷ (codes "N13", NoMemory) ∷ (codes "N14", Deferred) ∷ []

-- a send that could not be delivered
abbrev pub missed_of : ℕ → ℕ → Errno → Missed
missed_of target signo errno =
    record { target = record { 0 = target }; signo = record { 0 = signo }; errno = errno }

unfoldable pub missed_members : Read Missed
missed_members tokens = do
  target ← count_in (codes "target") tokens
  signo ← count_in (codes "signo") target.1
  number ← count_in (codes "errno") signo.1
  errno ← numbered_by errors number.0
  Some (missed_of target.0 signo.0 errno, number.1)

abbrev pub missed_at : Read Missed
missed_at tokens = object_by missed_members tokens

-- what follows the name of an error, where there must be one
abbrev pub after_error : Option (List ℕ) → List Token → Option (List Token)
after_error None tokens = Some tokens
after_error (Some name) tokens = do
  word ← word_in (codes "error") tokens
  if bytes_eq word.0 name then Some word.1 else None

-- the reply of that word; a number that is an error's has its name beside it
abbrev pub reply_by : List ℕ → Read Reply
reply_by word tokens =
    if bytes_eq word (codes "ok") then (do
      ret ← number_in (codes "ret") tokens
      rest ← after_error (error_name ret.0) ret.1
      Some (Done ret.0, rest))
    else if bytes_eq word (codes "ended") then Some (Ended, tokens)
    else if bytes_eq word (codes "committed") then (do
      undelivered ← list_in (codes "undelivered") missed_at tokens
      Some (Committed (record { items = undelivered.0 }), undelivered.1))
    else if bytes_eq word (codes "aborted") then (do
      status ← count_in (codes "status") tokens
      Some (Aborted status.0, status.1))
    else if bytes_eq word (codes "out") then (do
      bytes ← bytes_in (codes "bytes") tokens
      Some (Out (record { items = bytes.0 }), bytes.1))
    else None

-- the refusal of that word
abbrev pub refusal_by : List ℕ → Read Reply
refusal_by word tokens =
    if bytes_eq word (codes "N8") then (do
      holder ← count_in (codes "holder") tokens
      Some (No (Busy (record { 0 = holder.0 })), holder.1))
    else (do
      refusal ← named_by refusals word
      Some (No refusal, tokens))

-- the members of a refusal, and of any other reply
unfoldable pub refusal_in : Read Reply
refusal_in tokens = do
  word ← word_in (codes "refused") tokens
  refusal_by word.0 word.1

unfoldable pub answer_in : Read Reply
answer_in tokens = do
  word ← word_in (codes "reply") tokens
  reply_by word.0 word.1

abbrev pub or_else : {A : Type 0} → Option A → Option A → Option A
or_else (Some one) other = Some one
or_else None other = other

-- the members of a reply
unfoldable pub reply_in : Read Reply
reply_in tokens = or_else (refusal_in tokens) (answer_in tokens)

-- a step that was refused, or else the number of one that was accepted, and its reply
abbrev pub refused_members : Read (Option ℕ × Reply)
refused_members tokens = do
  reply ← refusal_in tokens
  Some ((None, reply.0), reply.1)

abbrev pub accepted_members : Read (Option ℕ × Reply)
accepted_members tokens = do
  number ← count_in (codes "step") tokens
  reply ← answer_in number.1
  Some ((Some number.0, reply.0), reply.1)

unfoldable pub step_members : Read (Option ℕ × Reply)
step_members tokens = or_else (refused_members tokens) (accepted_members tokens)

-- what a line says of a step: its number if it was accepted, and its reply
abbrev pub step_of_json : List ℕ → Option (Option ℕ × Reply)
step_of_json line = whole (object_by step_members (tokens line))
