-- What decides how a post to a process is answered, and what posts leave as pending. Own rules.
use Rattle.std.specs.Prelude.{ℕ, ◌+◌, Bool, true, false, ◌||◌, List, [], ◌∷◌, ℤ, pos, negsuc, Option, Some, None, is_some, if◌then◌else◌, nat_lt, ◌==◌}
use Rattle.std.specs.Ordering.{int_eq}
use Rattle.tx_base.specs.declared.limits.TheConstants.{QUEUED}
use Rattle.tx_model.specs.Posts.{may_signal, with_signal}
use Rattle.tx_model.specs.SignalSets.{is_realtime}
use Rattle.tx_model.specs.State.{Ids, Process, Sending}
use Rattle.tx_signal.specs.Parts.{PendingView, alone, pending_of}

-- what a post asks of its target, except the length of the queue
pub record Face : Type 0 where
  pub ids : Ids
  pub ended : Bool

-- the face of a process, if there is one
abbrev pub face_of : Option Process → Option Face
face_of None = None
face_of (Some q) = Some (record { ids = q.ids; ended = is_some q.status })

-- the face of a process that runs
abbrev pub running : Ids → Face
running ids = record { ids = ids; ended = false }

-- what is pending at a process: nothing, if there is none
abbrev pub pending_in : Option Process → PendingView
pending_in None = record { standard = 0; queued = [] }
pending_in (Some q) = pending_of q

-- whether a signal that may be sent changes nothing
abbrev pub is_quiet_at : Sending → Face → Bool
is_quiet_at m face = m.signo == 0 || (m.target == 1 || face.ended)

-- what is pending after a post
abbrev pub pending_after : Sending → Option Face → PendingView → PendingView
pending_after m None view = view
pending_after m (Some face) view =
    if may_signal m.from face.ids
    then (if is_quiet_at m face then view else pending_of (with_signal m (alone view)))
    else view

-- what is pending at process s after these sends
unfoldable pub pending_by : ℕ → List Sending → Option Face → PendingView → PendingView
pending_by s [] face view = view
pending_by s (m ∷ ms) face view =
    pending_by s ms face (if m.target == s then pending_after m face view else view)

-- the answer of a post with this many queued
abbrev pub answer_at : Sending → Option Face → ℕ → ℤ
answer_at m None queued = negsuc 2
answer_at m (Some face) queued =
    if may_signal m.from face.ids
    then (if is_quiet_at m face
    then pos 0
    else (if is_realtime m.signo
    then (if nat_lt queued QUEUED then pos 0 else negsuc 10)
    else pos 0))
    else negsuc 0

-- how many are queued after a post
abbrev pub queued_after : Sending → Option Face → ℕ → ℕ
queued_after m None queued = queued
queued_after m (Some face) queued =
    if may_signal m.from face.ids
    then (if is_quiet_at m face
    then queued
    else (if is_realtime m.signo
    then (if nat_lt queued QUEUED then queued + 1 else queued)
    else queued))
    else queued

-- whether a send to process s is answered differently at the two faces, one send after another,
-- each face with its own count of what is queued
unfoldable pub faces_differ : ℕ → List Sending → Option Face → ℕ → Option Face → ℕ → Bool
faces_differ s [] one first other second = false
faces_differ s (m ∷ ms) one first other second =
    let same = int_eq (answer_at m one first) (answer_at m other second) in
    let first_next = queued_after m one first in
    let second_next = queued_after m other second in
    if m.target == s
    then (if same then faces_differ s ms one first_next other second_next else true)
    else faces_differ s ms one first other second
