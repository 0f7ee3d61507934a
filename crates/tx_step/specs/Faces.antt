-- How sends to the starter of a live transaction are answered, now and after its abort.
use Rattle.std.specs.Prelude.{ℕ, Bool, true, false, List, [], ◌∷◌, ◌++◌, length, map, Option, Some, None, option_map, is_some, if◌then◌else◌, ◌==◌}
use Rattle.std.specs.Ordering.{int_eq}
use Rattle.tx_base.specs.declared.names.Sending.{Sending}
use Rattle.tx_cred.specs.Cred.{ids_of}
use Rattle.tx_step.specs.declared.faces.Faces.{Faces}
use Rattle.tx_kernel.specs.Plans.{sending_of, sent_at_once}
use Rattle.tx_kernel.specs.declared.planned.Sends.{Sends}
use Rattle.tx_kernel.specs.declared.planned.Sends.TheVariants.{Nothing, AtOnce, AtCommit}
use Rattle.tx_kernel.specs.declared.posts.Face.{Face}
use Rattle.tx_model.specs.State.{Process, Sending as TheSending}
use Rattle.tx_step.specs.TwoAnswers.{answered_twice}
use Rattle.tx_step.specs.declared.differing.TwoAnswers.{TwoAnswers}
use Rattle.tx_txn.specs.Faces.{Face as TheFace, answer_at, face_of, pending_in, queued_after, running}
use Rattle.tx_txn.specs.declared.kept.Kept.{Kept}

-- the face, but for how many signals are queued
abbrev pub face_as : Face → TheFace
face_as face = record { ids = ids_of face.ids; ended = face.ended }

-- how many signals are queued at a process with this face
abbrev pub queued_at : Option Face → ℕ
queued_at None = 0
queued_at (Some face) = face.queued

-- the face after a post
abbrev pub posted_to : TheSending → Face → Face
posted_to m face = record face { queued = queued_after m (Some (face_as face)) face.queued }

-- both faces after a post
abbrev pub both_posted_to : TheSending → Faces → Faces
both_posted_to m faces =
    record { present = option_map (posted_to m) faces.present; kept = posted_to m faces.kept }

-- what a step hands out to be held
abbrev pub sent_at_commit : Sends → List TheSending
sent_at_commit Nothing = []
sent_at_commit (AtOnce m) = []
sent_at_commit (AtCommit m) = sending_of m ∷ []

-- what a step sends at once, what is held, and last what it hands out
abbrev pub sent : Sends → List Sending → List TheSending
sent first held = sent_at_once first ++ (map sending_of held ++ sent_at_commit first)

-- the first of these sends to process s that is answered differently at the two faces, one send
-- after another, each face with its own count of what is queued
unfoldable pub faces_difference : ℕ → List TheSending → Option TheFace → ℕ → Option TheFace → ℕ
    → Option TwoAnswers
faces_difference s [] one first other second = None
faces_difference s (m ∷ ms) one first other second =
    let mine = answer_at m one first in
    let theirs = answer_at m other second in
    if m.target == s
    then (if int_eq mine theirs
    then faces_difference s ms one (queued_after m one first) other (queued_after m other second)
    else Some (answered_twice m mine theirs))
    else faces_difference s ms one first other second

-- the first of these sends to s that is answered differently now than after an abort
abbrev pub difference : ℕ → List TheSending → Faces → Option TwoAnswers
difference s ms faces =
    faces_difference s ms (option_map face_as faces.present) (queued_at faces.present)
    (Some (face_as faces.kept)) faces.kept.queued

-- the same of the starter s by its process, and by what is kept of it
abbrev pub starter_difference : ℕ → List TheSending → Option Process → Kept → Option TwoAnswers
starter_difference s ms x kept =
    faces_difference s ms (face_of x) (length (pending_in x).queued)
    (Some (running (ids_of kept.ids))) (length kept.pending.queued)

-- whether there is one
abbrev pub starter_differs : ℕ → List TheSending → Option Process → Kept → Bool
starter_differs s ms x kept = is_some (starter_difference s ms x kept)

-- whether one of these sends goes to s
unfoldable pub is_target : ℕ → List TheSending → Bool
is_target s [] = false
is_target s (m ∷ ms) = if m.target == s then true else is_target s ms
