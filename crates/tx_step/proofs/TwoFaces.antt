-- How sends to a live starter are answered, by its faces.
use Rattle.std.proofs.Common.{◌≡◌, ℕ, ◌+◌, ◌<◌, ◌≤◌, Bool, true, false, not, ◌&&◌, List, [], ◌∷◌, length, replicate, Option, Some, None, is_some, if◌then◌else◌, nat_lt, refl, sym, ap, ◌∙◌, Result, ℤ, pos, zero, suc, map, drop, drop-cons, get_or, ◌++◌, ◌==◌, option_map, arith}
use Rattle.std.proofs.lemmas.Bool.{false≢true}
use Rattle.std.proofs.lemmas.Bool.Decides.{Decides-int_eq}
use Rattle.std.proofs.lemmas.List.{length-replicate}
use Rattle.tx_base.specs.declared.errors.Errno.{Errno}
use Rattle.tx_base.specs.declared.limits.TheConstants.{QUEUED}
use Rattle.tx_cred.specs.Cred.{ids_of}
use Rattle.std.specs.Ordering.{int_eq}
use Rattle.tx_base.specs.declared.names.Sending.{Sending as TheSending}
use Rattle.tx_step.specs.Faces.{both_posted_to, difference, face_as, faces_difference, is_target, posted_to, queued_at, starter_difference}
use Rattle.tx_step.specs.TwoAnswers.{answered_twice}
use Rattle.tx_step.specs.declared.differing.TwoAnswers.{TwoAnswers}
use Rattle.tx_step.specs.declared.faces.Faces.{Faces}
use Rattle.tx_kernel.specs.Plans.{sending_of}
use Rattle.tx_kernel.specs.Posts.{HasFace}
use Rattle.tx_kernel.specs.declared.posts.Face.{Face}
use Rattle.tx_model.specs.Posts.{may_signal, is_quiet, post_answer}
use Rattle.tx_model.specs.SignalSets.{is_realtime}
use Rattle.tx_model.specs.State.{Process, Sending, booted_process}
use Rattle.tx_signal.specs.Parts.{answer_of}
use Rattle.tx_txn.specs.KeptParts.{kept_as}
use Rattle.tx_txn.specs.declared.kept.Kept.{Kept}
use Rattle.tx_txn.specs.Faces.{Face as TheFace, answer_at, face_of, pending_in, running, faces_differ, is_quiet_at, queued_after}

-- a process that ended, or runs
abbrev status_of : Bool → Option ℕ
status_of true = Some 0
status_of false = None

-- a process with this face
abbrev process_with : Face → Process
process_with face = record (booted_process 1) { ids = ids_of face.ids; status = status_of face.ended; queued = replicate face.queued (record { signo = 0; value = pos 0 }) }

status_ended : (b : Bool) → b ≡ is_some (status_of b)
status_ended true = refl
status_ended false = refl

process_has : (face : Face) → HasFace face (process_with face)
process_has face = record { ids = refl; ended = status_ended face.ended; queued = sym (length-replicate face.queued (record { signo = 0; value = pos 0 })) }

-- what a post sees of a process with the face
face_same : (face : Face) (q : Process) → HasFace face q → record { ids = q.ids; ended = is_some q.status } ≡ face_as face
face_same face q h = λ j. record { ids = sym h.ids j; ended = sym h.ended j }

-- an answer that is that of each process with the face, the face tells
pub answer_told : (face : Face) (m : Sending) (r : Result (Unit {0}) Errno) → ((q : Process) → HasFace face q → answer_of r ≡ post_answer m (Some q)) →
    answer_of r ≡ answer_at m (Some (face_as face)) face.queued
answer_told face m r f =
    f (process_with face) (process_has face)
    ∙ (λ j. answer_at m (Some (face_same face (process_with face) (process_has face) j)) (sym (process_has face).queued j))

-- whether a post gets to what is pending
abbrev pub reaches_at : Sending → Face → Bool
reaches_at m face = may_signal m.from (ids_of face.ids) && not (is_quiet_at m (face_as face))

pub reach_told : (face : Face) (m : Sending) (b : Bool) → ((q : Process) → HasFace face q → b ≡ (may_signal m.from q.ids && not (is_quiet m q))) → b ≡ reaches_at m face
reach_told face m b f =
    f (process_with face) (process_has face)
    ∙ (λ j. may_signal m.from (face_same face (process_with face) (process_has face) j).ids && not (is_quiet_at m (face_same face (process_with face) (process_has face) j)))

-- how many are queued after a post, by whether it reaches what is pending
queued_told : (m : Sending) (face : Face) → queued_after m (Some (face_as face)) face.queued
    ≡ (if reaches_at m face then (if is_realtime m.signo then (if nat_lt face.queued QUEUED then face.queued + 1 else face.queued) else face.queued) else face.queued)
queued_told m face = by (may_signal m.from (ids_of face.ids)) (is_quiet_at m (face_as face))
  where
    more : ℕ
    more = if is_realtime m.signo then (if nat_lt face.queued QUEUED then face.queued + 1 else face.queued) else face.queued

    by : (a q : Bool) → (if a then (if q then face.queued else more) else face.queued) ≡ (if a && not q then more else face.queued)
    by true true = refl
    by true false = refl
    by false true = refl
    by false false = refl

-- the tests come out the same in another order
in_turn : (n : ℕ) (b r l : Bool) → (if b then (if r then (if l then n + 1 else n) else n) else n) ≡ (if r then (if l then (if b then n + 1 else n) else n) else n)
in_turn n true true true = refl
in_turn n true true false = refl
in_turn n true false l = refl
in_turn n false true true = refl
in_turn n false true false = refl
in_turn n false false l = refl

-- the face after a post, where it is known how the tests come out
pub face_after : (m : Sending) (face : Face) (b r l : Bool) → reaches_at m face ≡ b → is_realtime m.signo ≡ r → nat_lt face.queued QUEUED ≡ l →
    record face { queued = if r then (if l then (if b then face.queued + 1 else face.queued) else face.queued) else face.queued } ≡ posted_to m face
face_after m face b r l hb hr hl =
    ap (λ (n : ℕ). record face { queued = n }) (sym (queued_told m face ∙ (λ j. if hb j then (if hr j then (if hl j then face.queued + 1 else face.queued) else face.queued) else face.queued) ∙ in_turn face.queued b r l))

-- a send to another
pub post_elsewhere : (s : ℕ) (m : Sending) (ms : List Sending) (faces : Faces) → (m.target == s) ≡ false → difference s (m ∷ ms) faces ≡ difference s ms faces
unfolding faces_difference
post_elsewhere s m ms faces h = rw h refl

-- a send to it, which has these answers
post_here : (s : ℕ) (m : Sending) (ms : List Sending) (faces : Faces) (x y : ℤ) → (m.target == s) ≡ true →
    x ≡ answer_at m (option_map face_as faces.present) (queued_at faces.present) → y ≡ answer_at m (Some (face_as faces.kept)) faces.kept.queued →
    difference s (m ∷ ms) faces ≡ (if int_eq x y then difference s ms (both_posted_to m faces) else Some (answered_twice m x y))
unfolding faces_difference
post_here s m ms faces x y here now kept = rw here (λ j. if int_eq (sym now j) (sym kept j) then posted faces.present j else Some (answered_twice m (sym now j) (sym kept j)))
  where
    posted : (present : Option Face) →
        faces_difference s ms (option_map face_as present) (queued_after m (option_map face_as present) (queued_at present)) (Some (face_as faces.kept)) (queued_after m (Some (face_as faces.kept)) faces.kept.queued)
        ≡ difference s ms (both_posted_to m (record faces { present = present }))
    posted None = refl
    posted (Some face) = refl

-- one whose answers are the same, and one whose are not
pub post_same : (s : ℕ) (m : Sending) (ms : List Sending) (faces : Faces) (x y : ℤ) → (m.target == s) ≡ true →
    x ≡ answer_at m (option_map face_as faces.present) (queued_at faces.present) → y ≡ answer_at m (Some (face_as faces.kept)) faces.kept.queued →
    x ≡ y → difference s (m ∷ ms) faces ≡ difference s ms (both_posted_to m faces)
post_same s m ms faces x y here now kept same =
    post_here s m ms faces x y here now kept
    ∙ ap (λ (b : Bool). if b then difference s ms (both_posted_to m faces) else Some (answered_twice m x y)) ((Decides-int_eq x y).1 same)

pub post_otherwise : (s : ℕ) (m : Sending) (ms : List Sending) (faces : Faces) (x y : ℤ) → (m.target == s) ≡ true →
    x ≡ answer_at m (option_map face_as faces.present) (queued_at faces.present) → y ≡ answer_at m (Some (face_as faces.kept)) faces.kept.queued →
    (x ≡ y → ⊥) → difference s (m ∷ ms) faces ≡ Some (answered_twice m x y)
post_otherwise s m ms faces x y here now kept other =
    post_here s m ms faces x y here now kept ∙ by (int_eq x y) (λ e. other ((Decides-int_eq x y).0 e))
  where
    by : (b : Bool) → (b ≡ true → ⊥) → (if b then difference s ms (both_posted_to m faces) else Some (answered_twice m x y)) ≡ Some (answered_twice m x y)
    by true never = absurd (never refl)
    by false never = refl

pub sends_end : (ms : List TheSending) (i : ℕ) → length ms ≤ i → map sending_of (drop i ms) ≡ []
sends_end [] zero few = refl
sends_end [] (suc i) few = refl
sends_end (m ∷ ms) zero few = let never : ⊥ = omega (arith, few) in absurd never
sends_end (m ∷ ms) (suc i) few = sends_end ms i (omega (arith, few))

-- a list from one of its sends on is that send, and the list from the next on
pub difference_next : (s : ℕ) (ms : List TheSending) (i : ℕ) (d : TheSending) (rest : List Sending) (faces : Faces) → i < length ms →
    difference s (sending_of (get_or ms i d) ∷ (map sending_of (drop (i + 1) ms) ++ rest)) faces ≡ difference s (map sending_of (drop i ms) ++ rest) faces
difference_next s ms i d rest faces few =
    let next : suc i ≡ i + 1 = omega arith in
    sym (ap (λ (xs : List TheSending). difference s (map sending_of xs ++ rest) faces) (drop-cons ms i d few)
    ∙ ap (λ (k : ℕ). difference s (sending_of (get_or ms i d) ∷ (map sending_of (drop k ms) ++ rest)) faces) next)

pub none_is : {A : Type 0} (x : Option A) → is_some x ≡ false → x ≡ None
none_is None h = refl
none_is (Some item) h = cc

pub none_otherwise : (s : ℕ) (faces : Faces) → difference s [] faces ≡ None
unfolding faces_difference
none_otherwise s faces = refl

-- what is kept of a starter has the face with which it would run
kept_same : (face : Face) (kept : Kept) → ((me : Process) → HasFace face (kept_as kept me)) → face_as face ≡ running (ids_of kept.ids)
kept_same face kept f = sym (face_same face (kept_as kept (booted_process 1)) (f (booted_process 1)))

-- the faces of a starter tell which send to it is answered otherwise
pub faces_told : (s : ℕ) (faces : Faces) (x : Option Process) (kept : Kept) → option_map face_as faces.present ≡ face_of x → queued_at faces.present ≡ length (pending_in x).queued →
    ((me : Process) → HasFace faces.kept (kept_as kept me)) → (ms : List Sending) → difference s ms faces ≡ starter_difference s ms x kept
faces_told s faces x kept face queued f ms =
    λ j. faces_difference s ms (face j) (queued j) (Some (kept_same faces.kept kept f j)) ((f (booted_process 1)).queued j)

-- whether one is
pub difference_told : (s : ℕ) (ms : List Sending) (one other : Option TheFace) (first second : ℕ) → is_some (faces_difference s ms one first other second) ≡ faces_differ s ms one first other second
unfolding faces_differ faces_difference
difference_told s [] one other first second = refl
difference_told s (m ∷ ms) one other first second =
    by (m.target == s) (int_eq (answer_at m one first) (answer_at m other second)) _ _ _ _ (difference_told s ms one other (queued_after m one first) (queued_after m other second)) (difference_told s ms one other first second)
  where
    by : (b same : Bool) (x y : Option TwoAnswers) (p q : Bool) → is_some x ≡ p → is_some y ≡ q →
        is_some (if b then (if same then x else Some (answered_twice m (answer_at m one first) (answer_at m other second))) else y) ≡ (if b then (if same then p else true) else q)
    by true true x y p q h k = h
    by true false x y p q h k = refl
    by false same x y p q h k = k

-- sends of which one is answered otherwise have one to that process
pub difference_target : (s : ℕ) (ms : List Sending) (one other : Option TheFace) (first second : ℕ) → is_some (faces_difference s ms one first other second) ≡ true → is_target s ms ≡ true
unfolding faces_difference is_target
difference_target s [] one other first second h = absurd (false≢true h)
difference_target s (m ∷ ms) one other first second h = by (m.target == s) _ _ h (difference_target s ms one other first second)
  where
    by : (b : Bool) (x y : Option TwoAnswers) → is_some (if b then x else y) ≡ true → (is_some y ≡ true → is_target s ms ≡ true) → (if b then true else is_target s ms) ≡ true
    by true x y k rest = refl
    by false x y k rest = rest k
