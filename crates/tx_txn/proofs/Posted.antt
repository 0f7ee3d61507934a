-- What posts do at a process, by its face and by what is pending there.
use Rattle.std.proofs.Common.{◌≡◌, ℕ, ◌+◌, Bool, true, false, List, [], ◌∷◌, length, length-append, Option, Some, None, if◌then◌else◌, ◌==◌, refl, sym, ap, ap₂, ◌∙◌, subst, inl, inr, eqb-true, eq-eqb}
use Rattle.std.specs.Ordering.{int_eq}
use Rattle.tx_laws.specs.Fits.{IsIn}
use Rattle.tx_laws.specs.TwoAnswers.{differs_by}
use Rattle.tx_model.specs.Posts.{may_signal, is_quiet, has_room, with_signal, target_after, post_answer, after_post, after_posts}
use Rattle.tx_model.specs.Words.{with_queued, with_pending}
use Rattle.tx_model.specs.SignalSets.{is_realtime}
use Rattle.tx_model.specs.State.{Process, State, Sending, Object, Proc, Desc, Pipe, Held, same_object}
use Rattle.tx_signal.specs.Parts.{PendingView, alone, pending_of}
use Rattle.tx_txn.specs.Content.{overlay_if}
use Rattle.tx_txn.specs.Faces.{Face, face_of, pending_in, pending_after, pending_by, answer_at, queued_after, faces_differ}
use Rattle.tx_txn.specs.Steps.{AgreeBut}
use Rattle.tx_txn.proofs.Facts.{eq_comm, part_refl}
use Rattle.tx_txn.proofs.Overlays.{blank, but_part, but_trans}

chosen_blank : (b : Bool) (x y q : Process) → blank (Some x) ≡ blank (Some q) → blank (Some y) ≡ blank (Some q) → blank (Some (if b then x else y)) ≡ blank (Some q)
chosen_blank true x y q h k = h
chosen_blank false x y q h k = k

-- a post changes no more than what is pending
received_blank : (m : Sending) (x : Option Process) → blank (target_after m x) ≡ blank x
received_blank m None = refl
received_blank m (Some q) =
    chosen_blank (may_signal m.from q.ids) (if is_quiet m q then q else with_signal m q) q q
    (chosen_blank (is_quiet m q) q (with_signal m q) q refl
    (chosen_blank (is_realtime m.signo) (if has_room q then with_queued m q else q) (with_pending m.signo q) q
    (chosen_blank (has_room q) (with_queued m q) q q refl refl) refl)) refl

face_blank : (x : Option Process) → face_of (blank x) ≡ face_of x
face_blank None = refl
face_blank (Some q) = refl

-- the face stays
pub face_received : (m : Sending) (x : Option Process) → face_of (target_after m x) ≡ face_of x
face_received m x = sym (face_blank (target_after m x)) ∙ ap face_of (received_blank m x) ∙ face_blank x

pub pending_received : (m : Sending) (x : Option Process) → pending_in (target_after m x) ≡ pending_after m (face_of x) (pending_in x)
pending_received m None = refl
pending_received m (Some q) = by (may_signal m.from q.ids) (is_quiet m q) (is_realtime m.signo) (has_room q)
  where
    by : (a b r d : Bool) → pending_of (if a then (if b then q else (if r then (if d then with_queued m q else q) else with_pending m.signo q)) else q)
        ≡ (if a then (if b then pending_of q else pending_of (if r then (if d then with_queued m (alone (pending_of q)) else alone (pending_of q)) else with_pending m.signo (alone (pending_of q)))) else pending_of q)
    by false b r d = refl
    by true true r d = refl
    by true false true true = refl
    by true false true false = refl
    by true false false d = refl

-- how many signals are queued at a process
abbrev pub queued_in : Option Process → ℕ
queued_in x = length (pending_in x).queued

pub answer_received : (m : Sending) (x : Option Process) → post_answer m x ≡ answer_at m (face_of x) (queued_in x)
answer_received m None = refl
answer_received m (Some q) = refl

pub queued_received : (m : Sending) (x : Option Process) → queued_in (target_after m x) ≡ queued_after m (face_of x) (queued_in x)
queued_received m None = refl
queued_received m (Some q) = by (may_signal m.from q.ids) (is_quiet m q) (is_realtime m.signo) (has_room q)
  where
    by : (a b r d : Bool) → length (pending_of (if a then (if b then q else (if r then (if d then with_queued m q else q) else with_pending m.signo q)) else q)).queued
        ≡ (if a then (if b then length q.queued else (if r then (if d then length q.queued + 1 else length q.queued) else length q.queued)) else length q.queued)
    by false b r d = refl
    by true true r d = refl
    by true false true true = length-append q.queued (record { signo = m.signo; value = m.value } ∷ [])
    by true false true false = refl
    by true false false d = refl

-- whether sends to s are answered otherwise, the faces and the lengths of the queues tell
pub differs_faces : (s : ℕ) (ms : List Sending) (x y : Option Process) → differs_by s ms x y ≡ faces_differ s ms (face_of x) (queued_in x) (face_of y) (queued_in y)
unfolding differs_by faces_differ
differs_faces s [] x y = refl
differs_faces s (m ∷ ms) x y = by (m.target == s) (differs_faces s ms (target_after m x) (target_after m y)) (differs_faces s ms x y)
  where
    by : (b : Bool) → differs_by s ms (target_after m x) (target_after m y) ≡ faces_differ s ms (face_of (target_after m x)) (queued_in (target_after m x)) (face_of (target_after m y)) (queued_in (target_after m y))
        → differs_by s ms x y ≡ faces_differ s ms (face_of x) (queued_in x) (face_of y) (queued_in y)
        → (if b then (if int_eq (post_answer m x) (post_answer m y) then differs_by s ms (target_after m x) (target_after m y) else true) else differs_by s ms x y)
        ≡ (if b then (if int_eq (answer_at m (face_of x) (queued_in x)) (answer_at m (face_of y) (queued_in y))
        then faces_differ s ms (face_of x) (queued_after m (face_of x) (queued_in x)) (face_of y) (queued_after m (face_of y) (queued_in y)) else true)
        else faces_differ s ms (face_of x) (queued_in x) (face_of y) (queued_in y))
    by true sent rest =
        ap₂ (λ (d q : Bool). if d then q else true) (ap₂ int_eq (answer_received m x) (answer_received m y))
        (sent
        ∙ ap₂ (λ (f : Option Face) (n : ℕ). faces_differ s ms f n (face_of (target_after m y)) (queued_in (target_after m y))) (face_received m x) (queued_received m x)
        ∙ ap₂ (λ (f : Option Face) (n : ℕ). faces_differ s ms (face_of x) (queued_after m (face_of x) (queued_in x)) f n) (face_received m y) (queued_received m y))
    by false sent rest = rest

-- a process after one post, which goes to it or to another one
post_at : (s : ℕ) (m : Sending) (S : State) → (after_post m S).procs s ≡ (if m.target == s then target_after m (S.procs s) else S.procs s)
post_at s m S = rw (eq_comm s m.target) (by (m.target == s) (λ e. eqb-true m.target s e))
  where
    by : (b : Bool) → (b ≡ true → m.target ≡ s) → (if b then target_after m (S.procs m.target) else S.procs s) ≡ (if b then target_after m (S.procs s) else S.procs s)
    by true e = ap (λ (n : ℕ). target_after m (S.procs n)) (e refl)
    by false e = refl

face_if : (b : Bool) (m : Sending) (x : Option Process) → face_of (if b then target_after m x else x) ≡ face_of x
face_if true m x = face_received m x
face_if false m x = refl

pending_if : (b : Bool) (m : Sending) (x : Option Process) → pending_in (if b then target_after m x else x) ≡ (if b then pending_after m (face_of x) (pending_in x) else pending_in x)
pending_if true m x = pending_received m x
pending_if false m x = refl

pub face_posts : (s : ℕ) (ms : List Sending) (S : State) → face_of ((after_posts ms S).procs s) ≡ face_of (S.procs s)
unfolding after_posts
face_posts s [] S = refl
face_posts s (m ∷ ms) S = face_posts s ms (after_post m S) ∙ ap face_of (post_at s m S) ∙ face_if (m.target == s) m (S.procs s)

pub pending_posts : (s : ℕ) (ms : List Sending) (S : State) → pending_in ((after_posts ms S).procs s) ≡ pending_by s ms (face_of (S.procs s)) (pending_in (S.procs s))
unfolding after_posts pending_by
pending_posts s [] S = refl
pending_posts s (m ∷ ms) S =
    pending_posts s ms (after_post m S)
    ∙ ap₂ (λ (f : Option Face) (P : PendingView). pending_by s ms f P)
    (ap face_of (post_at s m S) ∙ face_if (m.target == s) m (S.procs s))
    (ap pending_in (post_at s m S) ∙ pending_if (m.target == s) m (S.procs s))

-- if a send goes to the object, then to process t
abbrev pub GoTo : ℕ → Object → List Sending → Type 0
GoTo t o ms = (m : Sending) → IsIn m ms → same_object o (Proc m.target) ≡ true → m.target ≡ t

post_but : (t : ℕ) (m : Sending) (S : State) (o : Object) → (same_object o (Proc m.target) ≡ true → m.target ≡ t) → AgreeBut t (after_post m S) S o
post_but t m S (Proc n) to = by (n == m.target) refl
  where
    by : (b : Bool) → (n == m.target) ≡ b → overlay_if (n == t) (pending_in None) (if b then target_after m (S.procs m.target) else S.procs n) ≡ overlay_if (n == t) (pending_in None) (S.procs n)
    by true e =
        let z : n ≡ m.target = eqb-true n m.target e in
        let mine : (n == t) ≡ true = eq-eqb n t (z ∙ to e) in
        rw mine (subst (λ (k : ℕ). blank (target_after m (S.procs k)) ≡ blank (S.procs n)) z (received_blank m (S.procs n)))
    by false e = refl
post_but t m S (Desc n) to = refl
post_but t m S (Pipe n) to = refl
post_but t m S (Held n) to = refl

-- posts change at such an object no more than what is pending
pub posts_but : (t : ℕ) (ms : List Sending) (S : State) (o : Object) → GoTo t o ms → AgreeBut t (after_posts ms S) S o
unfolding after_posts
posts_but t [] S o to = but_part t S S o (part_refl S o)
posts_but t (m ∷ ms) S o to = but_trans t (after_posts ms (after_post m S)) (after_post m S) S o (posts_but t ms (after_post m S) o (λ n i. to n (inr i))) (post_but t m S o (to m (inl refl)))

pub posts_held : (ms : List Sending) (S : State) (n : ℕ) → (after_posts ms S).held n ≡ S.held n
unfolding after_posts
posts_held [] S n = refl
posts_held (m ∷ ms) S n = posts_held ms (after_post m S) n
