-- The first send to a starter that is answered otherwise without its transaction.
use Rattle.std.proofs.Common.{◌≡◌, ℕ, Bool, true, false, List, [], ◌∷◌, ◌++◌, length, Option, Some, None, if◌then◌else◌, ◌==◌, option_map, refl, sym, ap, subst, ◌∙◌, eq-eqb, eqb-true}
use Rattle.std.proofs.lemmas.Bool.{both_ways}
use Rattle.std.specs.Ordering.{int_eq}
use Rattle.tx_base.specs.Slots.{slot_at}
use Rattle.tx_change.specs.States.{changed_by}
use Rattle.tx_laws.specs.LawsOfEvents.{WritesStayInObjects}
use Rattle.tx_laws.specs.LawsOfTwoStates.{PresentIsNow}
use Rattle.tx_laws.specs.TwoStates.{states_view}
use Rattle.tx_content.specs.Content.{content_of, now_of, owner_at, txn_of, view_of}
use Rattle.tx_content.specs.declared.content.BoxedTxn.{BoxedTxn}
use Rattle.tx_content.specs.declared.content.Content.{Content}
use Rattle.tx_model.specs.Effects.{send_answers}
use Rattle.tx_model.specs.Events.{Event, actor, effect, objects}
use Rattle.tx_model.specs.History.{event_footprint, just, targets}
use Rattle.tx_model.specs.ObjectFacts.{has_left}
use Rattle.tx_model.specs.Posts.{after_post, post_answer, post_answers, target_after}
use Rattle.tx_model.specs.State.{Object, Proc, Process, Sending, State, has_object}
use Rattle.tx_model.specs.StateLaws.{put_here, put_there}
use Rattle.tx_model.specs.Words.{before_sends}
use Rattle.tx_proc.specs.Parts.{process_in}
use Rattle.tx_signal.specs.Parts.{PendingView}
use Rattle.tx_step.proofs.WholeContents.{now_seen}
use Rattle.tx_step.specs.Contents.{IsContent}
use Rattle.tx_step.specs.Faces.{faces_difference, starter_difference}
use Rattle.tx_step.specs.TwoAnswers.{answered_twice, difference_at, first_difference}
use Rattle.tx_txn.specs.Content.{kept_of, overlay}
use Rattle.tx_txn.specs.Faces.{Face, answer_at, face_of, pending_in, queued_after, running}
use Rattle.tx_txn.specs.Laws.{PostIsAnsweredByFace, PostLeavesFace, PostLeavesQueued}
use Rattle.tx_txn.specs.Marks.{table_at}

-- how many signals are queued at a process
abbrev count : Option Process → ℕ
count x = length (pending_in x).queued

-- a process after a post to it, and after one to another
sent_here : (s : ℕ) (m : Sending) (S : State) → m.target ≡ s → (after_post m S).procs s ≡ target_after m (S.procs s)
sent_here s m S here =
    subst (λ (n : ℕ). (after_post m S).procs n ≡ target_after m (S.procs n)) here (put_here S.procs m.target (target_after m (S.procs m.target)))

sent_elsewhere : (s : ℕ) (m : Sending) (S : State) → (m.target == s) ≡ false → (after_post m S).procs s ≡ S.procs s
sent_elsewhere s m S other =
    put_there S.procs m.target (target_after m (S.procs m.target)) s (λ z. both_ways (m.target == s) other (eq-eqb m.target s (sym z)))

-- which post to s is answered otherwise in the one state than in the other, the faces of s tell
module _ (answered : PostIsAnsweredByFace) (stays : PostLeavesFace) (queued : PostLeavesQueued) where
  difference_posts : (s : ℕ) (ms : List Sending) (S R : State) → first_difference s ms (post_answers ms S) (post_answers ms R)
      ≡ faces_difference s ms (face_of (S.procs s)) (count (S.procs s)) (face_of (R.procs s)) (count (R.procs s))
  unfolding first_difference faces_difference post_answers
  difference_posts s [] S R = refl
  difference_posts s (m ∷ ms) S R = by (m.target == s) refl (difference_posts s ms (after_post m S) (after_post m R))
    where
      by : (b : Bool) → (m.target == s) ≡ b →
          first_difference s ms (post_answers ms (after_post m S)) (post_answers ms (after_post m R))
          ≡ faces_difference s ms (face_of ((after_post m S).procs s)) (count ((after_post m S).procs s)) (face_of ((after_post m R).procs s)) (count ((after_post m R).procs s)) →
          (if b
          then (if int_eq (post_answer m (S.procs m.target)) (post_answer m (R.procs m.target))
          then first_difference s ms (post_answers ms (after_post m S)) (post_answers ms (after_post m R))
          else Some (answered_twice m (post_answer m (S.procs m.target)) (post_answer m (R.procs m.target))))
          else first_difference s ms (post_answers ms (after_post m S)) (post_answers ms (after_post m R)))
          ≡ (if b
          then (if int_eq (answer_at m (face_of (S.procs s)) (count (S.procs s))) (answer_at m (face_of (R.procs s)) (count (R.procs s)))
          then faces_difference s ms (face_of (S.procs s)) (queued_after m (face_of (S.procs s)) (count (S.procs s))) (face_of (R.procs s)) (queued_after m (face_of (R.procs s)) (count (R.procs s)))
          else Some (answered_twice m (answer_at m (face_of (S.procs s)) (count (S.procs s))) (answer_at m (face_of (R.procs s)) (count (R.procs s)))))
          else faces_difference s ms (face_of (S.procs s)) (count (S.procs s)) (face_of (R.procs s)) (count (R.procs s)))
      by true e rest = λ j. if int_eq (told S j) (told R j) then tail j else Some (answered_twice m (told S j) (told R j))
        where
          here : m.target ≡ s
          here = eqb-true m.target s e

          told : (T : State) → post_answer m (T.procs m.target) ≡ answer_at m (face_of (T.procs s)) (count (T.procs s))
          told T = ap (λ (n : ℕ). post_answer m (T.procs n)) here ∙ answered m (T.procs s)

          face : (T : State) → face_of ((after_post m T).procs s) ≡ face_of (T.procs s)
          face T = ap face_of (sent_here s m T here) ∙ stays m (T.procs s)

          more : (T : State) → count ((after_post m T).procs s) ≡ queued_after m (face_of (T.procs s)) (count (T.procs s))
          more T = ap count (sent_here s m T here) ∙ queued m (T.procs s)

          tail : first_difference s ms (post_answers ms (after_post m S)) (post_answers ms (after_post m R))
              ≡ faces_difference s ms (face_of (S.procs s)) (queued_after m (face_of (S.procs s)) (count (S.procs s))) (face_of (R.procs s)) (queued_after m (face_of (R.procs s)) (count (R.procs s)))
          tail = rest ∙ (λ j. faces_difference s ms (face S j) (more S j) (face R j) (more R j))
      by false e rest =
          rest
          ∙ (λ j. faces_difference s ms (face_of (sent_elsewhere s m S e j)) (count (sent_elsewhere s m S e j)) (face_of (sent_elsewhere s m R e j)) (count (sent_elsewhere s m R e j)))

-- what is no object of two lists is none of the first
not_left : (o : Object) (xs ys : List Object) → has_object o (xs ++ ys) ≡ false → has_object o xs ≡ false
not_left o xs ys out = by (has_object o xs) refl
  where
    by : (b : Bool) → has_object o xs ≡ b → b ≡ false
    by true e = absurd (both_ways (has_object o (xs ++ ys)) out (has_left o xs ys e))
    by false e = refl

-- a process with a pending part put over it has that part
laid : (P : PendingView) (x : Option Process) (face : Face) → face_of (overlay P x) ≡ Some face → pending_in (overlay P x) ≡ P
laid P None face h = cc
laid P (Some q) face h = refl

module _ (k : Content) (is : IsContent k) (s : ℕ) where
  -- a starter without its transaction
  abbrev left : Option Process
  left = ((view_of k).without (just s)).procs s

  module _ (boxed : BoxedTxn) (there : slot_at k.txns s ≡ Some boxed) where
    own : owner_at k (Proc s) ≡ Some s
    own = let txn = is.shaped.each s boxed there in txn.own s txn.live

    is_kept : left ≡ (kept_of (content_of k)).procs s
    unfolding view_of states_view
    is_kept = rw own (rw (eq-eqb s s refl) refl)

    led : (kept_of (content_of k)).procs s ≡ overlay boxed.txn.value.kept.pending ((changed_by (txn_of boxed).log (now_of k)).procs s)
    unfolding kept_of
    led = rw own (rw there (rw (eq-eqb s s refl) refl))

    face_left : face_of left ≡ Some (running (txn_of boxed).ids)
    face_left = ap face_of is_kept ∙ is.kept.starter s (txn_of boxed) (ap (option_map txn_of) there)

    count_left : count left ≡ length boxed.txn.value.kept.pending.queued
    count_left =
        ap count (is_kept ∙ led)
        ∙ ap (λ (P : PendingView). length P.queued)
        (laid boxed.txn.value.kept.pending ((changed_by (txn_of boxed).log (now_of k)).procs s) (running (txn_of boxed).ids) (sym (ap face_of (is_kept ∙ led)) ∙ face_left))

  module _ (seen : PresentIsNow) (event : Event) (out : has_object (Proc s) (event_footprint (table_at k.marks) event (now_of k)) ≡ false) where
    not_object : has_object (Proc s) (objects event (now_of k)) ≡ false
    unfolding event_footprint
    not_object = not_left (Proc s) (objects event (now_of k)) (targets (table_at k.marks) (actor event) (effect event (now_of k)).sends) out

    difference_now : difference_at (view_of k) event s
        ≡ first_difference s (effect event (now_of k)).sends (send_answers (effect event (now_of k)) (now_of k)) (send_answers (effect event (now_of k)) ((view_of k).without (just s)))
    difference_now = ap (λ (S : State). first_difference s (effect event S).sends (send_answers (effect event S) S) (send_answers (effect event S) ((view_of k).without (just s)))) (now_seen seen k)

    -- of a starter, what is kept of it tells
    pub difference_kept : WritesStayInObjects → PostIsAnsweredByFace → PostLeavesFace → PostLeavesQueued → (boxed : BoxedTxn) → slot_at k.txns s ≡ Some boxed →
        difference_at (view_of k) event s ≡ starter_difference s (effect event (now_of k)).sends (process_in (slot_at k.parts.procs s)) boxed.txn.value.kept
    difference_kept writes answered stays queued boxed there =
        let f = effect event (now_of k) in
        let W = (view_of k).without (just s) in
        let now : (before_sends f (now_of k)).procs s ≡ (now_of k).procs s = writes event (now_of k) (now_of k) (Proc s) not_object in
        let kept : (before_sends f W).procs s ≡ W.procs s = writes event (now_of k) W (Proc s) not_object in
        difference_now
        ∙ difference_posts answered stays queued s f.sends (before_sends f (now_of k)) (before_sends f W)
        ∙ (λ j. faces_difference s f.sends (face_of (now j)) (count (now j)) (face_of (kept j)) (count (kept j)))
        ∙ (λ j. faces_difference s f.sends (face_of ((now_of k).procs s)) (count ((now_of k).procs s)) (face_left boxed there j) (count_left boxed there j))
