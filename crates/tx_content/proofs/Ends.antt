-- The event that commits a transaction: the last member's event, and then the posts of what is held.
use Rattle.std.proofs.Common.{◌≡◌, ℕ, ℤ, pos, negsuc, true, List, [], ◌∷◌, ◌++◌, refl, sym, ap, ◌∙◌}
use Rattle.tx_base.specs.declared.names.Missed.{Missed}
use Rattle.tx_base.specs.declared.steps.Reply.TheVariants.{Committed}
use Rattle.tx_laws.specs.TwoStates.{made}
use Rattle.tx_content.specs.HeldPosts.{IsEnd}
use Rattle.tx_model.specs.Effects.{after_conclusion, concluding_reply, failed_errno, failed_sends, send_answers, AnswersPost, Conclusion, ListsFailed, Replies}
use Rattle.tx_model.specs.Events.{Commit, Do, Event, Note, effect, reply_of}
use Rattle.tx_model.specs.Membership.{says_ended}
use Rattle.tx_model.specs.Posts.{post_answers, after_post, post_answer, after_posts}
use Rattle.tx_model.specs.State.{Sending, SetHeld, State, Write, write_one, with_writes}

written_next : (ws : List Write) (w : Write) (S : State) → with_writes (ws ++ w ∷ []) S ≡ write_one w (with_writes ws S)
unfolding with_writes
written_next [] w S = refl
written_next (x ∷ ws) w S = written_next ws w (write_one x S)

posts_behind : (ms ns : List Sending) (S : State) → after_posts (ms ++ ns) S ≡ after_posts ns (after_posts ms S)
unfolding after_posts
posts_behind [] ns S = refl
posts_behind (m ∷ ms) ns S = posts_behind ms ns (after_post m S)

-- posts leave what is held
posts_hold : (ms : List Sending) (S : State) → (after_posts ms S).held ≡ S.held
unfolding after_posts
posts_hold [] S = refl
posts_hold (m ∷ ms) S = posts_hold ms (after_post m S)

posts_emptied : (ms : List Sending) (s : ℕ) (S : State) → after_posts ms (write_one (SetHeld s []) S) ≡ write_one (SetHeld s []) (after_posts ms S)
unfolding after_posts
posts_emptied [] s S = refl
posts_emptied (m ∷ ms) s S = posts_emptied ms s (after_post m S)

-- the conclusion of an event that ends the part of its process changes nothing
concludes_so : (c : Conclusion) (ms : List Sending) (rs : List ℤ) → says_ended (concluding_reply c ms rs) ≡ true → (S : State) → after_conclusion c rs S ≡ S
concludes_so (Replies r) ms rs ends S = refl
concludes_so (AnswersPost p) ms rs ends S = cc
concludes_so ListsFailed ms rs ends S = refl

end_concludes : (ev : Event) (S R : State) → IsEnd ev S → after_conclusion (effect ev S).conclusion (send_answers (effect ev S) S) R ≡ R
unfolding effect reply_of
end_concludes (Do step inside) S R end = concludes_so (effect (Do step inside) S).conclusion (effect (Do step inside) S).sends (send_answers (effect (Do step inside) S) S) end R
end_concludes (Note p r) S R end = refl
end_concludes (Commit s ev) S R end = absurd end

end_made : (ev : Event) (S : State) → IsEnd ev S → made ev S S ≡ after_posts (effect ev S).sends (with_writes (effect ev S).writes S)
end_made ev S end = end_concludes ev S (after_posts (effect ev S).sends (with_writes (effect ev S).writes S)) end

-- what is held is not changed by the event's own posts
end_holds : (ev : Event) (S : State) (s : ℕ) → IsEnd ev S → (with_writes (effect ev S).writes S).held s ≡ (made ev S S).held s
end_holds ev S s end = sym (ap (λ (R : State). R.held s) (end_made ev S end) ∙ (λ j. posts_hold (effect ev S).sends (with_writes (effect ev S).writes S) j s))

pub commit_sends : (s : ℕ) (ev : Event) (S : State) → IsEnd ev S → (effect (Commit s ev) S).sends ≡ (effect ev S).sends ++ (made ev S S).held s
unfolding effect
commit_sends s ev S end = ap (λ (ms : List Sending). (effect ev S).sends ++ ms) (end_holds ev S s end)

pub commit_made : (s : ℕ) (ev : Event) (S : State) → IsEnd ev S → made (Commit s ev) S S ≡ after_posts ((made ev S S).held s) (write_one (SetHeld s []) (made ev S S))
unfolding effect
commit_made s ev S end =
    ap (after_posts ((effect ev S).sends ++ (with_writes (effect ev S).writes S).held s)) (written_next (effect ev S).writes (SetHeld s []) S)
    ∙ posts_behind (effect ev S).sends ((with_writes (effect ev S).writes S).held s) (write_one (SetHeld s []) (with_writes (effect ev S).writes S))
    ∙ ap (after_posts ((with_writes (effect ev S).writes S).held s)) (posts_emptied (effect ev S).sends s (with_writes (effect ev S).writes S))
    ∙ (λ j. after_posts (end_holds ev S s end j) (write_one (SetHeld s []) (sym (end_made ev S end) j)))

-- posts are answered one after another
answers_behind : (ms ns : List Sending) (S : State) → post_answers (ms ++ ns) S ≡ post_answers ms S ++ post_answers ns (after_posts ms S)
unfolding post_answers after_posts
answers_behind [] ns S = refl
answers_behind (m ∷ ms) ns S = ap (λ (rs : List ℤ). post_answer m (S.procs m.target) ∷ rs) (answers_behind ms ns (after_post m S))

-- what is held has no part in the answers
answers_emptied : (ms : List Sending) (s : ℕ) (S : State) → post_answers ms (write_one (SetHeld s []) S) ≡ post_answers ms S
unfolding post_answers
answers_emptied [] s S = refl
answers_emptied (m ∷ ms) s S = ap (λ (rs : List ℤ). post_answer m (S.procs m.target) ∷ rs) (answers_emptied ms s (after_post m S))

-- the failures of the first sends, and then those of the rest
failed_behind : (ms ns : List Sending) (rs : List ℤ) (S : State) → failed_sends (ms ++ ns) (post_answers ms S ++ rs) ≡ failed_sends ms (post_answers ms S) ++ failed_sends ns rs
unfolding post_answers
failed_behind [] ns rs S = refl
failed_behind (m ∷ ms) ns rs S = by (post_answer m (S.procs m.target)) (failed_behind ms ns rs (after_post m S))
  where
    by : (r : ℤ) → failed_sends (ms ++ ns) (post_answers ms (after_post m S) ++ rs) ≡ failed_sends ms (post_answers ms (after_post m S)) ++ failed_sends ns rs →
        failed_sends (m ∷ ms ++ ns) (r ∷ post_answers ms (after_post m S) ++ rs) ≡ failed_sends (m ∷ ms) (r ∷ post_answers ms (after_post m S)) ++ failed_sends ns rs
    by (pos n) e = e
    by (negsuc n) e = ap (λ (xs : List Missed). record { target = record { 0 = m.target }; signo = record { 0 = m.signo }; errno = failed_errno n } ∷ xs) e

-- where the first sends were all answered, what failed is of the rest
failed_rest : (s : ℕ) (ws : List Write) (ms ns : List Sending) (S : State) → failed_sends ms (post_answers ms (with_writes ws S)) ≡ [] →
    failed_sends (ms ++ ns) (post_answers (ms ++ ns) (with_writes (ws ++ SetHeld s [] ∷ []) S)) ≡ failed_sends ns (post_answers ns (write_one (SetHeld s []) (after_posts ms (with_writes ws S))))
failed_rest s ws ms ns S own =
    ap (failed_sends (ms ++ ns)) parted
    ∙ failed_behind ms ns (post_answers ns (write_one (SetHeld s []) (after_posts ms (with_writes ws S)))) (with_writes ws S)
    ∙ ap (λ (xs : List Missed). xs ++ failed_sends ns (post_answers ns (write_one (SetHeld s []) (after_posts ms (with_writes ws S))))) own
  where
    parted : post_answers (ms ++ ns) (with_writes (ws ++ SetHeld s [] ∷ []) S) ≡ post_answers ms (with_writes ws S) ++ post_answers ns (write_one (SetHeld s []) (after_posts ms (with_writes ws S)))
    parted =
        ap (post_answers (ms ++ ns)) (written_next ws (SetHeld s []) S)
        ∙ answers_behind ms ns (write_one (SetHeld s []) (with_writes ws S))
        ∙ (λ j. answers_emptied ms s (with_writes ws S) j ++ post_answers ns (posts_emptied ms s (with_writes ws S) j))

-- where the event's own posts are all answered, the commit lists what failed of what was held
pub commit_lists : (s : ℕ) (ev : Event) (S : State) → IsEnd ev S → failed_sends (effect ev S).sends (send_answers (effect ev S) S) ≡ [] →
    reply_of (Commit s ev) S ≡ Committed (record { items = failed_sends ((made ev S S).held s) (post_answers ((made ev S S).held s) (write_one (SetHeld s []) (made ev S S))) })
unfolding effect reply_of
commit_lists s ev S end own = ap (λ (xs : List Missed). Committed (record { items = xs }))
    (failed_rest s (effect ev S).writes (effect ev S).sends ((with_writes (effect ev S).writes S).held s) S own
    ∙ (λ j. failed_sends (end_holds ev S s end j) (post_answers (end_holds ev S s end j) (write_one (SetHeld s []) (sym (end_made ev S end) j)))))
