-- What of the held signals could not be delivered, as the reply to the commit lists it.
use Rattle.std.proofs.Common.{◌≡◌, ℤ, pos, negsuc, ◌==◌, ◌||◌, Bool, true, false, if◌then◌else◌, List, [], ◌∷◌, map, drop, Option, Some, None, Result, Ok, Err, refl, ap, ◌∙◌}
use Rattle.tx_base.specs.declared.errors.Errno.{Errno}
use Rattle.tx_base.specs.declared.errors.Errno.TheVariants.{NotPermitted, NoSuchProcess, BadDescriptor, NoChild, TryAgain, BadAddress, InvalidArgument, TooManyDescriptors, BrokenPipe}
use Rattle.tx_base.specs.declared.names.Missed.{Missed}
use Rattle.tx_base.specs.declared.names.Sending.{Sending as TheSending}
use Rattle.tx_change.specs.declared.parts.Parts.{Parts}
use Rattle.tx_kernel.specs.Plans.{sending_of}
use Rattle.tx_content.specs.HeldPosts.{answers_in, PostsAll}
use Rattle.tx_content.specs.declared.content.BoxedTxn.{BoxedTxn}
use Rattle.tx_model.specs.Effects.{failed_sends, first_answer}
use Rattle.tx_model.specs.Posts.{post_answers, has_room, is_quiet, is_realtime, may_signal, after_post, post_answer}
use Rattle.tx_model.specs.State.{Process, Sending, State}
use Rattle.tx_signal.specs.Parts.{answer_of}
use Rattle.tx_txn.specs.Outboxes.{missed_in, with_missed}
use Rattle.tx_txn.specs.declared.outbox.HeldPost.{HeldPost}

-- an answer is none, or one of the errors of a post
abbrev is_of_post : ℤ → Bool
is_of_post (pos n) = true
is_of_post (negsuc n) = n == 0 || (n == 2 || n == 10)

-- posts answer no other errors
posts_answer : (m : Sending) (q : Option Process) → is_of_post (post_answer m q) ≡ true
posts_answer m None = refl
posts_answer m (Some q) = by (may_signal m.from q.ids) (is_quiet m q) (is_realtime m.signo) (has_room q)
  where
    by : (may quiet realtime room : Bool) → is_of_post (if may then (if quiet then pos 0 else (if realtime then (if room then pos 0 else negsuc 10) else pos 0)) else negsuc 0) ≡ true
    by false quiet realtime room = refl
    by true true realtime room = refl
    by true false false room = refl
    by true false true true = refl
    by true false true false = refl

-- one more signal is listed as its answer says
missed_one : (m : TheSending) (answer : Result (Unit {0}) Errno) (ms : List TheSending) (rs : List ℤ) (rest : List Missed) → is_of_post (answer_of answer) ≡ true →
    rest ≡ failed_sends (map sending_of ms) rs → with_missed m answer rest ≡ failed_sends (map sending_of (m ∷ ms)) (answer_of answer ∷ rs)
missed_one m (Ok done) ms rs rest known e = e
missed_one m (Err NotPermitted) ms rs rest known e = ap (λ (xs : List Missed). record { target = m.target; signo = m.signo; errno = NotPermitted } ∷ xs) e
missed_one m (Err NoSuchProcess) ms rs rest known e = ap (λ (xs : List Missed). record { target = m.target; signo = m.signo; errno = NoSuchProcess } ∷ xs) e
missed_one m (Err TryAgain) ms rs rest known e = ap (λ (xs : List Missed). record { target = m.target; signo = m.signo; errno = TryAgain } ∷ xs) e
missed_one m (Err BadDescriptor) ms rs rest known e = cc
missed_one m (Err NoChild) ms rs rest known e = cc
missed_one m (Err BadAddress) ms rs rest known e = cc
missed_one m (Err InvalidArgument) ms rs rest known e = cc
missed_one m (Err TooManyDescriptors) ms rs rest known e = cc
missed_one m (Err BrokenPipe) ms rs rest known e = cc

missed_answered : (ms : List TheSending) (made : List HeldPost) (S : State) → answers_in made ≡ post_answers (map sending_of ms) S → missed_in ms made ≡ failed_sends (map sending_of ms) (answers_in made)
unfolding post_answers
missed_answered [] made S e = refl
missed_answered (m ∷ ms) [] S e = refl
missed_answered (m ∷ ms) (one ∷ made) S e =
    missed_one m one.answer ms (answers_in made) (missed_in ms made)
    (ap (λ (rs : List ℤ). is_of_post (first_answer rs)) e ∙ posts_answer (sending_of m) (S.procs m.target.0))
    (missed_answered ms made (after_post (sending_of m) S) (ap (λ (rs : List ℤ). drop 1 rs) e))

-- what was posted lists what the definitions do
pub missed_are : (before after : Parts) (old new : List (Option BoxedTxn)) (sendings : List TheSending) (made : List HeldPost) → PostsAll before after old new sendings made →
    missed_in sendings made ≡ failed_sends (map sending_of sendings) (answers_in made)
missed_are before after old new sendings made all = missed_answered sendings made _ (all.answered (λ n. []))
