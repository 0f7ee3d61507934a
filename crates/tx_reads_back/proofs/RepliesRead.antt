-- Replies are read as they are written.
use Rattle.std.proofs.Common.{◌≡◌, ◌<◌, ◌^◌, ℕ, List, [], ◌∷◌, ◌++◌, Option, Some, None, arith, codes, refl}
use Rattle.std.specs.List.{All}
use Rattle.json.specs.Token.{Token}
use Rattle.tx_base.specs.Errors.{error_number}
use Rattle.tx_base.specs.declared.errors.Errno.{Errno}
use Rattle.tx_base.specs.declared.errors.Errno.TheVariants.{NotPermitted}
use Rattle.tx_base.specs.declared.names.Missed.{Missed}
use Rattle.tx_base.specs.declared.steps.Refusal.{Refusal}
use Rattle.tx_base.specs.declared.steps.Refusal.TheVariants.{Busy}
use Rattle.tx_base.specs.declared.steps.Reply.{Reply}
use Rattle.tx_base.specs.declared.steps.Reply.TheVariants.{Done, Ended, Committed, Aborted, Out, No}
use Rattle.tx_json.specs.Answers.{step_answer}
use Rattle.tx_json.specs.Each.{each_tokens}
use Rattle.tx_json.specs.Members.{begin_object, count_member, end_object, list_member, number_member, word_member}
use Rattle.tx_json.specs.Replies.{error_members, missed_tokens, refusal_members, reply_members}
use Rattle.tx_reads_back.proofs.MembersRead.{list_read, IsItem}
use Rattle.tx_reads_back.proofs.NumbersRead.{bytes_read, count_read, number_read, same_bytes}
use Rattle.tx_reads_back.specs.ReadBack.{step_in_json, IsTypedMissed, IsTypedRefusal, IsTypedReply}
use Rattle.tx_reads_back.specs.ReadReplies.{answer_in, after_error, errors, missed_at, missed_members, numbered_by, refusal_in, reply_in, step_members}
use Rattle.tx_reads_back.specs.Reading.{bytes_in, count_at, count_in, list_in, number_at, number_in, object_by, whole, word_in}
use Rattle.tx_state_text.specs.Replies.{error_name}

pub small_error : (errno : Errno) → error_number errno < 2 ^ 64
small_error errno = grind arith

error_read : (errno : Errno) → numbered_by errors (error_number errno) ≡ Some errno
error_read NotPermitted = refl
error_read errno = refl

missed_read : (missed : Missed) (rest : List Token) → IsTypedMissed missed → missed_at (missed_tokens missed ++ rest) ≡ Some (missed, rest)
unfolding begin_object count_at count_in count_member end_object missed_members object_by
missed_read missed rest typed =
    let target = typed.target in
    let signo = typed.signo in
    rw (count_read missed.target.0 (omega (arith, target)), count_read missed.signo.0 (omega (arith, signo)), count_read (error_number missed.errno) (small_error missed.errno), error_read missed.errno) refl

missed_item : IsItem missed_at missed_tokens IsTypedMissed
unfolding begin_object count_member end_object
missed_item = record {
  reads = missed_read;
  begins = λ missed rest typed. refl;
  some = λ missed typed. omega arith;
}

undelivered_read : (items : List Missed) (rest : List Token) → All IsTypedMissed items
    → list_in (codes "undelivered") missed_at (list_member (codes "undelivered") (each_tokens missed_tokens items) ++ rest) ≡ Some (items, rest)
undelivered_read = list_read missed_at missed_tokens IsTypedMissed missed_item (codes "undelivered")

-- the members of a refusal, and of any reply
refusal_read : (refusal : Refusal) (rest : List Token) → IsTypedRefusal refusal → refusal_in (refusal_members refusal ++ rest) ≡ Some (No refusal, rest)
unfolding count_at count_in count_member refusal_in word_in word_member
refusal_read (Busy starter) rest typed = rw (count_read starter.0 (omega (arith, typed))) refl
refusal_read refusal rest typed = refl

refused_reply : (refusal : Refusal) (rest : List Token) → IsTypedRefusal refusal → reply_in (refusal_members refusal ++ rest) ≡ Some (No refusal, rest)
unfolding reply_in
refused_reply refusal rest typed = grind (arith, refusal_read)

-- the name of an error, where there has to be one
name_read : (name : Option (List ℕ)) (rest : List Token) → after_error name (error_members name ++ rest) ≡ Some rest
unfolding word_in word_member
name_read None rest = refl
name_read (Some name) rest = rw (same_bytes name) refl

pub reply_read : (reply : Reply) (rest : List Token) → IsTypedReply reply → reply_in (reply_members reply ++ rest) ≡ Some (reply, rest)
unfolding answer_in bytes_in count_at count_in count_member number_at number_in number_member refusal_in reply_in word_in word_member
reply_read (No refusal) rest typed = refused_reply refusal rest typed
reply_read (Done ret) rest typed = rw (number_read ret typed, name_read (error_name ret) rest) refl
reply_read Ended rest typed = refl
reply_read (Committed undelivered) rest typed = rw (undelivered_read undelivered.items rest typed) refl
reply_read (Aborted status) rest typed = rw (count_read status (omega (arith, typed))) refl
reply_read (Out bytes) rest typed = rw (bytes_read bytes.items typed) refl

-- the line of a refused step, and of any step
refused : (refusal : Refusal) (number : ℕ) → IsTypedRefusal refusal → whole (object_by step_members (step_answer number (No refusal))) ≡ Some (None, No refusal)
unfolding begin_object end_object object_by step_members
refused refusal number typed = rw (refusal_read refusal (Token.end_object ∷ []) typed) refl

pub step_read : (number : ℕ) (reply : Reply) → number < 2 ^ 64 → IsTypedReply reply → whole (object_by step_members (step_answer number reply)) ≡ Some (step_in_json number reply)
unfolding answer_in begin_object bytes_in count_at count_in count_member end_object number_at number_in number_member object_by refusal_in step_members word_in word_member
step_read number (No refusal) small typed = refused refusal number typed
step_read number (Done ret) small typed = rw (count_read number small, number_read ret typed, name_read (error_name ret) (Token.end_object ∷ [])) refl
step_read number Ended small typed = rw (count_read number small) refl
step_read number (Committed undelivered) small typed = rw (count_read number small, undelivered_read undelivered.items (Token.end_object ∷ []) typed) refl
step_read number (Aborted status) small typed = rw (count_read number small, count_read status (omega (arith, typed))) refl
step_read number (Out bytes) small typed = rw (count_read number small, bytes_read bytes.items typed) refl
