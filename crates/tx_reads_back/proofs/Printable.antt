-- What is written can be printed, and so is read as the tokens that it is.
use Rattle.std.proofs.Common.{◌<◌, ◌^◌, ℕ, ℤ, pos, negsuc, List, [], ◌∷◌, ◌++◌, Option, Some, None, arith, codes}
use Rattle.std.proofs.lemmas.List.Elements.{All-head, All-tail}
use Rattle.std.specs.Fmt.{signed_decimal}
use Rattle.std.specs.Int.{w64}
use Rattle.std.specs.List.{All}
use Rattle.std.specs.Prelude.{FitsSigned}
use Rattle.json.proofs.Printed.Decimals.{IsNumber-decimal, IsNumber-signed_decimal}
use Rattle.json.specs.Print.{ArePrintable, IsNumber}
use Rattle.json.specs.Token.{Token}
use Rattle.tx_base.specs.Errors.{error_number}
use Rattle.tx_base.specs.declared.names.Missed.{Missed}
use Rattle.tx_base.specs.declared.steps.Refusal.{Refusal}
use Rattle.tx_base.specs.declared.steps.Refusal.TheVariants.{Busy}
use Rattle.tx_base.specs.declared.steps.Reply.{Reply}
use Rattle.tx_base.specs.declared.steps.Reply.TheVariants.{Done, Ended, Committed, Aborted, Out, No}
use Rattle.tx_json.specs.Answers.{entry_answer, step_answer}
use Rattle.tx_json.specs.Each.{each_tokens}
use Rattle.tx_json.specs.Members.{begin_list, begin_object, count_member, end_list, end_object, list_member, number_member, word_member}
use Rattle.tx_json.specs.Replies.{error_members, missed_tokens, refusal_members, reply_members}
use Rattle.tx_reads_back.proofs.RepliesRead.{small_error}
use Rattle.tx_reads_back.specs.ReadBack.{IsTypedMissed, IsTypedRefusal, IsTypedReply}
use Rattle.tx_state_text.specs.Replies.{error_name}

pub both : (ts us : List Token) → ArePrintable ts → ArePrintable us → ArePrintable (ts ++ us)
unfolding ArePrintable
both [] us first second = second
both (t ∷ ts) us first second = (first.0, both ts us first.1 second)

pub each_printable : {A : Type 0} (tokens : A → List Token) (Good : A → Type 0) → ((x : A) → Good x → ArePrintable (tokens x)) → (xs : List A) → All Good xs → ArePrintable (each_tokens tokens xs)
unfolding ArePrintable
each_printable tokens Good one [] good = tt
each_printable tokens Good one (x ∷ xs) good =
    both (tokens x) (each_tokens tokens xs) (one x (All-head Good x xs good)) (each_printable tokens Good one xs (All-tail Good x xs good))

pub list_printable : (name : List ℕ) (items : List Token) → ArePrintable items → ArePrintable (list_member name items)
unfolding ArePrintable begin_list end_list
list_printable name items good = (tt, (tt, both items (Token.end_array ∷ []) good (tt, tt)))

pub signed_number : (z : ℤ) → FitsSigned w64 z → IsNumber (signed_decimal z)
signed_number (pos n) fits = let small : n < 2 ^ 63 = fits.sfits in IsNumber-signed_decimal (pos n) small
signed_number (negsuc n) fits = let small : n < 2 ^ 63 = fits.sfits in IsNumber-signed_decimal (negsuc n) small

missed_printable : (missed : Missed) → IsTypedMissed missed → ArePrintable (missed_tokens missed)
unfolding ArePrintable begin_object count_member end_object
missed_printable missed typed =
    let target = typed.target in
    let signo = typed.signo in
    (tt, (tt, (IsNumber-decimal missed.target.0 (omega (arith, target)), (tt, (IsNumber-decimal missed.signo.0 (omega (arith, signo)), (tt, (IsNumber-decimal (error_number missed.errno) (small_error missed.errno), (tt, tt))))))))

refusal_printable : (refusal : Refusal) → IsTypedRefusal refusal → ArePrintable (refusal_members refusal ++ end_object)
unfolding ArePrintable count_member end_object word_member
refusal_printable (Busy starter) typed = (tt, (tt, (tt, (IsNumber-decimal starter.0 (omega (arith, typed)), (tt, tt)))))
refusal_printable refusal typed = (tt, (tt, (tt, tt)))

undelivered_printable : (items : List Missed) → All IsTypedMissed items → ArePrintable (list_member (codes "undelivered") (each_tokens missed_tokens items) ++ end_object)
unfolding ArePrintable end_object
undelivered_printable items typed =
    both (list_member (codes "undelivered") (each_tokens missed_tokens items)) (Token.end_object ∷ [])
    (list_printable (codes "undelivered") (each_tokens missed_tokens items) (each_printable missed_tokens IsTypedMissed missed_printable items typed)) (tt, tt)

name_printable : (name : Option (List ℕ)) → ArePrintable (error_members name ++ end_object)
unfolding ArePrintable end_object word_member
name_printable None = (tt, tt)
name_printable (Some name) = (tt, (tt, (tt, tt)))

-- the members of a reply, up to the end of their object
reply_printable : (reply : Reply) → IsTypedReply reply → ArePrintable (reply_members reply ++ end_object)
unfolding ArePrintable count_member end_object number_member word_member
reply_printable (No refusal) typed = refusal_printable refusal typed
reply_printable (Done ret) typed = (tt, (tt, (tt, (signed_number ret typed, name_printable (error_name ret)))))
reply_printable Ended typed = (tt, (tt, (tt, tt)))
reply_printable (Committed undelivered) typed = (tt, (tt, undelivered_printable undelivered.items typed))
reply_printable (Aborted status) typed = (tt, (tt, (tt, (IsNumber-decimal status (omega (arith, typed)), (tt, tt)))))
reply_printable (Out bytes) typed = (tt, (tt, (tt, (tt, (tt, tt)))))

pub step_printable : (number : ℕ) (reply : Reply) → number < 2 ^ 64 → IsTypedReply reply → ArePrintable (step_answer number reply)
unfolding ArePrintable begin_object count_member
step_printable number (No refusal) small typed = (tt, reply_printable (No refusal) typed)
step_printable number (Done ret) small typed = (tt, (tt, (IsNumber-decimal number small, reply_printable (Done ret) typed)))
step_printable number Ended small typed = (tt, (tt, (IsNumber-decimal number small, reply_printable Ended typed)))
step_printable number (Committed undelivered) small typed = (tt, (tt, (IsNumber-decimal number small, reply_printable (Committed undelivered) typed)))
step_printable number (Aborted status) small typed = (tt, (tt, (IsNumber-decimal number small, reply_printable (Aborted status) typed)))
step_printable number (Out bytes) small typed = (tt, (tt, (IsNumber-decimal number small, reply_printable (Out bytes) typed)))

pub entry_printable : (number worker : ℕ) (step : List ℕ) (reply : Reply) → number < 2 ^ 64 → worker < 2 ^ 16 → IsTypedReply reply → ArePrintable (entry_answer number worker step reply)
unfolding ArePrintable begin_object count_member word_member
entry_printable number worker step reply small narrow typed =
    (tt, (tt, (IsNumber-decimal number small, (tt, (IsNumber-decimal worker (omega (arith, narrow)), (tt, (tt, reply_printable reply typed)))))))
