-- The line of an entry reads back to what it says.
use Rattle.std.proofs.Common.{◌≡◌, ◌∙◌, ◌<◌, ◌^◌, ℕ, List, [], ◌∷◌, Some, ap, arith, refl}
use Rattle.json.proofs.Printed.Tokens.{tokens-print}
use Rattle.json.specs.Token.{Token}
use Rattle.tx_base.specs.declared.steps.Reply.{Reply}
use Rattle.tx_json.specs.Answers.{entry_answer}
use Rattle.tx_json.specs.Members.{begin_object, count_member, end_object, word_member}
use Rattle.tx_lines.specs.Lines.{step_text}
use Rattle.tx_reads_back.proofs.NumbersRead.{count_read}
use Rattle.tx_reads_back.proofs.Printable.{entry_printable}
use Rattle.tx_reads_back.proofs.RepliesRead.{reply_read}
use Rattle.tx_reads_back.specs.ReadBack.{EntriesReadBack, IsTypedReply}
use Rattle.tx_reads_back.specs.ReadEntries.{entry_members}
use Rattle.tx_reads_back.specs.Reading.{count_at, count_in, object_by, whole, word_in}

entry_read : (number worker : ℕ) (step : List ℕ) (reply : Reply) → number < 2 ^ 64 → worker < 2 ^ 16 → IsTypedReply reply
    → whole (object_by entry_members (entry_answer number worker step reply)) ≡ Some (record { number = number; worker = worker; step = step; reply = reply })
unfolding begin_object count_at count_in count_member end_object entry_members object_by word_in word_member
entry_read number worker step reply small narrow typed =
    rw (count_read number small, count_read worker (omega (arith, narrow)), reply_read reply (Token.end_object ∷ []) typed) refl

pub entries_read_back : EntriesReadBack
entries_read_back number entry small narrow typed =
    ap (λ (tokens : List Token). whole (object_by entry_members tokens))
    (tokens-print (entry_answer number entry.worker (step_text entry.step) entry.reply) (entry_printable number entry.worker (step_text entry.step) entry.reply small narrow typed))
    ∙ entry_read number entry.worker (step_text entry.step) entry.reply small narrow typed
