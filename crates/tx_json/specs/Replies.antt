-- A reply as members of an object.
use Rattle.std.specs.Prelude.{ℕ, List, [], ◌++◌, Option, Some, None, codes}
use Rattle.hex.specs.Hex.{encode_lower}
use Rattle.json.specs.Token.{Token}
use Rattle.tx_base.specs.Errors.{error_number}
use Rattle.tx_base.specs.declared.names.Missed.{Missed}
use Rattle.tx_base.specs.declared.steps.Refusal.{Refusal}
use Rattle.tx_base.specs.declared.steps.Refusal.TheVariants.{Busy}
use Rattle.tx_base.specs.declared.steps.Reply.{Reply}
use Rattle.tx_base.specs.declared.steps.Reply.TheVariants.{Done, Ended, Committed, Aborted, Out, No}
use Rattle.tx_json.specs.Each.{each_tokens}
use Rattle.tx_json.specs.Members.{count_member, begin_object, end_object, list_member, number_member, word_member}
use Rattle.tx_lines.specs.Refusals.{refusal_word}
use Rattle.tx_state_text.specs.Replies.{error_name}

-- a refusal, and who holds what is wanted
abbrev pub refusal_members : Refusal → List Token
refusal_members (Busy starter_in_way) =
    word_member (codes "refused") (codes "N8") ++ count_member (codes "holder") starter_in_way.0
refusal_members refusal = word_member (codes "refused") (refusal_word refusal)

-- a send that could not be delivered
abbrev pub missed_tokens : Missed → List Token
missed_tokens missed =
    begin_object
    ++ (count_member (codes "target") missed.target.0
    ++ (count_member (codes "signo") missed.signo.0
    ++ (count_member (codes "errno") (error_number missed.errno) ++ end_object)))

-- the name of an error, where there is one
abbrev pub error_members : Option (List ℕ) → List Token
error_members None = []
error_members (Some name) = word_member (codes "error") name

-- a reply; a number that is an error's has its name beside it
abbrev pub reply_members : Reply → List Token
reply_members (Done ret) =
    word_member (codes "reply") (codes "ok")
    ++ (number_member (codes "ret") ret ++ error_members (error_name ret))
reply_members Ended = word_member (codes "reply") (codes "ended")
reply_members (Committed undelivered) =
    word_member (codes "reply") (codes "committed")
    ++ list_member (codes "undelivered") (each_tokens missed_tokens undelivered.items)
reply_members (Aborted status) =
    word_member (codes "reply") (codes "aborted") ++ count_member (codes "status") status
reply_members (Out bytes) =
    word_member (codes "reply") (codes "out")
    ++ word_member (codes "bytes") (encode_lower bytes.items)
reply_members (No refusal) = refusal_members refusal
