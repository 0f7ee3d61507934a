-- The tokens of the answers to a line, an object each.
use Rattle.std.specs.Prelude.{ℕ, List, [], ◌∷◌, ◌++◌, codes}
use Rattle.std.specs.Str.Lines.{lines}
use Rattle.json.specs.Token.{Token}
use Rattle.tx_base.specs.declared.steps.Reply.{Reply}
use Rattle.tx_base.specs.declared.steps.Reply.TheVariants.{Done, Ended, Committed, Aborted, Out, No}
use Rattle.tx_json.specs.Each.{each_tokens}
use Rattle.tx_json.specs.Members.{begin_object, count_member, end_object, list_member, word_member}
use Rattle.tx_json.specs.Replies.{reply_members}
use Rattle.tx_json.specs.State.{state_tokens}
use Rattle.tx_model.specs.View.{View}

-- no answer
abbrev pub empty_answer : List Token
empty_answer = begin_object ++ end_object

-- a position
abbrev pub position_answer : ℕ → List Token
position_answer at = begin_object ++ (count_member (codes "at") at ++ end_object)

-- a line of a text
unfoldable pub line_item : List ℕ → List Token
line_item line = Token.string line ∷ []

-- the lines of a text
abbrev pub lines_member : List ℕ → List Token
lines_member text = list_member (codes "lines") (each_tokens line_item (lines text))

-- how an answer with the lines of a text begins: with a position, and those
abbrev pub lines_front : ℕ → List ℕ → List Token
lines_front at text = begin_object ++ (count_member (codes "at") at ++ lines_member text)

-- a position, the lines of a text, and members after them
abbrev pub lines_with : ℕ → List ℕ → List Token → List Token
lines_with at text members =
    begin_object ++ (count_member (codes "at") at ++ (lines_member text ++ (members ++ end_object)))

-- the number of a step, where it was accepted
abbrev pub number_members : ℕ → Reply → List Token
number_members number (No refusal) = []
number_members number (Done ret) = count_member (codes "step") number
number_members number Ended = count_member (codes "step") number
number_members number (Committed undelivered) = count_member (codes "step") number
number_members number (Aborted status) = count_member (codes "step") number
number_members number (Out bytes) = count_member (codes "step") number

-- a step's number, where it was accepted, and its reply
abbrev pub step_answer : ℕ → Reply → List Token
step_answer number reply =
    begin_object ++ (number_members number reply ++ (reply_members reply ++ end_object))

-- an entry of a journal: its number, the worker that made the step, the step's text, and its reply
abbrev pub entry_answer : ℕ → ℕ → List ℕ → Reply → List Token
entry_answer number worker step reply =
    begin_object
    ++ (count_member (codes "step") number
    ++ (count_member (codes "worker") worker
    ++ (word_member (codes "text") step ++ (reply_members reply ++ end_object))))

-- a position, the reply that a step would get there, and the lines of a text
abbrev pub trial_answer : ℕ → Reply → List ℕ → List Token
trial_answer at reply text =
    begin_object
    ++ (count_member (codes "at") at ++ (reply_members reply ++ (lines_member text ++ end_object)))

-- the key of a state
unfoldable pub state_key : List Token
state_key = Token.key (codes "state") ∷ []

-- a position, and the state there
abbrev pub state_answer : ℕ → View → List Token
state_answer at V =
    begin_object ++ (count_member (codes "at") at ++ (state_key ++ (state_tokens V ++ end_object)))

-- what is wrong
abbrev pub error_answer : List ℕ → List Token
error_answer sentence = begin_object ++ (word_member (codes "error") sentence ++ end_object)
