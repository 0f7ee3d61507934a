-- The last refused step of the child that a process waits for.
use Rattle.std.specs.Prelude.{ℕ, List, [], ◌∷◌, ◌++◌, Option, Some, None, codes, option_map}
use Rattle.json.specs.Token.{Token}
use Rattle.tx_base.specs.Slots.{slot_at}
use Rattle.tx_base.specs.declared.steps.Accepted.{Accepted}
use Rattle.tx_base.specs.declared.steps.Call.TheVariants as calls
use Rattle.tx_base.specs.declared.steps.Refusal.TheVariants.{Wait}
use Rattle.tx_base.specs.declared.steps.Reply.{Reply}
use Rattle.tx_base.specs.declared.steps.Reply.TheVariants.{No}
use Rattle.tx_base.specs.declared.steps.Step.{Step}
use Rattle.tx_base.specs.declared.steps.Step.TheVariants as steps
use Rattle.tx_json.specs.Members.{begin_object, end_object, object_key, word_member}
use Rattle.tx_lines.specs.Lines.{step_text}
use Rattle.tx_model.specs.Answer.{answer}
use Rattle.tx_model.specs.Processes.{pid_of}
use Rattle.tx_model.specs.State.{State}
use Rattle.tx_model.specs.View.{View}
use Rattle.tx_shell.specs.Members.{why_members}
use Rattle.tx_shell.specs.Names.{step_made_text, Names}
use Rattle.tx_shell.specs.Reasons.{fact_lines}
use Rattle.tx_shell.specs.declared.questions.attempts.Attempt.{Attempt}
use Rattle.tx_state_text.specs.Replies.{named_reply_text}

-- the child whose end a step waits for that would get that reply
abbrev pub awaited_child : Step → Reply → Option ℕ
awaited_child (steps.Call p (calls.Waitpid child nohang)) (No Wait) = pid_of 256 child
awaited_child step reply = None

-- the last step of a process where it was refused, of those of all processes, and what it would be
-- answered now
abbrev pub attempt_of : View → List (Option Step) → Option ℕ → Option Attempt
attempt_of V own None = None
attempt_of V own (Some q) =
    option_map (λ (step : Step). record { step = step; reply = answer V step }) (slot_at own q)

-- the answer to a step that would not be refused
abbrev pub answered_text : Reply → List ℕ
answered_text reply = codes ", and would be answered " ++ (named_reply_text reply ++ codes " now\n")

module _ (names : Names) (S : State) (h : List Accepted) where
  -- the facts of its refusal, or what else it would be answered
  abbrev pub outcome_text : Step → Reply → List ℕ
  outcome_text step (No why) = 10 ∷ fact_lines names S h step why
  outcome_text step reply = answered_text reply

  -- it, and those
  abbrev pub attempt_text : Option Attempt → List ℕ
  attempt_text None = []
  attempt_text (Some attempt) =
      codes "its last step was refused: "
      ++ (step_made_text names attempt.step ++ outcome_text attempt.step attempt.reply)

-- what JSON has of it
abbrev pub child_member : State → List Accepted → Option Attempt → List Token
child_member S h None = []
child_member S h (Some attempt) =
    object_key (codes "child")
    ++ (begin_object
    ++ (word_member (codes "step") (step_text attempt.step)
    ++ (why_members S h attempt.step attempt.reply ++ end_object)))
