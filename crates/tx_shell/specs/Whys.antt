-- Why a step would get a reply, as a whole.
use Rattle.std.specs.Prelude.{◌≡◌, ℕ, List, [], ◌∷◌, ◌++◌, Option, codes}
use Rattle.tx_base.specs.declared.steps.Accepted.{Accepted}
use Rattle.tx_base.specs.declared.steps.Refusal.{Refusal}
use Rattle.tx_base.specs.declared.steps.Reply.{Reply}
use Rattle.tx_base.specs.declared.steps.Reply.TheVariants.{No}
use Rattle.tx_base.specs.declared.steps.Step.{Step}
use Rattle.tx_explain.specs.Calls.{refusal_word}
use Rattle.tx_model.specs.State.{State}
use Rattle.tx_shell.specs.Attempts.{attempt_text}
use Rattle.tx_shell.specs.Names.{step_made_text, Names}
use Rattle.tx_shell.specs.Reasons.{fact_lines, HelpsOn}
use Rattle.tx_shell.specs.declared.questions.attempts.Attempt.{Attempt}
use Rattle.tx_state_text.specs.Replies.{named_reply_text}

module _ (names : Names) (S : State) (h : List Accepted) (step : Step) (attempt : Option Attempt)
  where
    -- of a step that is refused: the facts, the last refused step of the child that it waits for,
    -- and the page that help has on the refusal
    pub record ReportsRefusal (why : Refusal) (after : List ℕ) : Type 0 where
      pub page : List ℕ
      pub helps : HelpsOn (refusal_word why) page
      pub report : after ≡ fact_lines names S h step why ++ (attempt_text names S h attempt ++ page)

    -- what is reported after a reply: nothing where the step is not refused
    abbrev pub ReportsReason : Reply → List ℕ → Type 0
    ReportsReason (No why) after = ReportsRefusal why after
    ReportsReason reply after = after ≡ []

    -- the step, and after it that it would get this reply, and why it would be refused
    pub record ReportsWhy (reply : Reply) (text : List ℕ) : Type 0 where
      pub reason : List ℕ
      pub report :
          text
          ≡ step_made_text names step
          ++ (codes ": it would be answered " ++ (named_reply_text reply ++ 10 ∷ reason))
      pub why : ReportsReason reply reason
