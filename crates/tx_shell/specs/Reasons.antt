-- Why a step would be refused, as it is reported.
use Rattle.std.specs.Prelude.{◌≡◌, ℕ, ℤ, List, [], ◌∷◌, ◌++◌, Option, Some, None, codes, map, option_map, if◌then◌else◌, IfSome, IsTrue}
use Rattle.std.specs.Fmt.{decimal, signed_decimal}
use Rattle.std.specs.Str.{IsUtf8}
use Rattle.tx_base.specs.declared.steps.Accepted.{Accepted}
use Rattle.tx_base.specs.declared.steps.Refusal.{Refusal}
use Rattle.tx_base.specs.declared.steps.Refusal.TheVariants.{Busy, Wait}
use Rattle.tx_base.specs.declared.steps.Reply.{Reply}
use Rattle.tx_base.specs.declared.steps.Step.{Step}
use Rattle.tx_base.specs.declared.steps.Step.TheVariants as steps
use Rattle.tx_base.specs.declared.steps.Call.TheVariants as calls
use Rattle.tx_explain.specs.Topics.{asked, is_page, opens}
use Rattle.tx_json.specs.declared.holders.Holder.{Holder}
use Rattle.tx_journal.specs.Since.{Numbered}
use Rattle.tx_model.specs.State.{ReadSide, Side, State, WriteSide}
use Rattle.tx_model.specs.View.{view}
use Rattle.tx_shell.specs.Blockers.{blocked, blocked_by, blocked_of, names_one, Blocked}
use Rattle.tx_shell.specs.Holders.{holders_line}
use Rattle.tx_waits.specs.Holders.{awaited_by, side_holders}
use Rattle.tx_waits.specs.Kinds.{limit_of, word_of}
use Rattle.tx_shell.specs.Names.{after_number, computed_name, kind_name, step_made_text, Names}
use Rattle.tx_waits.specs.declared.kinds.Kind.{Kind}
use Rattle.tx_waits.specs.declared.kinds.Kind.TheVariants.{Pipes, Processes}
use Rattle.tx_shell.specs.declared.questions.reasons.Reason.{Reason}
use Rattle.tx_step.specs.TwoAnswers.{two_answers}
use Rattle.tx_step.specs.declared.differing.TwoAnswers.{TwoAnswers}
use Rattle.tx_state_text.specs.Each.{each_text, upto}
use Rattle.tx_state_text.specs.Replies.{error_name, spaced_name}

-- of a word that is explained: a page that begins with it. Of another one: that it is none, and
-- where the words are
pub record HelpsOn (word text : List ℕ) : Type 0 where
  pub page : IsTrue (is_page text)
  pub opens : IsUtf8 word → IfSome (asked word) (λ name. IsTrue (opens name text))
  pub unknown : asked word ≡ None
      → text ≡ codes "? not explained; help lists the commands, txos explain all other words\n"

-- since which step, where one is found
abbrev pub since_text : Names → Option Numbered → List ℕ
since_text names None = []
since_text names (Some first) =
    codes " since step "
    ++ (decimal first.number ++ (codes ": " ++ step_made_text names first.step))

-- what an object is called
abbrev pub name_text : Kind → ℕ → List ℕ
name_text kind number = word_of kind ++ decimal number

-- what a step waits for: a child's end, a byte in a pipe, or room for all its bytes; by the lines
-- of the pipes that it names, and of who has their other side open
abbrev pub waited_by : Names → (List ℕ → List ℕ) → (Side → List ℕ) → Step → List ℕ
waited_by names pipes who (steps.Call p (calls.Waitpid child nohang)) =
    codes "proc "
    ++ (signed_decimal child
    ++ (after_number (computed_name names child) ++ codes " has not ended\n"))
waited_by names pipes who (steps.Call p (calls.Read fd address count)) =
    pipes (codes " has no byte\n") ++ who WriteSide
waited_by names pipes who (steps.Call p (calls.Write fd address count)) =
    pipes (codes " has too little room\n") ++ who ReadSide
waited_by names pipes who other = []

-- the line of an object in the way
abbrev pub blocked_line : Names → Blocked → List ℕ
blocked_line names b =
    name_text b.kind b.number
    ++ (after_number (kind_name names b.kind b.number)
    ++ (codes ": the transaction of "
    ++ (decimal b.owner
    ++ (after_number (names b.owner)
    ++ (codes " has it" ++ (since_text names b.since ++ 10 ∷ []))))))

-- what is answered, with the name of an error
abbrev pub named_text : ℤ → List ℕ
named_text x = signed_decimal x ++ spaced_name (error_name x)

-- the line of a signal to s that has two answers: which it is, how it would be answered now, and
-- how after an abort
abbrev pub twice_line : Names → ℕ → TwoAnswers → List ℕ
twice_line names s twice =
    (codes "signal "
    ++ (decimal twice.signo.0
    ++ (codes " to "
    ++ (decimal s ++ (after_number (names s) ++ codes ": it would be answered ")))))
    ++ (named_text twice.present ++ (codes " now, and " ++ (named_text twice.after_abort
    ++ (codes " if the transaction of "
    ++ (decimal s ++ (after_number (names s) ++ codes " were aborted\n"))))))

abbrev pub twice_line_if : Names → ℕ → Option TwoAnswers → List ℕ
twice_line_if names s None = []
twice_line_if names s (Some twice) = twice_line names s twice

-- the line of a pipe that a step names, and waits for
module _ (S : State) (h : List Accepted) (step : Step) where
  abbrev pub pipe_line : List ℕ → ℕ → List ℕ
  pipe_line why number =
      if names_one S h step Pipes number then name_text Pipes number ++ why else []

  abbrev pub pipe_lines : List ℕ → List ℕ
  pipe_lines why = upto (pipe_line why) (limit_of Pipes)

module _ (names : Names) (S : State) (h : List Accepted) (step : Step) where
  -- the line of the first signal of the step to the starter s that has two answers
  abbrev pub signal_line : ℕ → List ℕ
  signal_line s = twice_line_if names s (two_answers (view S h) step s)

  -- the lines of all such starters, by rising numbers
  abbrev pub signal_lines : List ℕ
  signal_lines = upto signal_line (limit_of Processes)

  -- the lines of those pipes, and of who has that side of one open
  abbrev pub waited_text : List ℕ
  waited_text =
      waited_by names (pipe_lines S h step)
      (λ side. holders_line names side (side_holders (view S h) step side)) step

  -- the facts of a refusal: of a step in whose way a transaction is, the objects in its way, and
  -- its signals that have two answers; of one that waits, for what
  abbrev pub fact_lines : Refusal → List ℕ
  fact_lines (Busy starter) = each_text (blocked_line names) (blocked S h step) ++ signal_lines
  fact_lines Wait = waited_text
  fact_lines why = []

-- what is reported of a step that would get this reply: what is in its way, and who could end its
-- wait
pub record IsReason (S : State) (h : List Accepted) (step : Step) (reply : Reply) (reason : Reason)
    : Type 0 where
  pub blockers : map blocked_of reason.blockers.items ≡ blocked_by S h step reply
  pub holders : option_map (λ held. held.items) reason.holders ≡ awaited_by (view S h) step reply

-- who has that side open, where it is asked
abbrev pub open_by : Names → Side → Option (List Holder) → List ℕ
open_by names side None = []
open_by names side (Some holders) = holders_line names side holders
