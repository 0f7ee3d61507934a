-- What steps do in a session, and the lines that answer them.
use Rattle.std.proofs.Common.{◌≡◌, ℕ, List, [], ◌∷◌, ◌++◌, length, refl, sym, ap, ◌∙◌, append_assoc}
use Rattle.std.proofs.lemmas.List.{append-nil}
use Rattle.json.specs.Token.{Token}
use Rattle.tx_base.specs.declared.steps.Accepted.{Accepted}
use Rattle.tx_base.specs.declared.steps.Reply.{Reply}
use Rattle.tx_base.specs.declared.steps.Step.{Step}
use Rattle.tx_journal.specs.Entries.{history_of}
use Rattle.tx_journal.specs.Sessions.{IsAtEnd, SessionState, SameBoot, position_of, start_of}
use Rattle.tx_json.specs.Answers.{step_answer}
use Rattle.tx_lines.specs.declared.read.command.Command.TheVariants as commands
use Rattle.tx_model.specs.Answer.{answer}
use Rattle.tx_model.specs.Schedules.{history_with, history_of as history_after}
use Rattle.tx_model.specs.State.{State}
use Rattle.tx_model.specs.View.{view}
use Rattle.tx_script.proofs.StepsMade.{history_length, replied, same_start, StepsSoFar}
use Rattle.tx_script.specs.JsonLines.{command_line, line_of, step_lines, text_of}

-- ---- lines

pub text_append : (before after : List (List Token)) → text_of (before ++ after) ≡ text_of before ++ text_of after
unfolding text_of
text_append [] after = refl
text_append (line ∷ before) after = ap (λ (t : List ℕ). line_of line ++ t) (text_append before after) ∙ sym (append_assoc (line_of line) (text_of before) (text_of after))

pub one_line : (line : List Token) → text_of (line ∷ []) ≡ line_of line
unfolding text_of
one_line line = append-nil (line_of line)

-- a line after a text, and then the rest
pub line_after : (text line rest more : List ℕ) → more ≡ text ++ line → text ++ (line ++ rest) ≡ more ++ rest
line_after text line rest more is = sym (append_assoc text line rest) ∙ ap (λ (t : List ℕ). t ++ rest) (sym is)

-- ---- steps

module _ (first old new : SessionState) (steps : List Step) (step : Step) (left : List Step) (reply : Reply) (so : StepsSoFar first old steps (step ∷ left))
    (answered : reply ≡ answer (view (start_of old) (history_of old.entries)) step) (made : history_of new.entries ≡ history_with (history_of old.entries) step reply) where
  abbrev pub begun : State
  begun = start_of first

  abbrev pub earlier : List Accepted
  earlier = history_of old.entries

  -- so far: the lines of the steps that are left lead from the text so far to that of all
  pub one_reply_more : (text more whole : List ℕ) → whole ≡ text ++ text_of (step_lines begun earlier (step ∷ left)) → more ≡ text ++ line_of (step_answer (length new.entries) reply)
      → whole ≡ more ++ text_of (step_lines begun (history_of new.entries) left)
  unfolding text_of step_lines
  one_reply_more text more whole so_far put =
      let lined : Reply → List ℕ = λ r. let h = history_with earlier step r in line_of (step_answer (length h) r) ++ text_of (step_lines begun h left) in
      let there : List Accepted → List ℕ = λ h. line_of (step_answer (length h) reply) ++ text_of (step_lines begun h left) in
      let count : length (history_of new.entries) ≡ length new.entries = history_length new.entries in
      so_far ∙ ap (λ (r : Reply). text ++ lined r) (replied first old new steps step left reply so answered made) ∙ ap (λ (h : List Accepted). text ++ there h) (sym made)
      ∙ ap (λ (n : ℕ). text ++ (line_of (step_answer n reply) ++ text_of (step_lines begun (history_of new.entries) left))) count
      ∙ line_after text (line_of (step_answer (length new.entries) reply)) (text_of (step_lines begun (history_of new.entries) left)) more put

pub replies_whole : (start : State) (history : List Accepted) (text whole : List ℕ) (left : List Step) → whole ≡ text ++ text_of (step_lines start history left) → left ≡ [] → text ≡ whole
unfolding text_of step_lines
replies_whole start history text whole left so none = sym (so ∙ ap (λ (steps : List Step). text ++ text_of (step_lines start history steps)) none ∙ append-nil text)

-- the lines of a schedule, from the session that is booted to the one in which all steps are made
pub schedule_whole : (start : State) (steps : List Step) (booted kept made : SessionState) (none front text : List ℕ) → start_of booted ≡ start → booted.entries ≡ [] → kept ≡ booted → none ≡ []
    → front ≡ none ++ text_of (step_lines (start_of kept) (history_of kept.entries) steps) → history_of made.entries ≡ history_after (start_of kept) (history_of kept.entries) steps → SameBoot made kept → IsAtEnd made
    → text ≡ front ++ line_of (command_line (start_of made) (history_of made.entries) (position_of made) commands.State)
    → text ≡ text_of (step_lines start [] steps ++ command_line start (history_after start [] steps) (length (history_after start [] steps)) commands.State ∷ [])
schedule_whole start steps booted kept made none front text starts empty same nothing lines leads boot at_end put =
    put ∙ (λ i. lined i ++ line_of (command_line (started i) (history i) (at i) commands.State))
    ∙ ap (λ (t : List ℕ). text_of (step_lines start [] steps) ++ t) (sym (one_line last)) ∙ sym (text_append (step_lines start [] steps) (last ∷ []))
  where
    last : List Token
    last = command_line start (history_after start [] steps) (length (history_after start [] steps)) commands.State

    first : start_of kept ≡ start
    first = ap start_of same ∙ starts

    before_all : history_of kept.entries ≡ []
    before_all = ap (λ (k : SessionState). history_of k.entries) same ∙ ap history_of empty

    lined : front ≡ text_of (step_lines start [] steps)
    lined = lines ∙ (λ i. nothing i ++ text_of (step_lines (first i) (before_all i) steps))

    started : start_of made ≡ start
    started = same_start made kept boot ∙ first

    history : history_of made.entries ≡ history_after start [] steps
    history = leads ∙ (λ i. history_after (first i) (before_all i) steps)

    at : position_of made ≡ length (history_after start [] steps)
    at = at_end ∙ sym (history_length made.entries) ∙ ap length history
