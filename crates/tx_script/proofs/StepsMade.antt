-- What the steps of a schedule make of a session.
use Rattle.std.proofs.Common.{◌≡◌, ℕ, List, [], ◌∷◌, ◌++◌, length, map, reverse, take, ◌⊎◌, refl, sym, ap, ◌∙◌, arith}
use Rattle.std.proofs.lemmas.List.{length-map, length-reverse, map-append, reverse-append, reverse-reverse, take-map, take_all}
use Rattle.tx_base.specs.declared.steps.Accepted.{Accepted}
use Rattle.tx_base.specs.declared.steps.Refusal.TheVariants.{NoMemory}
use Rattle.tx_base.specs.declared.steps.Reply.{Reply}
use Rattle.tx_base.specs.declared.steps.Reply.TheVariants.{Done, Ended, Committed, Aborted, Out, No}
use Rattle.tx_base.specs.declared.steps.Step.{Step}
use Rattle.tx_journal.specs.Entries.{accepted_of, history_of}
use Rattle.tx_journal.specs.Sessions.{IsAtEnd, SessionState, SameBoot, made_of, position_of, start_of}
use Rattle.tx_journal.specs.declared.entry.Entry.{Entry}
use Rattle.tx_content.specs.Content.{view_of}
use Rattle.tx_model.specs.Answer.{IsAccepted, answer}
use Rattle.tx_model.specs.Schedules.{history_with, history_of as history_after}
use Rattle.tx_model.specs.State.{State, boot_state}
use Rattle.tx_model.specs.View.{View, view}
use Rattle.tx_script.proofs.Reported.{replied_answer}
use Rattle.tx_script.specs.Debug.{first_steps, view_at}
use Rattle.tx_script.specs.Made.{IsMade}
use Rattle.tx_script.specs.Report.{start_state}
use Rattle.tx_lines.specs.declared.read.header.Header.{Header}

pub history_length : (entries : List Entry) → length (history_of entries) ≡ length entries
history_length entries = length-reverse (map accepted_of entries) ∙ length-map entries accepted_of

-- the entries up to a position are the first steps of the history
pub history_to : (at : ℕ) (entries : List Entry) → history_of (take at entries) ≡ first_steps at (history_of entries)
history_to at entries =
    ap (λ (h : List Accepted). reverse h) (sym (take-map accepted_of at entries))
    ∙ ap (λ (h : List Accepted). reverse (take at h)) (sym (reverse-reverse (map accepted_of entries)))

-- what is shown at the position
pub shown_at : (k : SessionState) → view (start_of k) (history_of (made_of k)) ≡ view_at (start_of k) (history_of k.entries) (position_of k)
shown_at k = ap (λ (h : List Accepted). view (start_of k) h) (history_to (position_of k) k.entries)

history_more : (entries : List Entry) (e : Entry) → history_of (entries ++ e ∷ []) ≡ accepted_of e ∷ history_of entries
history_more entries e = ap (λ (h : List Accepted). reverse h) (map-append accepted_of entries (e ∷ [])) ∙ reverse-append (map accepted_of entries) (accepted_of e ∷ [])

-- where all entries are made
made_all : (k : SessionState) → IsAtEnd k → made_of k ≡ k.entries
made_all k at_end = take_all (position_of k) k.entries (omega (arith, at_end))

pub same_start : (new old : SessionState) → SameBoot new old → start_of new ≡ start_of old
same_start new old boot = ap (λ (w : ℕ). boot_state w new.count) boot.width ∙ ap (boot_state old.width) boot.count

-- a step adds its entry where it is accepted, and nothing else
step_recorded : (old new : SessionState) (worker : ℕ) (step : Step) (reply : Reply) → (IsAccepted reply → new.entries ≡ old.entries ++ record { step = step; worker = worker; reply = reply } ∷ []) → ((IsAccepted reply → ⊥) → new ≡ old)
    → history_of new.entries ≡ history_with (history_of old.entries) step reply
step_recorded old new worker step (No why) adds same = ap (λ (k : SessionState). history_of k.entries) (same (λ accepted. accepted))
step_recorded old new worker step (Done ret) adds same = ap history_of (adds tt) ∙ history_more old.entries (record { step = step; worker = worker; reply = Done ret })
step_recorded old new worker step Ended adds same = ap history_of (adds tt) ∙ history_more old.entries (record { step = step; worker = worker; reply = Ended })
step_recorded old new worker step (Committed undelivered) adds same = ap history_of (adds tt) ∙ history_more old.entries (record { step = step; worker = worker; reply = Committed undelivered })
step_recorded old new worker step (Aborted status) adds same = ap history_of (adds tt) ∙ history_more old.entries (record { step = step; worker = worker; reply = Aborted status })
step_recorded old new worker step (Out bytes) adds same = ap history_of (adds tt) ∙ history_more old.entries (record { step = step; worker = worker; reply = Out bytes })

-- the reply to a step that did not lack memory, and the history after it
pub step_made : (old new : SessionState) (worker : ℕ) (step : Step) (reply : Reply) → IsAtEnd old → view_of old.machine ≡ view (start_of old) (history_of (made_of old))
    → (reply ≡ No NoMemory) ⊎ (answer (view_of old.machine) step ≡ reply) → (reply ≡ No NoMemory → ⊥)
    → (IsAccepted reply → new.entries ≡ old.entries ++ record { step = step; worker = worker; reply = reply } ∷ []) → ((IsAccepted reply → ⊥) → new ≡ old)
    → (reply ≡ answer (view (start_of old) (history_of old.entries)) step) × (history_of new.entries ≡ history_with (history_of old.entries) step reply)
step_made old new worker step reply at_end shows answers other adds same = (
  replied_answer (view_of old.machine) step reply answers other
      ∙ ap (λ (V : View). answer V step) (shows ∙ ap (λ (xs : List Entry). view (start_of old) (history_of xs)) (made_all old at_end)),
  step_recorded old new worker step reply adds same,
)

-- so far: the steps that are left lead from the history so far to that of all steps
pub record StepsSoFar (first now : SessionState) (steps left : List Step) : Type 0 where
  pub leads : history_after (start_of first) (history_of first.entries) steps ≡ history_after (start_of first) (history_of now.entries) left
  pub boot : SameBoot now first
  pub at_end : IsAtEnd now

pub no_steps : (first : SessionState) (steps : List Step) → IsAtEnd first → StepsSoFar first first steps steps
no_steps first steps at_end = record { leads = refl; boot = record { width = refl; count = refl }; at_end = at_end }

module _ (first old new : SessionState) (steps : List Step) (step : Step) (left : List Step) (reply : Reply) (so : StepsSoFar first old steps (step ∷ left))
    (answered : reply ≡ answer (view (start_of old) (history_of old.entries)) step) (made : history_of new.entries ≡ history_with (history_of old.entries) step reply) where
  abbrev pub begun : State
  begun = start_of first

  abbrev pub earlier : List Accepted
  earlier = history_of old.entries

  -- the reply, as the history from the start has it
  pub replied : answer (view begun earlier) step ≡ reply
  replied = sym (answered ∙ ap (λ (S : State). answer (view S earlier) step) (same_start old first so.boot))

  pub one_step_more : SameBoot new old → IsAtEnd new → StepsSoFar first new steps left
  unfolding history_after
  one_step_more boot at_end = record {
    leads = so.leads ∙ ap (λ (r : Reply). history_after begun (history_with earlier step r) left) replied ∙ ap (λ (h : List Accepted). history_after begun h left) (sym made);
    boot = record { width = boot.width ∙ so.boot.width; count = boot.count ∙ so.boot.count };
    at_end = at_end;
  }

pub steps_whole : (first now : SessionState) (steps left : List Step) → StepsSoFar first now steps left → left ≡ [] → history_of now.entries ≡ history_after (start_of first) (history_of first.entries) steps
unfolding history_after
steps_whole first now steps left so none = sym (so.leads ∙ ap (history_after (start_of first) (history_of now.entries)) none)

-- the session that is booted, has room, and then the steps
pub all_made : (header : Header) (steps : List Step) (booted kept made : SessionState) → start_of booted ≡ start_state header → booted.entries ≡ [] → kept ≡ booted
    → history_of made.entries ≡ history_after (start_of kept) (history_of kept.entries) steps → SameBoot made kept → IsAtEnd made → IsMade header steps made
all_made header steps booted kept made starts empty same leads boot at_end =
    let first : start_of kept ≡ start_state header = ap start_of same ∙ starts in
    let before_all : history_of kept.entries ≡ [] = ap (λ (k : SessionState). history_of k.entries) same ∙ ap history_of empty in
    let history : history_of made.entries ≡ history_after (start_state header) [] steps = leads ∙ (λ i. history_after (first i) (before_all i) steps) in
    record {
      start = same_start made kept boot ∙ first;
      history = history;
      at = at_end ∙ sym (history_length made.entries) ∙ ap length history;
    }

-- what is said of its start, its history and its position
pub said_of : {A : Type 0} (say : State → List Accepted → ℕ → A) (header : Header) (steps : List Step) (session : SessionState) → IsMade header steps session
    → say (start_of session) (history_of session.entries) (position_of session)
    ≡ say (start_state header) (history_after (start_state header) [] steps) (length (history_after (start_state header) [] steps))
said_of say header steps session made = λ i. say (made.start i) (made.history i) (made.at i)
