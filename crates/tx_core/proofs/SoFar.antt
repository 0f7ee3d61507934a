-- Runs, one step more.
use Rattle.std.proofs.Common.{◌≡◌, List, [], ◌∷◌, ◌++◌, reverse, refl, sym, ap, ◌∙◌, subst, inl, inr, ◌⊎◌}
use Rattle.std.proofs.lemmas.List.{reverse-append}
use Rattle.tx_base.specs.declared.steps.Accepted.{Accepted}
use Rattle.tx_base.specs.declared.steps.Refusal.TheVariants.{NoMemory}
use Rattle.tx_base.specs.declared.steps.Reply.{Reply}
use Rattle.tx_base.specs.declared.steps.Reply.TheVariants.{Done, Ended, Committed, Aborted, Out, No}
use Rattle.tx_base.specs.declared.steps.Step.{Step}
use Rattle.tx_content.specs.Content.{view_of}
use Rattle.tx_core.specs.Runs.{RunsFrom}
use Rattle.tx_content.specs.declared.content.Content.{Content}
use Rattle.tx_model.specs.Answer.{answer, IsAccepted, Lawful}
use Rattle.tx_model.specs.Schedules.{history_with, history_of}
use Rattle.tx_model.specs.State.{State}
use Rattle.tx_model.specs.View.{View, view}

pub run_starts : (start : State) (k : Content) (entries : List Accepted) → entries ≡ [] → view_of k ≡ view start [] → RunsFrom start [] k entries
unfolding Lawful history_of
run_starts start k entries none same =
    let empty : reverse entries ≡ [] = ap reverse none in
    record {
      history = empty;
      lawful = subst (Lawful start) (sym empty) tt;
      view = same ∙ ap (view start) (sym empty);
    }

recorded_accepted : (h : List Accepted) (step : Step) (r : Reply) → IsAccepted r → history_with h step r ≡ record { step = step; reply = r } ∷ h
recorded_accepted h step (No why) a = absurd a
recorded_accepted h step (Done r) a = refl
recorded_accepted h step Ended a = refl
recorded_accepted h step (Committed undelivered) a = refl
recorded_accepted h step (Aborted status) a = refl
recorded_accepted h step (Out bytes) a = refl

recorded_refused : (h : List Accepted) (step : Step) (r : Reply) → (IsAccepted r → ⊥) → history_with h step r ≡ h
recorded_refused h step (No why) a = refl
recorded_refused h step (Done r) a = absurd (a tt)
recorded_refused h step Ended a = absurd (a tt)
recorded_refused h step (Committed undelivered) a = absurd (a tt)
recorded_refused h step (Aborted status) a = absurd (a tt)
recorded_refused h step (Out bytes) a = absurd (a tt)

-- the history of a schedule and one more step
history_of_more : (start : State) (h : List Accepted) (made : List Step) (step : Step)
    → history_of start h (made ++ step ∷ []) ≡ history_with (history_of start h made) step (answer (view start (history_of start h made)) step)
unfolding history_of
history_of_more start h [] step = refl
history_of_more start h (first ∷ made) step = history_of_more start (history_with h first (answer (view start h) first)) made step

-- the same of a run, by the reply that the step gets
one_more : (start : State) (made : List Step) (step : Step) (old : Content) (entries : List Accepted) (reply : Reply) → RunsFrom start made old entries → answer (view_of old) step ≡ reply
    → history_with (reverse entries) step reply ≡ history_of start [] (made ++ step ∷ [])
one_more start made step old entries reply so answered =
    ap (history_with (reverse entries) step) (sym answered ∙ ap (λ (V : View). answer V step) so.view)
    ∙ ap (λ (h : List Accepted). history_with h step (answer (view start h) step)) so.history
    ∙ sym (history_of_more start [] made step)

pub run_accepted : (start : State) (made : List Step) (step : Step) (old new : Content) (entries : List Accepted) (reply : Reply) → RunsFrom start made old entries
    → answer (view_of old) step ≡ reply → IsAccepted reply
    → Lawful start (record { step = step; reply = reply } ∷ reverse entries) × (view_of new ≡ view start (record { step = step; reply = reply } ∷ reverse entries))
    → RunsFrom start (made ++ step ∷ []) new (entries ++ record { step = step; reply = reply } ∷ [])
run_accepted start made step old new entries reply so answered acc along =
    let e : Accepted = record { step = step; reply = reply } in
    let list : reverse (entries ++ e ∷ []) ≡ e ∷ reverse entries = reverse-append entries (e ∷ []) in
    record {
      history = list ∙ sym (recorded_accepted (reverse entries) step reply acc) ∙ one_more start made step old entries reply so answered;
      lawful = subst (Lawful start) (sym list) along.0;
      view = along.1 ∙ ap (view start) (sym list);
    }

pub run_refused : (start : State) (made : List Step) (step : Step) (old new : Content) (entries : List Accepted) (reply : Reply) → RunsFrom start made old entries
    → answer (view_of old) step ≡ reply → (IsAccepted reply → ⊥) → new ≡ old → RunsFrom start (made ++ step ∷ []) new entries
run_refused start made step old new entries reply so answered ref same = record {
  history = sym (recorded_refused (reverse entries) step reply ref) ∙ one_more start made step old entries reply so answered;
  lawful = so.lawful;
  view = ap view_of same ∙ so.view;
}

-- the answer, where it is not want of memory
pub answered_of : (V : View) (step : Step) (reply : Reply) → (reply ≡ No NoMemory) ⊎ (answer V step ≡ reply) → (reply ≡ No NoMemory → ⊥) → answer V step ≡ reply
answered_of V step reply (inl h) other = absurd (other h)
answered_of V step reply (inr h) other = h

pub accepted_not : (reply : Reply) → IsAccepted reply → reply ≡ No NoMemory → ⊥
accepted_not reply a e = subst IsAccepted e a
