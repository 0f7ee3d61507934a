-- What some steps of a schedule leave: the lines of their answers, and a machine that has the view of their history.
use Rattle.std.proofs.Common.{◌≡◌, ℕ, ◌+◌, List, [], ◌∷◌, ◌++◌, Bool, true, false, ◌⊎◌, inl, inr, refl, sym, ap, ◌∙◌, subst, append_assoc}
use Rattle.std.proofs.lemmas.List.{append-nil}
use Rattle.tx_base.specs.declared.steps.Accepted.{Accepted}
use Rattle.tx_base.specs.declared.steps.Refusal.TheVariants.{NoMemory}
use Rattle.tx_base.specs.declared.steps.Reply.{Reply}
use Rattle.tx_base.specs.declared.steps.Reply.TheVariants.{Done, Ended, Committed, Aborted, Out, No}
use Rattle.tx_base.specs.declared.steps.Step.{Step}
use Rattle.tx_content.specs.Content.{view_of}
use Rattle.tx_core.specs.Runs.{IsAfter}
use Rattle.tx_content.specs.declared.content.Content.{Content}
use Rattle.tx_model.specs.Answer.{answer, IsAccepted, Lawful}
use Rattle.tx_model.specs.Schedules.{history_with, answers_of, history_of}
use Rattle.tx_model.specs.State.{State}
use Rattle.tx_model.specs.View.{View, view}

-- so far: the steps that are left lead from the history so far to that of the whole schedule, and what is reported of their replies, the first
-- by that number, from what is reported so far to all
pub record RepliesSoFar {A : Type 0} (reported : ℕ → List Reply → List A) (start : State) (earlier : List Accepted) (steps : List Step) (before : List A) (machine : Content) (now : List A) (number : ℕ) (left : List Step) : Type 0 where
  pub history : List Accepted
  pub after : IsAfter start history machine
  pub leads : history_of start earlier steps ≡ history_of start history left
  pub lines : before ++ reported 1 (answers_of start earlier steps) ≡ now ++ reported number (answers_of start history left)

-- one step more, of whose reply that is reported
pub one_reply_more : {A : Type 0} (reported : ℕ → List Reply → List A) (start : State) (earlier : List Accepted) (steps : List Step) (before : List A) (old new : Content) (now more one : List A) (number : ℕ) (step : Step) (left : List Step) (reply : Reply)
    → RepliesSoFar reported start earlier steps before old now number (step ∷ left) → reply ≡ answer (view_of old) step
    → ((history : List Accepted) → IsAfter start history old → IsAfter start (history_with history step reply) new)
    → ((others : List Reply) → reported number (reply ∷ others) ≡ one ++ reported (number + 1) others)
    → more ≡ now ++ one → RepliesSoFar reported start earlier steps before new more (number + 1) left
unfolding history_of answers_of
one_reply_more {A} reported start earlier steps before old new now more one number step left reply so replied made first put =
    let h : List Accepted = so.history in
    let same : answer (view start h) step ≡ reply = sym (replied ∙ ap (λ (V : View). answer V step) so.after.view) in
    let others : List Reply = answers_of start (history_with h step reply) left in
    record {
      history = history_with h step reply;
      after = made h so.after;
      leads = so.leads ∙ ap (λ (r : Reply). history_of start (history_with h step r) left) same;
      lines = so.lines
          ∙ ap (λ (r : Reply). now ++ reported number (r ∷ answers_of start (history_with h step r) left)) same
          ∙ ap (λ (xs : List A). now ++ xs) (first others)
          ∙ sym (append_assoc now one (reported (number + 1) others))
          ∙ ap (λ (xs : List A). xs ++ reported (number + 1) others) (sym put);
    }

-- no step is left
pub replies_whole : {A : Type 0} (reported : ℕ → List Reply → List A) (start : State) (earlier : List Accepted) (steps : List Step) (before : List A) (machine : Content) (now : List A) (number : ℕ) (left : List Step)
    → RepliesSoFar reported start earlier steps before machine now number left → left ≡ [] → reported number [] ≡ []
    → (now ≡ before ++ reported 1 (answers_of start earlier steps)) × IsAfter start (history_of start earlier steps) machine
unfolding history_of answers_of
replies_whole {A} reported start earlier steps before machine now number left so none nothing = (
  sym (so.lines ∙ ap (λ (xs : List Step). now ++ reported number (answers_of start so.history xs)) none ∙ ap (λ (xs : List A). now ++ xs) nothing ∙ append-nil now),
  subst (λ (h : List Accepted). IsAfter start h machine) (sym (so.leads ∙ ap (history_of start so.history) none)) so.after,
)

-- replies as they are, without their numbers
abbrev pub as_they_are : ℕ → List Reply → List Reply
as_they_are number replies = replies

-- the answer, where it is not lack of memory
pub replied_answer : (V : View) (step : Step) (reply : Reply) → (reply ≡ No NoMemory) ⊎ (answer V step ≡ reply) → (reply ≡ No NoMemory → ⊥) → reply ≡ answer V step
replied_answer V step reply (inl wants) other = absurd (other wants)
replied_answer V step reply (inr same) other = sym same

unless_accepted : (reply : Reply) (made : Bool) → (made ≡ true → IsAccepted reply) → (IsAccepted reply → ⊥) → made ≡ false
unless_accepted reply false yields refused = refl
unless_accepted reply true yields refused = absurd (refused (yields refl))

-- the machine after a step: where it was accepted its entry is the last, and where it was refused nothing has changed
pub after_reply : (start : State) (earlier : List Accepted) (step : Step) (reply : Reply) (made : Bool) (old new : Content) → IsAfter start earlier old → (made ≡ true → IsAccepted reply) → (made ≡ false → new ≡ old)
    → (IsAccepted reply → Lawful start (record { step = step; reply = reply } ∷ earlier) × (view_of new ≡ view start (record { step = step; reply = reply } ∷ earlier))) → IsAfter start (history_with earlier step reply) new
after_reply start earlier step (No why) made old new so yields same along = subst (IsAfter start earlier) (sym (same (unless_accepted (No why) made yields (λ accepted. accepted)))) so
after_reply start earlier step (Done ret) made old new so yields same along = record { lawful = (along tt).0; view = (along tt).1 }
after_reply start earlier step Ended made old new so yields same along = record { lawful = (along tt).0; view = (along tt).1 }
after_reply start earlier step (Committed undelivered) made old new so yields same along = record { lawful = (along tt).0; view = (along tt).1 }
after_reply start earlier step (Aborted status) made old new so yields same along = record { lawful = (along tt).0; view = (along tt).1 }
after_reply start earlier step (Out bytes) made old new so yields same along = record { lawful = (along tt).0; view = (along tt).1 }

-- the machine at the start
pub after_nothing : (start : State) (machine : Content) → view_of machine ≡ view start [] → IsAfter start [] machine
unfolding Lawful
after_nothing start machine same = record { lawful = tt; view = same }
