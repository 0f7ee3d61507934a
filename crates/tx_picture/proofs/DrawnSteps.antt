-- What there is to draw of some steps of a schedule.
use Rattle.std.proofs.Common.{◌≡◌, ℕ, suc, ◌+◌, List, [], ◌∷◌, length, sym, ap, ◌∙◌, add-zero, arith, length-append}
use Rattle.tx_base.specs.declared.steps.Accepted.{Accepted}
use Rattle.tx_base.specs.declared.steps.Step.{Step}
use Rattle.tx_core.specs.Runs.{IsAfter}
use Rattle.tx_content.specs.Content.{view_of}
use Rattle.tx_content.specs.declared.content.Content.{Content}
use Rattle.tx_model.specs.Answer.{answer}
use Rattle.tx_model.specs.Schedules.{history_with}
use Rattle.tx_model.specs.State.{State}
use Rattle.tx_model.specs.View.{View, view}
use Rattle.tx_picture.specs.Drawings.{drawn_from, drawn_with, holder_of}
use Rattle.tx_picture.specs.Drawn.{Drawn}

grouped : (a b : ℕ) → a + 1 + b ≡ a + suc b
grouped a b = omega arith

-- so far: the machine has the view of a history, and from there the steps that are left lead to what there is to draw of all
pub record DrawnSoFar (start : State) (earlier : List Accepted) (steps : List Step) (first : Drawn) (machine : Content) (drawn : Drawn) (row : ℕ) (left : List Step) : Type 0 where
  pub history : List Accepted
  pub after : IsAfter start history machine
  pub leads : drawn_from start earlier steps 1 first ≡ drawn_from start history left row drawn

-- one step more
pub one_step_more : (start : State) (earlier : List Accepted) (steps : List Step) (first : Drawn) (old new : Content) (drawn more : Drawn) (row : ℕ) (step : Step) (left : List Step)
    → DrawnSoFar start earlier steps first old drawn row (step ∷ left) → more ≡ drawn_with (view_of old) step row (view_of new) drawn
    → ((history : List Accepted) → IsAfter start history old → IsAfter start (history_with history step (answer (view_of old) step)) new) → DrawnSoFar start earlier steps first new more (row + 1) left
unfolding drawn_from
one_step_more start earlier steps first old new drawn more row step left so is made =
    let h : List Accepted = so.history in
    let later : View → List Accepted = λ V. history_with h step (answer V step) in
    let now = made h so.after in
    record {
      history = later (view_of old);
      after = now;
      leads = so.leads
          ∙ ap (λ (V : View). drawn_from start (later V) left (row + 1) (drawn_with V step row (view start (later V)) drawn)) (sym so.after.view)
          ∙ ap (λ (W : View). drawn_from start (later (view_of old)) left (row + 1) (drawn_with (view_of old) step row W drawn)) (sym now.view)
          ∙ ap (λ (d : Drawn). drawn_from start (later (view_of old)) left (row + 1) d) (sym is);
    }

-- no step is left
pub steps_whole : (start : State) (earlier : List Accepted) (steps : List Step) (first : Drawn) (machine : Content) (drawn : Drawn) (row : ℕ) (left : List Step)
    → DrawnSoFar start earlier steps first machine drawn row left → left ≡ [] → drawn ≡ drawn_from start earlier steps 1 first
unfolding drawn_from
steps_whole start earlier steps first machine drawn row left so none = sym (so.leads ∙ ap (λ (xs : List Step). drawn_from start so.history xs row drawn) none)

-- each step has a row
pub rows_counted : (start : State) (earlier : List Accepted) (steps : List Step) (row : ℕ) (first : Drawn) → length (drawn_from start earlier steps row first).rows ≡ length first.rows + length steps
unfolding drawn_from
rows_counted start earlier [] row first = sym (add-zero (length first.rows))
rows_counted start earlier (step ∷ steps) row first =
    let V = view start earlier in
    let later = history_with earlier step (answer V step) in
    let more = drawn_with V step row (view start later) first in
    let long : length more.rows ≡ length first.rows + 1 = length-append first.rows (record { step = step; reply = answer V step; holder = holder_of V step } ∷ []) in
    rows_counted start later steps (row + 1) more ∙ ap (λ (n : ℕ). n + length steps) long ∙ grouped (length first.rows) (length steps)
