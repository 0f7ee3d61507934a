-- What a session would show if a step were made at its position.
use Rattle.std.specs.Prelude.{List}
use Rattle.tx_base.specs.declared.steps.Accepted.{Accepted}
use Rattle.tx_base.specs.declared.steps.Reply.{Reply}
use Rattle.tx_base.specs.declared.steps.Step.{Step}
use Rattle.tx_journal.specs.Entries.{history_of}
use Rattle.tx_journal.specs.Sessions.{SessionState, made_of, start_of}
use Rattle.tx_model.specs.Answer.{answer}
use Rattle.tx_model.specs.Schedules.{history_with}
use Rattle.tx_model.specs.State.{State}
use Rattle.tx_model.specs.View.{View, view}

-- the view after a history and one more step, if it was accepted
abbrev pub view_with : State → List Accepted → Step → View
view_with start h step = view start (history_with h step (answer (view start h) step))

-- the view at the position of a session
abbrev pub shown_at : SessionState → View
shown_at k = view (start_of k) (history_of (made_of k))

-- and after a step there
abbrev pub shown_with : SessionState → Step → View
shown_with k step = view_with (start_of k) (history_of (made_of k)) step

-- the reply that the step gets there
abbrev pub answer_there : SessionState → Step → Reply
answer_there k step = answer (shown_at k) step
