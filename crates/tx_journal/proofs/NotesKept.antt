-- The note of a step on the view is that of the step in its history.
use Rattle.std.proofs.Common.{◌≡◌, ℕ, Bool, List, ◌∷◌, Option, sym, ap, ◌∙◌, subst, arith}
use Rattle.tx_base.specs.declared.steps.Accepted.{Accepted}
use Rattle.tx_base.specs.declared.steps.Reply.{Reply}
use Rattle.tx_base.specs.declared.steps.Step.{Step}
use Rattle.tx_laws.specs.OneMoment.{looks_at_signals}
use Rattle.tx_content.specs.Content.{view_of}
use Rattle.tx_content.specs.declared.content.Content.{Content}
use Rattle.tx_model.specs.Answer.{Lawful}
use Rattle.tx_model.specs.Events.{effect, process_of}
use Rattle.tx_model.specs.History.{event_of, nobody, role_in, without}
use Rattle.tx_model.specs.State.{State}
use Rattle.tx_model.specs.View.{View, view}
use Rattle.tx_journal.proofs.RolesKept.{role_kept, IsKept}
use Rattle.tx_journal.specs.Notes.{noted_by, starter_by, begins_one, commits_one, reveals_by, reveals_of, IsNoteOf, IsNoteOn}
use Rattle.tx_journal.specs.declared.notes.Note.{Note}

-- whether it reveals a moment, by its posts
reveals_same : (S : State) (e : Accepted) (h : List Accepted) (starter : Option ℕ) →
    reveals_by starter (process_of e.step) (looks_at_signals e.step) (effect (event_of S e h) (without S nobody h)).sends ≡ reveals_of starter S e h
reveals_same S e h starter = grind arith

pub note_in : (S : State) (e : Accepted) (h : List Accepted) (note : Note) → Lawful S (e ∷ h) → IsNoteOn (view S h) e.step note → IsNoteOf S e h note
unfolding Lawful view
note_in S e h note lawful is =
    let kept : IsKept (view S h) e.step e.reply = role_kept (view S h) e.step e.reply lawful.1 lawful.2 in
    is
    ∙ (λ j. noted_by (sym kept.role_is j) (process_of e.step) (looks_at_signals e.step) (effect (sym kept.event_is j) (without S nobody h)).sends)
    ∙ ap (λ (reveals : Bool). record { starter = starter_by (role_in S e h); begins = begins_one (role_in S e h); commits = commits_one (role_in S e h); reveals = reveals }) (reveals_same S e h (starter_by (role_in S e h)))

pub note_along : (k old : Content) (step : Step) (note : Note) → k ≡ old → IsNoteOn (view_of k) step note → (start : State) (earlier : List Accepted) (reply : Reply) →
    Lawful start (record { step = step; reply = reply } ∷ earlier) → view_of old ≡ view start earlier → IsNoteOf start (record { step = step; reply = reply }) earlier note
note_along k old step note same is start earlier reply lawful seen =
    note_in start (record { step = step; reply = reply }) earlier note lawful
    (subst (λ (V : View). IsNoteOn V step note) (ap view_of same ∙ seen) is)
