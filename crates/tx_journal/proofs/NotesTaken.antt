-- What a step is to its transaction, by what is posted with it.
use Rattle.std.proofs.Common.{◌≡◌, ℕ, Bool, false, ◌&&◌, ◌||◌, ◌==◌, ℤ, List, Some, sym, ap, arith}
use Rattle.tx_base.specs.declared.steps.Step.{Step}
use Rattle.tx_laws.specs.OneMoment.{is_sent_to, looks_at_signals}
use Rattle.tx_content.specs.Content.{content_of, now_of, view_of}
use Rattle.tx_content.specs.declared.content.Content.{Content}
use Rattle.tx_model.specs.Events.{Note as Noting, effect, process_of}
use Rattle.tx_model.specs.Membership.{Role, Aborts}
use Rattle.tx_model.specs.State.{Sending, State}
use Rattle.tx_model.specs.View.{event_on, present, role_on}
use Rattle.tx_journal.specs.RetraceLaws.{RetraceLaws}
use Rattle.tx_journal.specs.Notes.{noted, noted_by, IsNoteOn}
use Rattle.tx_journal.specs.declared.notes.Note.{Note}
use Rattle.tx_txn.specs.Content.{two_states_of}

pub and_false : (b : Bool) → (b && false) ≡ false
and_false b = grind arith

-- an abort posts nothing
pub abort_noted : (s status : ℕ) (r : ℤ) (S : State) →
    record { starter = Some s; begins = false; commits = false; reveals = false } ≡ noted_by (Aborts s status) s false (effect (Noting s r) S).sends
unfolding effect is_sent_to
abort_noted s status r S = ap (λ (b : Bool). record { starter = Some s; begins = false; commits = false; reveals = b || false }) (sym (and_false (s == s)))

-- the view has the state of the parts
pub now_seen : (laws : RetraceLaws) (k : Content) → present (view_of k) ≡ now_of k
unfolding view_of
now_seen laws k = laws.present (two_states_of (content_of k))

-- the note of a step on the view, by its role and its posts
pub note_on : (laws : RetraceLaws) (k : Content) (step : Step) (note : Note) (role : Role) (looks : Bool) (ms : List Sending) →
    noted note ≡ noted_by role (process_of step) looks ms → role ≡ role_on (view_of k) step → looks ≡ looks_at_signals step →
    (effect (event_on (view_of k) step) (now_of k)).sends ≡ ms → IsNoteOn (view_of k) step note
note_on laws k step note role looks ms is by_role looked posted = grind (arith, now_seen)
