-- Who is in the way of a step, by what the machine keeps.
use Rattle.std.specs.Prelude.{◌≡◌, ℕ, Bool, true, false, List, [], ◌∷◌, Option, Some, None, if◌then◌else◌}
use Rattle.tx_base.specs.Slots.{slot_at}
use Rattle.tx_base.specs.declared.marks.Mark.{Mark}
use Rattle.tx_step.specs.Faces.{starter_differs}
use Rattle.tx_laws.specs.TwoStates.{is_owner}
use Rattle.tx_content.specs.Content.{now_of}
use Rattle.tx_content.specs.declared.content.BoxedTxn.{BoxedTxn}
use Rattle.tx_content.specs.declared.content.Content.{Content}
use Rattle.tx_model.specs.Events.{Event, actor, objects}
use Rattle.tx_model.specs.State.{Held, Process, Sending, has_object}
use Rattle.tx_proc.specs.Parts.{process_in}
use Rattle.tx_reserve.specs.Reservations.{lesser_of}

-- the starter by whose number a mark names its transaction
abbrev pub starter_in : Option Mark → Option ℕ
starter_in None = None
starter_in (Some m) = Some m.starter.0

-- if the process is in a transaction, the event is made by a member of it and what it holds is that
-- transaction's, else by a member of none
pub record IsOfMember (k : Content) (own : Option ℕ) (event : Event) : Type 0 where
  pub member : own ≡ starter_in (slot_at k.marks (actor event))
  pub holds : (s : ℕ) → has_object (Held s) (objects event (now_of k)) ≡ true → own ≡ Some s

-- whether this slot has a transaction of s other than the step's own, and one of these sends to s
-- is answered differently now than after its abort
abbrev pub two_answers_in : Option ℕ → List Sending → ℕ → Option Process → Option BoxedTxn → Bool
two_answers_in own ms s x None = false
two_answers_in own ms s x (Some boxed) =
    if is_owner s own then false else starter_differs s ms x boxed.txn.value.kept

abbrev pub gives_two_answers : Content → Option ℕ → List Sending → ℕ → Bool
gives_two_answers k own ms s =
    two_answers_in own ms s (process_in (slot_at k.parts.procs s)) (slot_at k.txns s)

-- the number, if it passes the test
abbrev pub passing : (ℕ → Bool) → ℕ → Option ℕ
passing P n = if P n then Some n else None

-- the least of this number and the targets of these sends that pass the test
abbrev pub least_with : (ℕ → Bool) → List Sending → Option ℕ → Option ℕ
least_with P [] best = best
least_with P (m ∷ ms) best = least_with P ms (lesser_of best (passing P m.target))

-- the least target that passes the test
abbrev pub least_target : (ℕ → Bool) → List Sending → Option ℕ
least_target P ms = least_with P ms None
