-- What the machine's readers say.
use Rattle.std.proofs.Common.{◌≡◌, ℕ, Bool, List, Option, ap, length, refl, subst, sym, ◌∙◌}
use Rattle.tx_base.specs.Slots.{slot_at}
use Rattle.tx_base.specs.declared.marks.Mark.{Mark}
use Rattle.tx_base.specs.declared.names.Sending.{Sending}
use Rattle.tx_base.specs.declared.steps.Step.{Step}
use Rattle.tx_base.specs.declared.steps.Step.TheVariants.{Call as Calls, Deliver, KernelAbort}
use Rattle.tx_change.specs.States.{state_of}
use Rattle.tx_core.specs.Laws.{MachineLaws}
use Rattle.tx_step.specs.Contents.{IsContent}
use Rattle.tx_core.specs.OwnerFacts.{reserved_read}
use Rattle.tx_laws.specs.TwoStates.{is_owner, states_view}
use Rattle.tx_content.specs.Content.{content_of, held_of, now_of, view_of}
use Rattle.tx_content.specs.declared.content.Content.{Content}
use Rattle.tx_model.specs.Events.{process_of}
use Rattle.tx_model.specs.Footprints.{footprint}
use Rattle.tx_model.specs.Membership.{Table}
use Rattle.tx_model.specs.State.{Sending as TheSending, State}
use Rattle.tx_model.specs.View.{present}
use Rattle.tx_reserve.specs.Footprints.{HoldsBy, HoldsFor, IsSetOf, table_of}
use Rattle.tx_reserve.specs.declared.objects.Objects.{Objects}
use Rattle.tx_reserve.specs.Objects.{object_of}
use Rattle.tx_reserve.specs.Reservations.{owner_of}
use Rattle.tx_reserve.specs.declared.objects.Object.{Object}
use Rattle.tx_txn.specs.Content.{two_states_of}

pub state_read : (laws : MachineLaws) (k : Content) → now_of k ≡ present (view_of k)
unfolding view_of
state_read laws k = sym (laws.present (two_states_of (content_of k)))

pub marks_read : (k : Content) (n : ℕ) → slot_at k.marks n ≡ (view_of k).table.marks n
unfolding view_of states_view
marks_read k n = refl

pub width_read : (k : Content) → IsContent k → length k.parts.procs ≡ (view_of k).table.width
unfolding view_of states_view
width_read k is = sym is.shaped.marks

-- a table of owners has what it answers
pub has_reserved : (k now : Content) (s : ℕ) (object : Object) (owner : Option ℕ) (answer : Bool) → owner ≡ owner_of k.owners (object_of object) → answer ≡ is_owner s owner → k ≡ now →
    answer ≡ (view_of now).reserved s (object_of object)
has_reserved k now s object owner answer own is same = is ∙ sym (reserved_read k s object owner own) ∙ ap (λ (it : Content). (view_of it).reserved s (object_of object)) same

-- a step names what its footprint in the parts has
holds_for : (marks : List (Option Mark)) (step : Step) (sends : List Sending) (all : ℕ → List TheSending) → HoldsBy (slot_at marks (process_of step)) sends all → HoldsFor marks step sends all
holds_for marks (Calls p call) sends all holds = holds
holds_for marks (Deliver p signo) sends all holds = holds
holds_for marks (KernelAbort starter) sends all holds = tt

table_read : (k : Content) → IsContent k → table_of k.parts k.marks ≡ (view_of k).table
table_read k is = λ j. record { width = width_read k is j; marks = λ n. marks_read k n j }

pub footprint_read : (laws : MachineLaws) (k now : Content) (step : Step) (maker : ℕ) (sends : List Sending) (set : Objects) → IsContent k → k ≡ now → maker ≡ process_of step →
    HoldsBy (slot_at now.marks maker) sends (present (view_of now)).held →
    ((all : ℕ → List TheSending) → HoldsFor k.marks step sends all → IsSetOf set (footprint (table_of k.parts k.marks) step (state_of all k.parts))) →
    IsSetOf set (footprint (view_of now).table step (present (view_of now)))
footprint_read laws k now step maker sends set is same own given told =
    let holds : HoldsBy (slot_at k.marks (process_of step)) sends (present (view_of k)).held =
    subst (λ (n : ℕ). HoldsBy (slot_at k.marks n) sends (present (view_of k)).held) own (subst (λ (c : Content). HoldsBy (slot_at c.marks maker) sends (present (view_of c)).held) (sym same) given) in
    let held : HoldsBy (slot_at k.marks (process_of step)) sends (held_of k) =
    subst (λ (S : State). HoldsBy (slot_at k.marks (process_of step)) sends S.held) (sym (state_read laws k)) holds in
    subst (λ (c : Content). IsSetOf set (footprint (view_of c).table step (present (view_of c)))) same
    (subst (λ (S : State). IsSetOf set (footprint (view_of k).table step S)) (state_read laws k)
    (subst (λ (t : Table). IsSetOf set (footprint t step (now_of k))) (table_read k is) (told (held_of k) (holds_for k.marks step sends (held_of k) held))))
