-- What is kept of what a step may change.
use Rattle.std.proofs.Common.{◌≡◌, ◌<◌, ℕ, List, Option, None, length, map, arith, refl, sym, ap, subst, ◌∙◌}
use Rattle.tx_base.specs.SlotFacts.{slot_there}
use Rattle.tx_base.specs.Slots.{slot_at}
use Rattle.tx_base.specs.declared.marks.Mark.{Mark}
use Rattle.tx_base.specs.declared.names.Sending.{Sending}
use Rattle.tx_base.specs.declared.steps.Step.{Step}
use Rattle.tx_change.specs.States.{state_of}
use Rattle.tx_change.specs.declared.parts.Parts.{Parts}
use Rattle.tx_core.specs.Machines.{IsMachine, IsWidth}
use Rattle.tx_journal.specs.Lives.{starter_of}
use Rattle.tx_journal.specs.Reach.{own_mark, own_table}
use Rattle.tx_journal.specs.Reaches.{IsSmall}
use Rattle.tx_journal.specs.Rows.{limit_of, piece_in}
use Rattle.tx_journal.specs.declared.rows.Row.{Row}
use Rattle.tx_kernel.specs.Plans.{sending_of}
use Rattle.tx_laws.specs.TwoStates.{states_view}
use Rattle.tx_content.specs.Content.{held_of, view_of}
use Rattle.tx_content.specs.declared.content.Content.{Content}
use Rattle.tx_model.specs.Footprints.{footprint}
use Rattle.tx_model.specs.Membership.{Table}
use Rattle.tx_model.specs.State.{Sending as TheSending, State}
use Rattle.tx_model.specs.View.{present}
use Rattle.tx_reserve.specs.Footprints.{HoldsFor, IsSetOf, table_of}
use Rattle.tx_reserve.specs.declared.objects.Objects.{Objects}

-- beyond the process numbers there is no mark
pub none_beyond : (k : Content) (n : ℕ) → (view_of k).table.width < n → (view_of k).table.marks n ≡ None
unfolding view_of states_view
none_beyond k n beyond = grind (arith, slot_there)

pub none_at_zero : (k : Content) → (view_of k).table.marks 0 ≡ None
unfolding view_of states_view
none_at_zero k = refl

pub width_is : (k : Content) → IsMachine k → length k.parts.procs ≡ (view_of k).table.width
unfolding view_of states_view
width_is k is = sym is.content.shaped.marks

holds_own : (own : List (Option Mark)) (marks : ℕ → Option Mark) (s : ℕ) (copied : (n : ℕ) → slot_at own n ≡ own_mark s (marks n)) (step : Step) (sends : List Sending) (all : ℕ → List TheSending) → all s ≡ map sending_of sends → HoldsFor own step sends all
holds_own own marks s copied step sends all held = grind arith

-- the footprint by the own marks is that with the own table
pub own_footprint : (k : Content) (parts : Parts) (own : List (Option Mark)) (s : ℕ) (step : Step) (sends : List Sending) (set : Objects) → state_of (held_of k) parts ≡ present (view_of k) → parts ≡ k.parts →
    length k.parts.procs ≡ (view_of k).table.width → s ≡ starter_of (view_of k).table step → ((n : ℕ) → slot_at own n ≡ own_mark s ((view_of k).table.marks n)) → map sending_of sends ≡ (present (view_of k)).held s →
    ((all : ℕ → List TheSending) → HoldsFor own step sends all → IsSetOf set (footprint (table_of parts own) step (state_of all parts))) →
    IsSetOf set (footprint (own_table (starter_of (view_of k).table step) (view_of k).table) step (present (view_of k)))
own_footprint k parts own s step sends set state same sized starter copied held found =
    let all : held_of k s ≡ map sending_of sends = ap (λ (S : State). S.held s) state ∙ sym held in
    let table : table_of parts own ≡ own_table s (view_of k).table =
    (λ j. record { width = (ap (λ (it : Parts). length it.procs) same ∙ sized) j; marks = λ n. copied n j }) in
    subst (λ (u : ℕ). IsSetOf set (footprint (own_table u (view_of k).table) step (present (view_of k)))) starter
    (subst (λ (S : State). IsSetOf set (footprint (own_table s (view_of k).table) step S)) state
    (subst (λ (t : Table). IsSetOf set (footprint t step (state_of (held_of k) parts))) table
    (found (held_of k) (holds_own own (view_of k).table.marks s copied step sends (held_of k) all))))

-- the pieces of a machine's rows are of numbers that there may be
pub within_row : (row : Row) (width n : ℕ) → IsWidth width → n < limit_of row width → n < limit_of row 256
within_row row width n is h = grind arith

pub small_piece : (row : Row) (n : ℕ) → n < limit_of row 256 → IsSmall (piece_in row n)
small_piece row n h = grind arith
