-- The text of the state that a machine has.
use Rattle.std.proofs.Common.{◌≡◌, ℕ, List, ◌++◌, length, codes, refl, append_assoc, arith}
use Rattle.tx_base.specs.Slots.{slot_at}
use Rattle.tx_change.specs.declared.parts.Parts.{Parts}
use Rattle.tx_content.specs.declared.content.Content.{Content}
use Rattle.tx_change.specs.States.{state_of}
use Rattle.tx_content.specs.Content.{held_of, view_of}
use Rattle.tx_laws.specs.TwoStates.{states_view}
use Rattle.tx_model.specs.View.{present}
use Rattle.tx_state_text.specs.Descriptors.{descs_text, pipes_text}
use Rattle.tx_state_text.specs.State.{state_text}
use Rattle.tx_state_text.specs.Processes.{procs_text}
use Rattle.tx_state_text.specs.Txns.{txns_text}

pub marks_are : (k : Content) → slot_at k.marks ≡ (view_of k).table.marks
unfolding view_of states_view
marks_are k = refl

pub state_spelled : (k : Content) (parts : Parts) (width : ℕ) (before one two three four five : List ℕ) → parts ≡ k.parts → state_of (held_of k) parts ≡ present (view_of k) → width ≡ length k.parts.procs → width ≡ (view_of k).table.width →
    one ≡ before ++ codes "state\n" → two ≡ one ++ procs_text width (state_of (held_of k) parts).procs → three ≡ two ++ descs_text (state_of (held_of k) parts).descs →
    four ≡ three ++ pipes_text (state_of (held_of k) parts).pipes → five ≡ four ++ txns_text width (slot_at k.marks) (present (view_of k)).held →
    five ≡ before ++ state_text (view_of k)
state_spelled k parts width before one two three four five p same count table first second third fourth fifth = grind (arith, append_assoc, marks_are)
