-- The tokens of the state that a machine has.
use Rattle.std.proofs.Common.{◌≡◌, ℕ, List, ◌++◌, append_assoc, length, refl, ap, ◌∙◌, sym}
use Rattle.json.specs.Token.{Token}
use Rattle.tx_base.specs.Slots.{slot_at}
use Rattle.tx_change.specs.States.{state_of}
use Rattle.tx_change.specs.declared.parts.Parts.{Parts}
use Rattle.tx_json.specs.Members.{begin_object, end_object}
use Rattle.tx_json.specs.State.{parts_tokens, state_tokens}
use Rattle.tx_json.specs.Txns.{txns_member}
use Rattle.tx_laws.specs.TwoStates.{states_view}
use Rattle.tx_content.specs.Content.{held_of, view_of}
use Rattle.tx_content.specs.declared.content.Content.{Content}
use Rattle.tx_model.specs.State.{State}
use Rattle.tx_model.specs.View.{present}

marks_are : (k : Content) → slot_at k.marks ≡ (view_of k).table.marks
unfolding view_of states_view
marks_are k = refl

pub state_appended : (k : Content) (parts : Parts) (width : ℕ) (before now : List Token) → parts ≡ k.parts → state_of (held_of k) parts ≡ present (view_of k) → width ≡ length k.parts.procs → width ≡ (view_of k).table.width →
    now ≡ before ++ (begin_object ++ (parts_tokens width (state_of (held_of k) parts) ++ (txns_member width (slot_at k.marks) (present (view_of k)).held ++ end_object))) →
    now ≡ before ++ state_tokens (view_of k)
state_appended k parts width before now p same count table all =
    let long : width ≡ (present (view_of k)).width = count ∙ ap (λ (parts : Parts). length parts.procs) (sym p) ∙ ap (λ (S : State). S.width) same in
    all ∙ (λ j. before ++ (begin_object ++ (parts_tokens (long j) (same j) ++ (txns_member (table j) (marks_are k j) (present (view_of k)).held ++ end_object))))

-- four parts, one after another
pub four_appended : (before one two three now a b c d : List Token) → one ≡ before ++ a → two ≡ one ++ b → three ≡ two ++ c → now ≡ three ++ d → now ≡ before ++ (a ++ (b ++ (c ++ d)))
four_appended before one two three now a b c d first second third fourth =
    fourth ∙ ap (λ (t : List Token). t ++ d) third ∙ append_assoc two c d
    ∙ ap (λ (t : List Token). t ++ (c ++ d)) second ∙ append_assoc one b (c ++ d)
    ∙ ap (λ (t : List Token). t ++ (b ++ (c ++ d))) first ∙ append_assoc before a (b ++ (c ++ d))
