-- What leads over an accepted step.
use Rattle.std.specs.Prelude.{◌≡◌, ℕ, false, List, Option, Some, None, MatchOption, OnOk, Result}
use Rattle.tx_change.specs.declared.change.Change.{Change}
use Rattle.tx_content.specs.Content.{IsShaped}
use Rattle.tx_content.specs.Redone.{moved_by, moved_of, IsTakenBack, Redoes, TakesBack}
use Rattle.tx_content.specs.declared.content.Content.{Content}
use Rattle.tx_content.specs.declared.crossing.Crossing.{Crossing}
use Rattle.tx_content.specs.declared.crossing.Crossing.TheVariants.{Back, Forward, Turn as Turning}
use Rattle.tx_content.specs.declared.crossing.Turn.{Turn}
use Rattle.tx_content.specs.declared.crossing.Turn.TheVariants as turn
use Rattle.tx_content.specs.declared.inverse.Inverse.{Inverse}
use Rattle.tx_content.specs.declared.inverse.Inverse.TheVariants.{Inside, Outside}
use Rattle.tx_content.specs.declared.undone.Undone.{Undone}
use Rattle.tx_content.specs.declared.undone.Undone.TheVariants as taken

-- the inverse that this is where it leads back: without a post, or without a signal that was handed
-- out
abbrev pub inverse_of : Turn → Inverse
inverse_of (turn.Outside log) = Outside log None
inverse_of (turn.Inside step) = Inside step false

-- what makes the step again where it leads forward
abbrev pub undone_of : Turn → Undone
undone_of (turn.Outside log) = taken.Outside log None
undone_of (turn.Inside step) = taken.Inside step None

-- the inverse, if it leads back
abbrev pub inverse_at : Crossing → Option Inverse
inverse_at (Turning turn) = Some (inverse_of turn)
inverse_at (Back inverse) = Some inverse
inverse_at (Forward undone) = None

-- what makes the step again, if it leads forward
abbrev pub undone_at : Crossing → Option Undone
undone_at (Turning turn) = Some (undone_of turn)
undone_at (Back inverse) = None
undone_at (Forward undone) = Some undone

-- it leads back, and the inverse is so
abbrev pub HoldsBack : Crossing → (Inverse → Type 0) → Type 0
HoldsBack crossing so = MatchOption (inverse_at crossing) ⊥ so

-- it leads forward, and what makes the step again is so
abbrev pub HoldsForward : Crossing → (Undone → Type 0) → Type 0
HoldsForward crossing so = MatchOption (undone_at crossing) ⊥ so

-- the content after a step that the crossing leads forward over, if it was made again
abbrev pub Remakes : {E : Type 0} → Content → Crossing → List Change → Result Unit E → Content
    → Type 0
Remakes k crossing stack made new =
    (after : Content) (inverse : Inverse)
    → HoldsForward crossing (λ undone. Redoes k undone stack after inverse)
    → OnOk made (new ≡ after)

-- what takes the step back, if it was made again, takes back what the crossing had taken back
abbrev pub Reverses : {E : Type 0} → Content → Crossing → List Change → Result Unit E → Crossing
    → Content → Type 0
Reverses k crossing stack made now new =
    IsShaped k → (after : Content) (rest : List Change)
    → HoldsForward crossing (λ undone. IsTakenBack k undone stack after rest)
    → OnOk made (HoldsBack now (TakesBack k new))

-- how many changes go onto the stack, or off it, in a walk over the step
abbrev pub moved_by_turn : Turn → ℕ
moved_by_turn (turn.Outside log) = 0
moved_by_turn (turn.Inside step) = step.count

abbrev pub moved_over : Crossing → ℕ
moved_over (Turning turn) = moved_by_turn turn
moved_over (Back inverse) = moved_of inverse
moved_over (Forward undone) = moved_by undone
