-- Facts of crossings, with their proofs.
use Rattle.std.proofs.Common.{◌≡◌, Option, Some, None, MatchOption, refl, sym, ap, subst, ◌∙◌}
use Rattle.std.proofs.lemmas.Option.{same_Some}
use Rattle.tx_content.specs.Crossings.{undone_of, inverse_at, moved_by_turn, moved_over, undone_at, HoldsBack, HoldsForward}
use Rattle.tx_content.specs.Redone.{moved_by}
use Rattle.tx_content.specs.declared.crossing.Crossing.{Crossing}
use Rattle.tx_content.specs.declared.crossing.Crossing.TheVariants.{Back, Forward, Turn as Turning}
use Rattle.tx_content.specs.declared.crossing.Turn.{Turn}
use Rattle.tx_content.specs.declared.crossing.Turn.TheVariants as turn
use Rattle.tx_content.specs.declared.inverse.Inverse.{Inverse}
use Rattle.tx_content.specs.declared.undone.Undone.{Undone}

module _ {A : Type 0} (P : A → Type 0) where
  there : (found : Option A) → MatchOption found ⊥ P → (x : A) × (found ≡ Some x) × P x
  there None holds = absurd holds
  there (Some x) holds = (x, refl, holds)

  follow : (Q : A → Type 0) (found : Option A) → ((x : A) → P x → Q x) → MatchOption found ⊥ P
      → MatchOption found ⊥ Q
  follow Q None follows holds = absurd holds
  follow Q (Some x) follows holds = follows x holds

  there_by : (found : Option A) (x : A) → found ≡ Some x → P x → MatchOption found ⊥ P
  there_by found x is so = subst (λ (it : Option A). MatchOption it ⊥ P) (sym is) so

  there_of : (found : Option A) (x : A) → found ≡ Some x → MatchOption found ⊥ P → P x
  there_of found x is holds = subst (λ (it : Option A). MatchOption it ⊥ P) is holds

-- what holds for what leads back, and all that follows
pub back_so : (P Q : Inverse → Type 0) (crossing : Crossing)
    → ((inverse : Inverse) → P inverse → Q inverse) → HoldsBack crossing P → HoldsBack crossing Q
back_so P Q crossing = follow P Q (inverse_at crossing)

pub forward_so : (P Q : Undone → Type 0) (crossing : Crossing)
    → ((undone : Undone) → P undone → Q undone) → HoldsForward crossing P → HoldsForward crossing Q
forward_so P Q crossing = follow P Q (undone_at crossing)

-- what leads back has an inverse, and what leads forward has what makes its step again
pub is_back : (P : Inverse → Type 0) (crossing : Crossing) → HoldsBack crossing P
    → (inverse : Inverse) × (inverse_at crossing ≡ Some inverse) × P inverse
is_back P crossing = there P (inverse_at crossing)

pub is_forward : (P : Undone → Type 0) (crossing : Crossing) → HoldsForward crossing P
    → (undone : Undone) × (undone_at crossing ≡ Some undone) × P undone
is_forward P crossing = there P (undone_at crossing)

-- it holds for that inverse exactly if it holds for the place that has it
module _ (P : Inverse → Type 0) (crossing : Crossing) (inverse : Inverse)
    (is : inverse_at crossing ≡ Some inverse) where
  pub back_by : P inverse → HoldsBack crossing P
  back_by = there_by P (inverse_at crossing) inverse is

  pub back_of : HoldsBack crossing P → P inverse
  back_of = there_of P (inverse_at crossing) inverse is

module _ (P : Undone → Type 0) (crossing : Crossing) (undone : Undone)
    (is : undone_at crossing ≡ Some undone) where
  pub forward_by : P undone → HoldsForward crossing P
  forward_by = there_by P (undone_at crossing) undone is

  pub forward_of : HoldsForward crossing P → P undone
  forward_of = there_of P (undone_at crossing) undone is

-- as many changes come off the stack as the step is made again with
moved_turned : (it : Turn) → moved_by_turn it ≡ moved_by (undone_of it)
moved_turned (turn.Outside log) = refl
moved_turned (turn.Inside step) = refl

pub moved_forward : (crossing : Crossing) (undone : Undone) → undone_at crossing ≡ Some undone
    → moved_over crossing ≡ moved_by undone
moved_forward (Turning turn) undone is =
    moved_turned turn ∙ ap moved_by (same_Some (undone_of turn) undone is)
moved_forward (Back inverse) undone is = absurd (let none : None ≡ Some undone = is in cc)
moved_forward (Forward taken_back) undone is = ap moved_by (same_Some taken_back undone is)
