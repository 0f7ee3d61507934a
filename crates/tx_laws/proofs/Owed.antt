-- What the rule of a call or a delivery owes to the laws.
use Rattle.std.proofs.Common.{◌≡◌, ℕ, true, List, ◌∷◌, Option, Some}
use Rattle.tx_model.specs.State.{Process, State, Sending, Object, Proc, Held, has_object}
use Rattle.tx_model.specs.StateLaws.{AgreeOn}
use Rattle.tx_model.specs.Effects.{Inside, Effect}
use Rattle.tx_laws.specs.Fits.{IsIn}
use Rattle.tx_laws.proofs.Objects.{WritesFit, ConclusionIn, Covers}

-- the rule of process p, which is so, has this effect and these objects: it does the same where states agree at them, it
-- writes to nothing else, it sends to members alone, and it holds with its own transaction
pub record IsLocal (inside : Option Inside) (p : ℕ) (me : Process) (f : State → Effect) (os : State → List Object) : Type 0 where
  pub same : (S R : State) → AgreeOn (Proc p ∷ os S) S R → f S ≡ f R
  pub foot : (S R : State) → AgreeOn (Proc p ∷ os S) S R → os S ≡ os R
  pub fits : (S : State) (all : List Object) → S.procs p ≡ Some me → Covers all (Proc p ∷ os S) → WritesFit S all (f S).writes × ConclusionIn (f S).conclusion all
  pub sends : (S : State) (i : Inside) → inside ≡ Some i → i.members p ≡ true → (m : Sending) → IsIn m (f S).sends → i.members m.target ≡ true
  pub holds : (S : State) (i : Inside) → inside ≡ Some i → (u : ℕ) → has_object (Held u) (os S) ≡ true → u ≡ i.starter
