-- What leads over a step, on a machine.
use Rattle.std.proofs.Common.{◌≡◌, List, sym, subst, Result, Ok, Err, OnOk, OnErr}
use Rattle.tx_change.specs.declared.change.Change.{Change}
use Rattle.tx_core.specs.Machines.{IsMachine}
use Rattle.tx_core.specs.Undo.{LeadsBack, LeadsOn}
use Rattle.tx_content.specs.Content.{IsShaped}
use Rattle.tx_content.specs.CrossingFacts.{back_by, back_so, forward_by, forward_so, is_back, is_forward}
use Rattle.tx_content.specs.Crossings.{HoldsBack, HoldsForward}
use Rattle.tx_content.specs.Inverses.{GoesWith, Undoes}
use Rattle.tx_content.specs.Redone.{EndsWhole, GoesAgain, IsTakenBack, Redoes, TakesBack}
use Rattle.tx_content.specs.declared.content.Content.{Content}
use Rattle.tx_content.specs.declared.crossing.Crossing.{Crossing}
use Rattle.tx_content.specs.declared.inverse.Inverse.{Inverse}

-- its numbers are ones that there are
pub goes_with : (k : Content) (crossing : Crossing) → HoldsBack crossing (LeadsBack k) → HoldsBack crossing (GoesWith k)
goes_with k crossing = back_so (LeadsBack k) (GoesWith k) crossing (λ inverse leads. leads.goes)

pub goes_again : (k : Content) (crossing : Crossing) (stack : List Change) → HoldsForward crossing (λ undone. LeadsOn k undone stack) → HoldsForward crossing (λ undone. GoesAgain k undone stack)
goes_again k crossing stack = forward_so (λ undone. LeadsOn k undone stack) (λ undone. GoesAgain k undone stack) crossing (λ undone leads. leads.taken.fits)

-- a step was taken back: a machine is left
pub machine_before : (k new : Content) (crossing : Crossing) → HoldsBack crossing (LeadsBack k) → ((before : Content) → HoldsBack crossing (λ inverse. Undoes k inverse before) → new ≡ before) → IsMachine new
machine_before k new crossing leads before =
    let found = is_back (LeadsBack k) crossing leads in
    subst IsMachine (sym (before found.2.before (back_by (λ it. Undoes k it found.2.before) crossing found.0 found.1 found.2.back))) found.2.machine

-- and it is made again from there
pub taken_back : (k new : Content) (crossing now : Crossing) (stack left : List Change) → IsMachine k → HoldsBack crossing (LeadsBack k) → ((before : Content) → HoldsBack crossing (λ inverse. Undoes k inverse before) → new ≡ before) →
    HoldsForward now (λ undone. IsShaped k → HoldsBack crossing (EndsWhole k) → (before : Content) → IsShaped before → HoldsBack crossing (λ inverse. Undoes k inverse before) → IsTakenBack before undone left k stack) →
    HoldsForward now (λ undone. HoldsBack crossing (EndsWhole k) → IsTakenBack new undone left k stack)
taken_back k new crossing now stack left machine leads before again =
    let found = is_back (LeadsBack k) crossing leads in
    let undoes : HoldsBack crossing (λ it. Undoes k it found.2.before) = back_by (λ it. Undoes k it found.2.before) crossing found.0 found.1 found.2.back in
    forward_so
    (λ undone. IsShaped k → HoldsBack crossing (EndsWhole k) → (prior : Content) → IsShaped prior → HoldsBack crossing (λ it. Undoes k it prior) → IsTakenBack prior undone left k stack)
    (λ undone. HoldsBack crossing (EndsWhole k) → IsTakenBack new undone left k stack) now
    (λ undone taken whole. subst (λ (b : Content). IsTakenBack b undone left k stack) (sym (before found.2.before undoes)) (taken machine.content.shaped whole found.2.before found.2.machine.content.shaped undoes))
    again

-- it leads to the content after the step
pub made_again : {E : Type 0} (k new : Content) (crossing : Crossing) (stack : List Change) (made : Result Unit E) →
    ((after : Content) (inverse : Inverse) → HoldsForward crossing (λ undone. Redoes k undone stack after inverse) → OnOk made (new ≡ after)) →
    (after : Content) (rest : List Change) → HoldsForward crossing (λ undone. IsTakenBack k undone stack after rest) → OnOk made (new ≡ after)
made_again k new crossing stack made to after rest taken =
    let found = is_forward (λ it. IsTakenBack k it stack after rest) crossing taken in
    to after found.2.inverse (forward_by (λ it. Redoes k it stack after found.2.inverse) crossing found.0 found.1 found.2.redoes)

-- a machine is left, whether it was made or not
pub machine_after : {E : Type 0} (k new : Content) (crossing : Crossing) (stack : List Change) (made : Result Unit E) → IsMachine k → HoldsForward crossing (λ undone. LeadsOn k undone stack) →
    ((after : Content) (inverse : Inverse) → HoldsForward crossing (λ undone. Redoes k undone stack after inverse) → OnOk made (new ≡ after)) → OnErr made (new ≡ k) → IsMachine new
machine_after k new crossing stack (Ok done) machine leads to same =
    let found = is_forward (λ it. LeadsOn k it stack) crossing leads in
    subst IsMachine (sym (to found.2.after found.2.taken.inverse (forward_by (λ it. Redoes k it stack found.2.after found.2.taken.inverse) crossing found.0 found.1 found.2.taken.redoes))) found.2.machine
machine_after k new crossing stack (Err e) machine leads to same = subst IsMachine (sym same) machine

-- and what stands in its place leads back from there
pub takes_back : {E : Type 0} (k new : Content) (crossing now : Crossing) (stack : List Change) (made : Result Unit E) → IsMachine k → HoldsForward crossing (λ undone. LeadsOn k undone stack) →
    (IsShaped k → (after : Content) (rest : List Change) → HoldsForward crossing (λ undone. IsTakenBack k undone stack after rest) → OnOk made (HoldsBack now (TakesBack k new))) → OnOk made (HoldsBack now (TakesBack k new))
takes_back k new crossing now stack made machine leads back =
    let found = is_forward (λ it. LeadsOn k it stack) crossing leads in
    back machine.content.shaped found.2.after found.2.rest (forward_by (λ it. IsTakenBack k it stack found.2.after found.2.rest) crossing found.0 found.1 found.2.taken)

module _ {E : Type 0} (k new : Content) (now : Crossing) where
  pub leads_back : (made : Result Unit E) → IsMachine k → OnOk made (HoldsBack now (TakesBack k new)) → OnOk made (HoldsBack now (LeadsBack new))
  leads_back (Ok done) machine back = back_so (TakesBack k new) (LeadsBack new) now (λ inverse takes. record { before = k; machine = machine; goes = takes.0; back = takes.1 }) back
  leads_back (Err e) machine back = tt

  pub undoes_it : (made : Result Unit E) → OnOk made (HoldsBack now (TakesBack k new)) → OnOk made (HoldsBack now (λ inverse. Undoes new inverse k))
  undoes_it (Ok done) back = back_so (TakesBack k new) (λ inverse. Undoes new inverse k) now (λ inverse takes. takes.1) back
  undoes_it (Err e) back = tt

  pub ends_whole : (made : Result Unit E) → OnOk made (HoldsBack now (TakesBack k new)) → OnOk made (HoldsBack now (EndsWhole new))
  ends_whole (Ok done) back = back_so (TakesBack k new) (EndsWhole new) now (λ inverse takes. takes.2) back
  ends_whole (Err e) back = tt
