-- What an inverse is undone on, and what makes a step again.
use Rattle.std.specs.Prelude.{List}
use Rattle.tx_change.specs.declared.change.Change.{Change}
use Rattle.tx_core.specs.Machines.{IsMachine}
use Rattle.tx_content.specs.Inverses.{GoesWith, Undoes}
use Rattle.tx_content.specs.Redone.{IsTakenBack}
use Rattle.tx_content.specs.declared.content.Content.{Content}
use Rattle.tx_content.specs.declared.inverse.Inverse.{Inverse}
use Rattle.tx_content.specs.declared.undone.Undone.{Undone}

-- the content is as the step with this inverse left it: the inverse leads back to what a machine
-- may keep
pub record LeadsBack (k : Content) (inverse : Inverse) : Type 0 where
  pub before : Content
  pub machine : IsMachine before
  pub goes : GoesWith k inverse
  pub back : Undoes k inverse before

-- the content is as it was before the step that this makes again: it leads to what a machine may
-- keep
pub record LeadsOn (k : Content) (undone : Undone) (stack : List Change) : Type 0 where
  pub after : Content
  pub machine : IsMachine after
  pub rest : List Change
  pub taken : IsTakenBack k undone stack after rest
