use Rattle.std.proofs.Common.{◌∙◌}
use Rattle.tx_core.specs.Owners.{other_owner}
use Rattle.tx_content.specs.Content.{view_of}
use Rattle.tx_reserve.specs.Objects.{object_of}
use Rattle.tx_core.proofs.machine.Machine.other_owner.Goals as goal

pub returns : goal.returns
returns c = c.other_owner.ensures ∙ (λ j. other_owner (view_of (c.self.view_is j)) (c.maker.ensures j) (object_of c.args.object))
