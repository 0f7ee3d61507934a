use Rattle.std.proofs.Common.{Bool, ap, ◌∙◌}
use Rattle.tx_content.specs.declared.crossing.Crossing.TheVariants.{Back}
use Rattle.tx_content.specs.declared.inverse.Inverse.{Inverse}
use Rattle.tx_content.specs.declared.inverse.Inverse.TheVariants.{Inside}
use Rattle.tx_content.proofs.content.Content.redo_inside.Goals as goal

pub returns-clause-inverse : goal.returns-clause-inverse
returns-clause-inverse c = λ after inverse redoes.
    ap (λ (held : Bool). Back (Inside c.redo_member.new.step held)) c.is_some.ensures
    ∙ ap (λ (it : Inverse). Back it) (c.in-Ok.ensures.inverse after inverse redoes)
