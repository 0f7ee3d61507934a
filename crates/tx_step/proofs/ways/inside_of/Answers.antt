use Rattle.std.proofs.Common.{sym, ap, ◌∙◌}
use Rattle.std.specs.Option.{option_copied}
use Rattle.tx_step.proofs.OwnActors.{boxed_there, counts_told, inside_told}
use Rattle.tx_step.proofs.ways.inside_of.Goals as goal

pub unwrap-boxed-requires : goal.unwrap-boxed-requires
unwrap-boxed-requires c =
    boxed_there c.args.content.now c.args.pid c.in_ok-mark.mark.now c.requires.kept (sym c.get.ensures ∙ ap option_copied c.in_ok-mark.was) c.get-2.result c.get-2.ensures

pub returns-clause-inside : goal.returns-clause-inside
returns-clause-inside c =
    inside_told c.args.content.now c.args.pid.0 c.in_ok-mark.mark.now c.unwrap-boxed.result.now c.deref.result.now c.inside.result c.requires.shaped
    (sym c.get.ensures ∙ ap option_copied c.in_ok-mark.was) (sym c.get-2.ensures ∙ ap option_copied c.unwrap-boxed.ensures) c.deref.ensures c.inside.ensures.transaction

pub returns-clause-held : goal.returns-clause-held
returns-clause-held c =
    counts_told c.args.content.now c.args.pid.0 c.in_ok-mark.mark.now c.unwrap-boxed.result.now c.deref.result.now c.inside.result c.requires.shaped
    (sym c.get.ensures ∙ ap option_copied c.in_ok-mark.was) (sym c.get-2.ensures ∙ ap option_copied c.unwrap-boxed.ensures) c.deref.ensures c.inside.ensures.transaction c.inside.ensures.held
