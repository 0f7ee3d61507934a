use Rattle.std.proofs.Common.{sym, ap, ◌∙◌}
use Rattle.std.specs.Option.{option_copied}
use Rattle.tx_step.proofs.Refusals.{marked_live}
use Rattle.tx_step.proofs.early.refusal_of_member.Goals as goal

pub is_doomed-requires-clause-live : goal.is_doomed-requires-clause-live
is_doomed-requires-clause-live c = marked_live c.args.content.now c.args.pid c.in-Some.mark.now c.requires (sym c.get.ensures ∙ ap option_copied c.in-Some.is)
