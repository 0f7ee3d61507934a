use Rattle.std.proofs.Common.{sym, ap, ◌∙◌}
use Rattle.std.specs.Option.{option_copied}
use Rattle.tx_base.specs.Slots.{slot_at}
use Rattle.tx_journal.proofs.PostedTo.{none_held}
use Rattle.tx_journal.proofs.posted.is_held_for.Goals as goal

pub returns-in-None : goal.returns-in-None
returns-in-None c = none_held c.args.pid.0 (slot_at c.args.content.now.txns c.args.starter.0) (sym c.get.ensures ∙ ap option_copied c.in-None.is)
