use Rattle.std.proofs.Common.{ap, option_map, sym, ◌∙◌}
use Rattle.tx_journal.proofs.Naming.{is_moved}
use Rattle.tx_journal.specs.Moved.{moving_in}
use Rattle.tx_journal.proofs.session.Session.moved.Goals as goal

pub returns-in-Ok-Some-clause-moved : goal.returns-in-Ok-Some-clause-moved
returns-in-Ok-Some-clause-moved c = is_moved c.args.self.now c.args.number c.in-Ok-Some.moved (sym c.in-Ok-Some.ensures ∙ ap (option_map moving_in) c.in-Ok-Some.field-0-is) c.is_lawful.ensures.moments
