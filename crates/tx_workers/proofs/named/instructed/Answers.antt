use Rattle.std.proofs.Common.{◌∙◌, ap, sym}
use Rattle.std.specs.Option.{option_copied}
use Rattle.tx_content.specs.Content.{view_of}
use Rattle.tx_workers.specs.Named.{instructed}
use Rattle.tx_workers.proofs.named.instructed.Goals as goal

pub returns-in-None : goal.returns-in-None
returns-in-None c =
    c.exit.ensures (view_of c.args.machine.now) c.args.regs.now
    ∙ ap (instructed (view_of c.args.machine.now) c.args.pid.0 c.args.regs.now) (sym (ap option_copied c.in-None.is) ∙ c.instruction_at.ensures)
