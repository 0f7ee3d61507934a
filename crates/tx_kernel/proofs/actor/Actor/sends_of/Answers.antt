use Rattle.tx_kernel.proofs.SentBy.{broken_sends, unbroken_sends}
use Rattle.tx_kernel.proofs.actor.Actor.sends_of.Goals as goal

pub returns-in-Breaks : goal.returns-in-Breaks
returns-in-Breaks c = λ address. broken_sends c.args.self.now address c.args.writing c.broken_pipe.result c.in-Breaks.is c.broken_pipe.ensures

pub returns-in-Nothing : goal.returns-in-Nothing
returns-in-Nothing c = λ address. unbroken_sends c.args.self.now address c.args.writing (λ e. cc)

pub returns-in-Waits : goal.returns-in-Waits
returns-in-Waits c = λ address. unbroken_sends c.args.self.now address c.args.writing (λ e. cc)

pub returns-in-Puts : goal.returns-in-Puts
returns-in-Puts c = λ address. unbroken_sends c.args.self.now address c.args.writing (λ e. cc)
