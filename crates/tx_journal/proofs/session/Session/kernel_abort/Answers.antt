use Rattle.std.proofs.Common.{sym, subst, arith}
use Rattle.tx_base.specs.declared.steps.Reply.TheVariants.{Aborted}
use Rattle.tx_base.specs.declared.steps.Step.TheVariants.{KernelAbort}
use Rattle.tx_journal.proofs.Aheads.{none_answered, none_at_end, nothing_ahead}
use Rattle.tx_journal.proofs.Kept.{places_now, kept_answered, sound_now}
use Rattle.tx_journal.specs.Sessions.{session_state, IsAtEnd}
use Rattle.tx_content.specs.Content.{view_of}
use Rattle.tx_model.specs.View.{kernel_status}
use Rattle.std.proofs.lemmas.Grind.{common_steps}
use Rattle.tx_journal.proofs.session.Session.kernel_abort.Goals as goal

pub abort-requires-clause-sound : goal.abort-requires-clause-sound
abort-requires-clause-sound c = grind (arith, common_steps, sound_now)

pub abort-requires-clause-places : goal.abort-requires-clause-places
abort-requires-clause-places c = grind (arith, common_steps, places_now)

pub abort-requires-clause-none : goal.abort-requires-clause-none
abort-requires-clause-none c =
    none_at_end (session_state c.self.inside.machine c.self.inside.journal c.self.inside.width c.self.inside.count) c.self.inside.journal.crossings.undone c.self.inside.journal.crossings.stack
    (subst IsAtEnd (sym c.self.view_is) c.requires) c.self.invariant.2

pub invariant_of-self : goal.invariant_of-self
invariant_of-self c =
    let at_end = subst IsAtEnd (sym c.self.view_is) c.requires in
    let none = none_at_end (session_state c.self.inside.machine c.self.inside.journal c.self.inside.width c.self.inside.count) c.self.inside.journal.crossings.undone c.self.inside.journal.crossings.stack at_end c.self.invariant.2 in
    let kept =
    kept_answered c.laws.ensures c.self.inside.machine c.self.inside.journal c.self.inside.width c.self.inside.count (c.self.invariant.0, c.self.invariant.1) at_end
    (record { step = KernelAbort c.args.starter; worker = c.args.worker; reply = Aborted (kernel_status (view_of c.self.inside.machine) c.args.starter.0) }) c.abort.new.machine c.abort.new.journal c.abort.result
    c.abort.ensures.added c.abort.ensures.machine c.abort.ensures.journal c.abort.ensures.history in (
      kept.0,
      kept.1,
      nothing_ahead (session_state c.abort.new.machine c.abort.new.journal c.self.inside.width c.self.inside.count) c.abort.new.journal.crossings.undone c.abort.new.journal.crossings.stack
          (none_answered c.self.inside.machine c.self.inside.journal
          (record { step = KernelAbort c.args.starter; worker = c.args.worker; reply = Aborted (kernel_status (view_of c.self.inside.machine) c.args.starter.0) }) c.abort.new.machine c.abort.new.journal c.abort.result none
          c.abort.ensures.added c.abort.ensures.journal),
    )
