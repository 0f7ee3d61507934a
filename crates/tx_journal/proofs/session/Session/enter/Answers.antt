use Rattle.std.proofs.Common.{sym, subst, arith}
use Rattle.tx_journal.proofs.Aheads.{none_after, none_at_end, nothing_ahead}
use Rattle.tx_journal.proofs.Kept.{places_now, kept_after, sound_now}
use Rattle.tx_journal.specs.Sessions.{session_state, IsAtEnd}
use Rattle.std.proofs.lemmas.Grind.{common_steps}
use Rattle.tx_journal.proofs.session.Session.enter.Goals as goal

pub record-made-requires-clause-sound : goal.record-made-requires-clause-sound
record-made-requires-clause-sound c = grind (arith, common_steps, sound_now)

pub record-made-requires-clause-places : goal.record-made-requires-clause-places
record-made-requires-clause-places c = grind (arith, common_steps, places_now)

pub record-made-requires-clause-none : goal.record-made-requires-clause-none
record-made-requires-clause-none c =
    none_at_end (session_state c.self.inside.machine c.self.inside.journal c.self.inside.width c.self.inside.count) c.self.inside.journal.crossings.undone c.self.inside.journal.crossings.stack
    (subst IsAtEnd (sym c.self.view_is) c.requires) c.self.invariant.2

pub invariant_of-self : goal.invariant_of-self
invariant_of-self c =
    let at_end = subst IsAtEnd (sym c.self.view_is) c.requires in
    let none = none_at_end (session_state c.self.inside.machine c.self.inside.journal c.self.inside.width c.self.inside.count) c.self.inside.journal.crossings.undone c.self.inside.journal.crossings.stack at_end c.self.invariant.2 in
    let kept =
    kept_after c.laws.ensures c.self.inside.machine c.self.inside.journal c.self.inside.width c.self.inside.count (c.self.invariant.0, c.self.invariant.1) at_end
    (record { step = c.args.step.now; worker = c.args.worker; reply = c.record-made.new.reply }) c.record-made.new.machine c.record-made.new.journal c.record-made.result
    c.record-made.ensures.added c.record-made.ensures.machine c.record-made.ensures.journal c.record-made.ensures.places c.record-made.ensures.history in (
      kept.0,
      kept.1,
      nothing_ahead (session_state c.record-made.new.machine c.record-made.new.journal c.self.inside.width c.self.inside.count) c.record-made.new.journal.crossings.undone c.record-made.new.journal.crossings.stack
          (none_after c.self.inside.machine c.self.inside.journal (record { step = c.args.step.now; worker = c.args.worker; reply = c.record-made.new.reply }) c.record-made.new.machine c.record-made.new.journal c.record-made.result none
          c.record-made.ensures.added c.record-made.ensures.journal),
    )
