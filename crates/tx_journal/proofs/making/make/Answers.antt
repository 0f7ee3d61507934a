use Rattle.std.proofs.Common.{arith}
use Rattle.tx_journal.proofs.Made.{added, room_entries, room_inverses}
use Rattle.tx_journal.specs.declared.entry.Entry.{Entry}
use Rattle.std.proofs.lemmas.Grind.{common_steps}
use Rattle.tx_journal.proofs.making.make.Goals as goal

pub add-requires-clause-entries : goal.add-requires-clause-entries
add-requires-clause-entries c = grind (arith, common_steps, room_entries)

pub add-requires-clause-inverses : goal.add-requires-clause-inverses
add-requires-clause-inverses c = grind (arith, common_steps, room_inverses)

pub returns-clause-added : goal.returns-clause-added
returns-clause-added c made =
    let entry : Entry = record { step = c.args.step.now; worker = c.args.worker; reply = c.step_into.new.reply } in
    added c.laws.ensures c.args.machine.now c.step_into.new.self c.args.journal.now c.args.step.now c.step_into.new.reply c.step_into.new.inverse c.requires.sound c.requires.at_end c.requires.ready
    (c.step_into.ensures.accepted c.if-not-step_into.false) entry c.add.new.self (c.step_into.ensures.back c.if-not-step_into.false)
    c.add.ensures.entries c.add.ensures.inverses c.add.ensures.undone c.add.ensures.room c.add.ensures.places
