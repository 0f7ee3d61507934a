use Rattle.std.proofs.Common.{◌≡◌, ℕ, ◌++◌, ◌∷◌, [], ap, ◌∙◌}
use Rattle.tx_base.specs.declared.steps.Reply.TheVariants.{Aborted}
use Rattle.tx_base.specs.declared.steps.Step.TheVariants.{KernelAbort}
use Rattle.tx_journal.proofs.Aborted.{abort_added, abort_room_entries, abort_room_inverses}
use Rattle.tx_journal.specs.declared.entry.Entry.{Entry}
use Rattle.tx_content.specs.Content.{view_of}
use Rattle.tx_model.specs.View.{kernel_status}
use Rattle.tx_journal.proofs.making.abort.Goals as goal

pub add-requires-clause-entries : goal.add-requires-clause-entries
add-requires-clause-entries c =
    abort_room_entries c.laws.ensures c.args.machine.now c.kernel_abort.new.self c.args.journal.now c.args.starter (kernel_status (view_of c.args.machine.now) c.args.starter.0) c.in_ok-inverse.inverse
    c.requires.sound c.requires.at_end c.requires.places c.in_ok-inverse.ensures.ok

pub add-requires-clause-inverses : goal.add-requires-clause-inverses
add-requires-clause-inverses c =
    abort_room_inverses c.laws.ensures c.args.machine.now c.kernel_abort.new.self c.args.journal.now c.args.starter (kernel_status (view_of c.args.machine.now) c.args.starter.0) c.in_ok-inverse.inverse
    c.requires.sound c.requires.at_end c.requires.places c.in_ok-inverse.ensures.ok

pub returns-clause-added : goal.returns-clause-added
returns-clause-added c =
    let status : ℕ = kernel_status (view_of c.args.machine.now) c.args.starter.0 in
    let entry : Entry = record { step = KernelAbort c.args.starter; worker = c.args.worker; reply = Aborted status } in
    let items : c.add.new.self.entries.items ≡ c.args.journal.now.entries.items ++ entry ∷ []
    = c.add.ensures.entries ∙ ap (λ (n : ℕ). c.args.journal.now.entries.items ++ record { step = KernelAbort c.args.starter; worker = c.args.worker; reply = Aborted n } ∷ []) c.in-Some.ensures.status in
    abort_added c.laws.ensures c.args.machine.now c.kernel_abort.new.self c.args.journal.now c.args.starter status c.in_ok-inverse.inverse
    c.requires.sound c.requires.at_end c.requires.places c.in_ok-inverse.ensures.ok
    entry c.add.new.self c.in_ok-inverse.ensures.back items c.add.ensures.inverses c.add.ensures.undone c.add.ensures.room c.add.ensures.places
