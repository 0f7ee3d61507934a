use Rattle.std.proofs.Common.{◌∙◌, ℤ, Some, None, get_or, w64, refl, sym, ap}
use Rattle.std.proofs.Math.ListN.{set}
use Rattle.std.proofs.lemmas.Int.{to_z-of_z}
use Rattle.tx_base.specs.declared.errors.Errno.TheVariants.{BadDescriptor}
use Rattle.tx_model.specs.Book.{description_at, set_nonblock}
use Rattle.tx_model.specs.Descriptors.{descriptor}
use Rattle.tx_desc.specs.Descriptions.{with_flag}
use Rattle.tx_desc.specs.Places.{named_in}
use Rattle.tx_desc.specs.Plans.{nonblock_puts}
use Rattle.tx_desc.proofs.Counting.{changed_here}
use Rattle.tx_desc.proofs.Effects.{found_named, found_room, none_named, error_keeps, nonblock_bad, nonblock_done}
use Rattle.tx_desc.proofs.Moves.{flag_descs}
use Rattle.tx_desc.proofs.table.FdTable.plan_nonblock.Goals as goal

pub returns-in_err-d-clause-descriptions : goal.returns-in_err-d-clause-descriptions
returns-in_err-d-clause-descriptions c = λ caller same has.
    let read = to_z-of_z w64 c.args.fd c.ranges.fd in
    error_keeps c.from_residual.result (λ r. (nonblock_puts r).descs) c.from_residual.ensures.0 (λ e. refl)
    (set_nonblock c.args.fd c.args.on) caller BadDescriptor c.args.descs.now
    (nonblock_bad c.args.fd c.args.on caller
    (none_named caller.process c.args.self.now (descriptor c.args.fd) same
    (ap (λ (n : ℤ). named_in c.args.self.now (descriptor n)) (sym read) ∙ c.in_err-d.ensures.1))) has

pub returns-clause-descriptions : goal.returns-clause-descriptions
returns-clause-descriptions c = λ caller same has.
    let read = to_z-of_z w64 c.args.fd c.ranges.fd in
    let here = ap descriptor (sym read) ∙ c.in_ok-d.ensures.0 in
    let new = set c.args.descs.now c.in_ok-d.d.0 c.flagged.result in
    let changed = ap (set c.args.descs.now c.in_ok-d.d.0) c.flagged.ensures in
    let is = found_named caller.process c.args.self.now (descriptor c.args.fd) c.in_ok-d.field-0-0 c.in_ok-d.d.0 same here c.in_ok-d.ensures.1 in
    flag_descs (set_nonblock c.args.fd c.args.on) caller c.args.on (description_at c.args.fd caller) c.in_ok-d.d.0 c.args.descs.now new
    (nonblock_done c.args.fd c.args.on caller c.in_ok-d.d.0 c.args.descs.now new is
    (found_room 0 c.args.self.now c.args.descs.now (descriptor c.args.fd) c.in_ok-d.field-0-0 c.in_ok-d.d.0 here c.in_ok-d.ensures.1 c.requires)
    (ap (λ l. get_or l c.in_ok-d.d.0 None) changed ∙ changed_here (with_flag c.args.on) (Some c.in_ok-d.d.0) c.args.descs.now c.in_ok-d.d.0 refl refl) has)
    is changed has
