use Rattle.std.proofs.Common.{◌<◌, ◌∙◌, ℤ, length, pos, Some, None, w64, refl, sym, ap, arith}
use Rattle.std.proofs.Math.ListN.{set}
use Rattle.std.proofs.lemmas.Int.{to_z-of_z}
use Rattle.tx_base.specs.declared.errors.Errno.TheVariants.{BadDescriptor, TooManyDescriptors}
use Rattle.tx_model.specs.Book.{dup}
use Rattle.tx_model.specs.Descriptors.{descriptor}
use Rattle.tx_model.specs.Forms.{effect_of}
use Rattle.tx_model.specs.Numbers.{error_answer}
use Rattle.tx_desc.specs.Outcomes.{with_table}
use Rattle.tx_desc.specs.Places.{named_in}
use Rattle.tx_desc.specs.Plans.{dup_puts}
use Rattle.tx_desc.proofs.Counting.{room_inside}
use Rattle.tx_desc.proofs.Free.{free_inside, free_none}
use Rattle.tx_desc.proofs.Gone.{same_descs}
use Rattle.tx_desc.proofs.Effects.{found_named, found_room, none_named, error_keeps, done_keeps, dup_bad, dup_full, dup_done}
use Rattle.tx_desc.proofs.Moves.{moved, raised_same}
use Rattle.tx_desc.proofs.table.FdTable.plan_dup.Goals as goal

pub returns-in_err-d-clause-descriptions : goal.returns-in_err-d-clause-descriptions
returns-in_err-d-clause-descriptions c = λ caller same has.
    let read = to_z-of_z w64 c.args.fd c.ranges.fd in
    error_keeps c.from_residual.result (λ r. (dup_puts r).descs) c.from_residual.ensures.0 (λ e. refl)
    (dup c.args.fd) caller BadDescriptor c.args.descs.now
    (dup_bad caller c.args.self.now same c.args.fd
    (none_named caller.process c.args.self.now (descriptor c.args.fd) same
    (ap (λ (n : ℤ). named_in c.args.self.now (descriptor n)) (sym read) ∙ c.in_err-d.ensures.1))) has

pub returns-in_default-clause-descriptions : goal.returns-in_default-clause-descriptions
returns-in_default-clause-descriptions c = λ caller same has.
    let read = to_z-of_z w64 c.args.fd c.ranges.fd in
    done_keeps (dup c.args.fd) caller (error_answer TooManyDescriptors) caller.process c.args.descs.now
    (ap (effect_of caller.number caller.process) (dup_full caller c.args.self.now same c.args.fd c.in_ok-d.d.0
    (found_named caller.process c.args.self.now (descriptor c.args.fd) c.in_ok-d.field-0-0 c.in_ok-d.d.0 same (ap descriptor (sym read) ∙ c.in_ok-d.ensures.0) c.in_ok-d.ensures.1)
    c.in_default.ensures)) has

pub returns-clause-descriptions : goal.returns-clause-descriptions
returns-clause-descriptions c = λ caller same has.
    let read = to_z-of_z w64 c.args.fd c.ranges.fd in
    let new = set c.args.self.now c.in-Some.free (Some c.in_ok-d.d.0) in
    let after = set c.args.descs.now c.in_ok-d.d.0 c.raised-opened.result in
    done_keeps (dup c.args.fd) caller (pos c.in-Some.free) (with_table new caller.process) after
    (ap (effect_of caller.number caller.process) (dup_done caller c.args.self.now same c.args.fd c.in_ok-d.d.0 c.in-Some.free new
    (found_named caller.process c.args.self.now (descriptor c.args.fd) c.in_ok-d.field-0-0 c.in_ok-d.d.0 same (ap descriptor (sym read) ∙ c.in_ok-d.ensures.0) c.in_ok-d.ensures.1)
    c.in-Some.ensures refl))
    (same_descs caller.state c.args.descs.now after (raised_same (Some c.in_ok-d.d.0) c.args.descs.now after (ap (set c.args.descs.now c.in_ok-d.d.0) c.raised-opened.ensures)) has)

pub returns-clause-counts : goal.returns-clause-counts
returns-clause-counts c =
    let read = to_z-of_z w64 c.args.fd c.ranges.fd in
    let inside : c.in-Some.free < length c.args.self.now = free_inside c.args.self.now c.in-Some.free (sym c.in-Some.ensures) in
    moved c.in-Some.free None (Some c.in_ok-d.d.0) c.args.self.now (set c.args.self.now c.in-Some.free (Some c.in_ok-d.d.0)) c.args.descs.now
    (set c.args.descs.now c.in_ok-d.d.0 c.raised-opened.result) inside
    (found_room 1 c.args.self.now c.args.descs.now (descriptor c.args.fd) c.in_ok-d.field-0-0 c.in_ok-d.d.0 (ap descriptor (sym read) ∙ c.in_ok-d.ensures.0) c.in_ok-d.ensures.1 c.requires)
    (free_none c.args.self.now c.in-Some.free (sym c.in-Some.ensures)) refl (ap (set c.args.descs.now c.in_ok-d.d.0) c.raised-opened.ensures)

pub returns-clause-numbers : goal.returns-clause-numbers
returns-clause-numbers c =
    let read = to_z-of_z w64 c.args.fd c.ranges.fd in
    let inside : c.in-Some.free < length c.args.self.now = free_inside c.args.self.now c.in-Some.free (sym c.in-Some.ensures) in
    let there : c.in_ok-d.d.0 < length c.args.descs.now = room_inside c.in_ok-d.d.0 1 c.args.descs.now
    (found_room 1 c.args.self.now c.args.descs.now (descriptor c.args.fd) c.in_ok-d.field-0-0 c.in_ok-d.d.0 (ap descriptor (sym read) ∙ c.in_ok-d.ensures.0) c.in_ok-d.ensures.1 c.requires) in
    ((omega arith, tt), (omega arith, tt))
