use Rattle.std.proofs.Common.{◌<◌, ◌∙◌, [], ℤ, length, pos, Some, None, get_or, w64, of_z, to_z, refl, sym, ap, inl, arith, length-set}
use Rattle.std.proofs.lemmas.Int.{to_z-of_z}
use Rattle.tx_base.specs.declared.errors.Errno.TheVariants.{BadDescriptor}
use Rattle.tx_model.specs.Book.{dup2}
use Rattle.tx_model.specs.Numbers.{error_answer}
use Rattle.tx_model.specs.Descriptors.{descriptor, option_list}
use Rattle.tx_model.specs.Forms.{effect_of}
use Rattle.tx_desc.specs.Counts.{others_of}
use Rattle.tx_desc.specs.Places.{named_in}
use Rattle.tx_desc.specs.Plans.{dup2_puts, rename_puts, put_names, put_descs}
use Rattle.tx_desc.proofs.Counting.{keeps_agree}
use Rattle.tx_desc.proofs.Free.{descriptor_inside}
use Rattle.tx_desc.proofs.Effects.{found_room, error_keeps, done_keeps, gives_keeps, dup2_bad, dup2_other, dup2_same, dup2_done}
use Rattle.tx_desc.proofs.Moves.{moved, moved_sheds}
use Rattle.tx_desc.proofs.table.FdTable.plan_dup2.Goals as goal

pub returns-in_err-place-clause-descriptions : goal.returns-in_err-place-clause-descriptions
returns-in_err-place-clause-descriptions c = λ caller runs has a.
    let read = to_z-of_z w64 c.args.fd c.ranges.fd in
    error_keeps c.from_residual.result (λ r. (dup2_puts r).descs) c.from_residual.ensures.0 (λ e. refl)
    (dup2 c.args.fd c.args.other) caller BadDescriptor c.args.descs.now
    (dup2_bad caller c.args.self.now runs.has_table c.args.fd c.args.other
    (ap (λ (n : ℤ). named_in c.args.self.now (descriptor n)) (sym read) ∙ c.in_err-place.ensures.1)) has

pub returns-in_default-clause-descriptions : goal.returns-in_default-clause-descriptions
returns-in_default-clause-descriptions c = λ caller runs has a.
    let read = to_z-of_z w64 c.args.fd c.ranges.fd in
    let read_other = to_z-of_z w64 c.args.other c.ranges.other in
    done_keeps (dup2 c.args.fd c.args.other) caller (error_answer BadDescriptor) caller.process c.args.descs.now
    (ap (effect_of caller.number caller.process) (dup2_other caller c.args.self.now runs.has_table c.args.fd c.args.other c.in_ok-place.place c.in_ok-place.d.0
    (ap descriptor (sym read) ∙ c.in_ok-place.ensures.0) c.in_ok-place.ensures.1 (c.in_default.ensures ∙ ap descriptor read_other)))
    has

pub returns-then-place-target-clause-answer : goal.returns-then-place-target-clause-answer
returns-then-place-target-clause-answer c = λ caller same.
    let read = to_z-of_z w64 c.args.fd c.ranges.fd in
    let read_other = to_z-of_z w64 c.args.other c.ranges.other in
    dup2_same caller c.args.self.now same c.args.fd c.args.other c.in_ok-place.place c.in_ok-place.d.0 c.in-Some.target
    (ap descriptor (sym read) ∙ c.in_ok-place.ensures.0) c.in_ok-place.ensures.1 (c.in-Some.ensures ∙ ap descriptor read_other) c.if-place-target.true

pub returns-then-place-target-clause-descriptions : goal.returns-then-place-target-clause-descriptions
returns-then-place-target-clause-descriptions c = λ caller runs has a.
    gives_keeps (dup2 c.args.fd c.args.other) caller [] (pos c.in-Some.target) c.args.self.now c.args.self.now c.args.descs.now c.args.descs.now
    (returns-then-place-target-clause-answer c caller runs.has_table) runs c.sized.ensures has a (λ k. inl refl)

pub returns-clause-counts : goal.returns-clause-counts
returns-clause-counts c =
    let read = to_z-of_z w64 c.args.fd c.ranges.fd in
    let below : c.in-Some.target < 16 = descriptor_inside (to_z w64 (of_z w64 c.args.other)) c.in-Some.target c.in-Some.ensures in
    let inside : c.in-Some.target < length c.args.self.now = omega arith in
    let puts = rename_puts c.plan_rename.result.rename in
    moved c.in-Some.target (get_or c.args.self.now c.in-Some.target None) (Some c.in_ok-place.d.0) c.args.self.now (put_names puts.names c.args.self.now) c.args.descs.now
    (put_descs puts.descs c.args.descs.now) inside
    (found_room 1 c.args.self.now c.args.descs.now (descriptor c.args.fd) c.in_ok-place.place c.in_ok-place.d.0
    (ap descriptor (sym read) ∙ c.in_ok-place.ensures.0) c.in_ok-place.ensures.1 c.requires.named)
    refl c.plan_rename.ensures.table c.plan_rename.ensures.after

pub returns-clause-descriptions : goal.returns-clause-descriptions
returns-clause-descriptions c = λ caller runs has a.
    let read = to_z-of_z w64 c.args.fd c.ranges.fd in
    let read_other = to_z-of_z w64 c.args.other c.ranges.other in
    let old = get_or c.args.self.now c.in-Some.target None in
    let puts = rename_puts c.plan_rename.result.rename in
    let new = put_names puts.names c.args.self.now in
    let after = put_descs puts.descs c.args.descs.now in
    gives_keeps (dup2 c.args.fd c.args.other) caller (option_list old) (pos c.in-Some.target) c.args.self.now new c.args.descs.now after
    (ap (effect_of caller.number caller.process) (dup2_done caller c.args.self.now runs.has_table c.args.fd c.args.other c.in_ok-place.place c.in_ok-place.d.0 c.in-Some.target new (option_list old)
    (ap descriptor (sym read) ∙ c.in_ok-place.ensures.0) c.in_ok-place.ensures.1 (c.in-Some.ensures ∙ ap descriptor read_other)
    c.if-place-target.false c.plan_rename.ensures.table refl))
    runs (ap length c.plan_rename.ensures.table ∙ length-set c.args.self.now c.in-Some.target (Some c.in_ok-place.d.0) ∙ c.sized.ensures) has
    (keeps_agree c.args.self.now new (others_of caller.number caller.state) c.args.descs.now after (returns-clause-counts c) a)
    (moved_sheds old (Some c.in_ok-place.d.0) c.args.descs.now after c.plan_rename.ensures.after)
