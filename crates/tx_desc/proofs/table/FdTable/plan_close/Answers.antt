use Rattle.std.proofs.Common.{◌<◌, ◌∙◌, ◌∷◌, [], ℤ, length, pos, Some, None, w64, of_z, to_z, refl, sym, ap, arith, length-set}
use Rattle.std.proofs.Math.ListN.{set}
use Rattle.std.proofs.lemmas.Int.{to_z-of_z}
use Rattle.tx_base.specs.declared.errors.Errno.TheVariants.{BadDescriptor}
use Rattle.tx_model.specs.Book.{close}
use Rattle.tx_model.specs.Descriptors.{descriptor}
use Rattle.tx_model.specs.Forms.{effect_of}
use Rattle.tx_desc.specs.Counts.{others_of}
use Rattle.tx_desc.specs.Places.{named_in}
use Rattle.tx_desc.specs.Plans.{close_puts}
use Rattle.tx_desc.specs.declared.plans.NewDesc.{NewDesc}
use Rattle.tx_desc.proofs.Counting.{keeps_agree}
use Rattle.tx_desc.proofs.Free.{descriptor_inside}
use Rattle.tx_desc.proofs.Effects.{error_keeps, gives_keeps, close_bad, close_done}
use Rattle.tx_desc.proofs.Moves.{moved, moved_sheds}
use Rattle.tx_desc.proofs.table.FdTable.plan_close.Goals as goal

pub returns-in_err-place-clause-descriptions : goal.returns-in_err-place-clause-descriptions
returns-in_err-place-clause-descriptions c = λ caller runs has a.
    let read = to_z-of_z w64 c.args.fd c.ranges.fd in
    error_keeps c.from_residual.result (λ r. (close_puts r).descs) c.from_residual.ensures.0 (λ e. refl)
    (close c.args.fd) caller BadDescriptor c.args.descs.now
    (close_bad caller c.args.self.now runs.has_table c.args.fd
    (ap (λ (n : ℤ). named_in c.args.self.now (descriptor n)) (sym read) ∙ c.in_err-place.ensures.1)) has

pub returns-clause-counts : goal.returns-clause-counts
returns-clause-counts c =
    let below : c.in_ok-place.place < 16 = descriptor_inside (to_z w64 (of_z w64 c.args.fd)) c.in_ok-place.place (sym c.in_ok-place.ensures.0) in
    let inside : c.in_ok-place.place < length c.args.self.now = omega arith in
    moved c.in_ok-place.place (Some c.in_ok-place.d.0) None c.args.self.now (set c.args.self.now c.in_ok-place.place None) c.args.descs.now
    (set c.args.descs.now c.one_fewer.result.0.number.0 c.one_fewer.result.0.opened) inside tt c.in_ok-place.ensures.1 refl
    (ap (λ (new : NewDesc). set c.args.descs.now new.number.0 new.opened) c.one_fewer.ensures.desc)

pub returns-clause-descriptions : goal.returns-clause-descriptions
returns-clause-descriptions c = λ caller runs has a.
    let read = to_z-of_z w64 c.args.fd c.ranges.fd in
    let new = set c.args.self.now c.in_ok-place.place None in
    let after = set c.args.descs.now c.one_fewer.result.0.number.0 c.one_fewer.result.0.opened in
    gives_keeps (close c.args.fd) caller (c.in_ok-place.d.0 ∷ []) (pos 0) c.args.self.now new c.args.descs.now after
    (ap (effect_of caller.number caller.process) (close_done caller c.args.self.now runs.has_table c.args.fd c.in_ok-place.place c.in_ok-place.d.0 new
    (ap descriptor (sym read) ∙ c.in_ok-place.ensures.0) c.in_ok-place.ensures.1 refl))
    runs (length-set c.args.self.now c.in_ok-place.place None ∙ c.sized.ensures) has
    (keeps_agree c.args.self.now new (others_of caller.number caller.state) c.args.descs.now after (returns-clause-counts c) a)
    (moved_sheds (Some c.in_ok-place.d.0) None c.args.descs.now after
    (ap (λ (n : NewDesc). set c.args.descs.now n.number.0 n.opened) c.one_fewer.ensures.desc))
