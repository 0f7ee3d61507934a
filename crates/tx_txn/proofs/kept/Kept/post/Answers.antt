use Rattle.std.proofs.Common.{rules, FitsSigned, sym, ◌∙◌, to_z, of_z, w64}
use Rattle.std.proofs.lemmas.Int.{to_z-of_z}
use Rattle.tx_kernel.specs.Plans.{sending_of}
use Rattle.tx_model.specs.State.{Sending as TheSending, booted_process}
use Rattle.tx_txn.specs.declared.kept.Kept.{Kept}
use Rattle.tx_txn.specs.KeptParts.{kept_as}
use Rattle.tx_txn.proofs.KeptPosts.{back_queued, back_standard, kept_pending, reached, stopped, Posts}
use Rattle.tx_txn.proofs.kept.Kept.post.Goals as goal

pub returns-then-not-reaches-clause-received : goal.returns-then-not-reaches-clause-received
returns-then-not-reaches-clause-received c = λ me.
    stopped (sending_of c.args.sending.now) (kept_as c.args.self.now me) (c.if-not-reaches.ensures (kept_as c.args.self.now me) (c.face.ensures me))

pub returns-then-is_realtime-clause-received : goal.returns-then-is_realtime-clause-received
returns-then-is_realtime-clause-received c = λ me.
    let kept : Kept = record c.args.self.now { pending = c.post.new.self } in
    let m : TheSending = sending_of c.args.sending.now in
    let fits : FitsSigned w64 c.args.sending.now.value = search rules in
    let posts : Posts m.signo c.args.sending.now.value c.args.self.now.pending c.post.new.self = simp (to_z-of_z w64 c.args.sending.now.value fits) at c.post.ensures.posted in
    reached m (kept_as c.args.self.now me) (kept_as kept me) (c.if-not-reaches.ensures (kept_as c.args.self.now me) (c.face.ensures me)) (posts m.target m.from (kept_as c.args.self.now me))

pub returns-then-is_realtime-clause-back : goal.returns-then-is_realtime-clause-back
returns-then-is_realtime-clause-back c =
    back_queued c.swap_entry_twice.ensures.queue c.args.sending.now.signo.0 (to_z w64 (of_z w64 c.args.sending.now.value)) c.args.self.now.pending c.post.new.self c.last_place-place.result
    (sym c.if-is_realtime.ensures.number) (sym c.in-Ok.is ∙ c.post.ensures.answer) c.post.ensures.posted c.last_place-place.ensures.place c.last_place-place.ensures.last

pub returns-else-is_realtime-clause-received : goal.returns-else-is_realtime-clause-received
returns-else-is_realtime-clause-received c = λ me.
    let kept : Kept = record c.args.self.now { pending = c.post.new.self } in
    let m : TheSending = sending_of c.args.sending.now in
    let fits : FitsSigned w64 c.args.sending.now.value = search rules in
    let posts : Posts m.signo c.args.sending.now.value c.args.self.now.pending c.post.new.self = simp (to_z-of_z w64 c.args.sending.now.value fits) at c.post.ensures.posted in
    reached m (kept_as c.args.self.now me) (kept_as kept me) (c.if-not-reaches.ensures (kept_as c.args.self.now me) (c.face.ensures me)) (posts m.target m.from (kept_as c.args.self.now me))

pub returns-else-is_realtime-clause-back : goal.returns-else-is_realtime-clause-back
returns-else-is_realtime-clause-back c =
    back_standard c.args.sending.now.signo.0 (to_z w64 (of_z w64 c.args.sending.now.value)) c.args.self.now.pending c.post.new.self c.standard-standard.result (sym c.if-is_realtime.ensures.number) c.post.ensures.posted c.standard-standard.ensures

pub returns-then-not-reaches-clause-pending : goal.returns-then-not-reaches-clause-pending
returns-then-not-reaches-clause-pending c =
    kept_pending (sending_of c.args.sending.now) c.args.self.now c.args.self.now (booted_process 1) (returns-then-not-reaches-clause-received c (booted_process 1))

pub returns-then-is_realtime-clause-pending : goal.returns-then-is_realtime-clause-pending
returns-then-is_realtime-clause-pending c =
    kept_pending (sending_of c.args.sending.now) c.args.self.now (record c.args.self.now { pending = c.post.new.self }) (booted_process 1) (returns-then-is_realtime-clause-received c (booted_process 1))

pub returns-else-is_realtime-clause-pending : goal.returns-else-is_realtime-clause-pending
returns-else-is_realtime-clause-pending c =
    kept_pending (sending_of c.args.sending.now) c.args.self.now (record c.args.self.now { pending = c.post.new.self }) (booted_process 1) (returns-else-is_realtime-clause-received c (booted_process 1))
