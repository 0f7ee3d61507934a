use Rattle.std.proofs.Common.{drop, ◌+◌, ◌++◌, ◌∙◌, arith, ap, inl, inr}
use Rattle.arrayvec.specs.ArrayVec.{ArrayVec}
use Rattle.tx_base.specs.declared.names.Missed.{Missed}
use Rattle.tx_txn.proofs.MissedPosts.{missed_added, missed_room, missed_skipped, ok_or_err}
use Rattle.tx_txn.proofs.Senders.{no_sending}
use Rattle.tx_txn.specs.Outboxes.{missed_in}
use Rattle.tx_txn.proofs.outbox.list_missed.Goals as goal
use Rattle.tx_txn.proofs.outbox.list_missed.Goals.{in-Err, in_default}

pub loop-place-preserved : goal.loop-place-preserved
loop-place-preserved c short =
    let ms = c.args.held.now in
    let posts = c.args.posts.now in
    let i = c.loop-place.place in
    let before = c.loop-place.invariant short in
    elim c.match-posts-place.branch [
      | in-Err w ↦
          elim (ok_or_err w.try_push-fits.result w.try_push-fits.ensures.ok w.try_push-fits.ensures.full) [
            | inl added ↦ missed_added c.loop-place.missed.items c.match-posts-place.missed.items (missed_in ms posts) ms posts i no_sending _ w.in-Err.errno
                c.loop-place-test.true c.requires w.in-Err.is (ap (λ (v : ArrayVec Missed). v.items) w.missed-is ∙ added) before
            | inr full ↦
                let room = missed_room c.loop-place.missed.items (missed_in ms posts) ms posts i no_sending _ w.in-Err.errno c.loop-place-test.true c.requires w.in-Err.is before in
                let never : ⊥ = omega (arith, full, short, room) in absurd never
          ]
      | in_default w ↦
          ap (λ (v : ArrayVec Missed). v.items ++ missed_in (drop (i + 1) ms) (drop (i + 1) posts)) w.missed-is
          ∙ missed_skipped c.loop-place.missed.items (missed_in ms posts) ms posts i no_sending _ w.in_default.field-0
          c.loop-place-test.true c.requires w.in_default.is before
    ]
