use Rattle.std.proofs.Common.{ℕ, ap₂, string_bytes, take}
use Rattle.tx_picture.proofs.Tallies.{aside_by, passage_more, tally_more}
use Rattle.tx_picture.specs.Arrows.{enters, leaves}
use Rattle.tx_picture.specs.declared.fans.Fan.{Fan}
use Rattle.tx_picture.specs.declared.passages.Passage.{Passage}
use Rattle.tx_picture.proofs.arrows.put_passages.Goals as goal

abbrev fan : ℕ → ℕ → Fan
fan below above = record { below = below; above = above }

pub loop-i-preserved : goal.loop-i-preserved
loop-i-preserved c =
    let passages = c.args.passages.now in
    let i = c.loop-i.i in
    let so_far = c.loop-i.invariant in
    let left = c.moved_aside.ensures in
    let entered = c.moved_aside-in-loop-i.ensures in
    record {
      text =
          passage_more c.args.columns.now passages i _ (fan c.moved_aside.result c.moved_aside-in-loop-i.result) (string_bytes c.args.text.now) (string_bytes c.loop-i.text)
          (string_bytes c.put_passage.new.text) c.loop-i-test.true so_far.text
          (ap₂ fan (aside_by leaves (take i passages) c.loop-i.leaving _ c.moved_aside.result so_far.leaving left.fits left.aside)
          (aside_by enters (take i passages) c.loop-i.entering _ c.moved_aside-in-loop-i.result so_far.entering entered.fits entered.aside))
          c.in_ok-put_passage.ensures;
      leaving = tally_more (λ (p : Passage). p.written) passages i _ c.loop-i.leaving c.loop-i-test.true c.moved_aside.new.counts so_far.leaving left.fits left.counted;
      entering = tally_more (λ (p : Passage). p.read) passages i _ c.loop-i.entering c.loop-i-test.true c.moved_aside-in-loop-i.new.counts so_far.entering entered.fits entered.counted;
    }
