use Rattle.std.proofs.Common.{◌+◌, ◌-◌, refl, length}
use Rattle.tx_translate.proofs.PlacedWords.{found_more}
use Rattle.tx_translate.proofs.words.words_in.Goals as goal

pub loop-word-preserved : goal.loop-word-preserved
loop-word-preserved c =
    let split = c.in-Some.ensures in
    found_more c.args.line.now c.loop-word.left.now c.in-Some.word.now c.in-Some.rest.now c.loop-word.words.items c.push.new.self.items
    (record { column = length c.args.line.now - length c.in-Some.rest.now - length c.in-Some.word.now + 1; length = length c.in-Some.word.now })
    c.loop-word.invariant (record { words = split.words; columns = split.columns; place = split.place }) c.in_ok-push.ensures.items refl refl
