use Rattle.tx_translate.proofs.NextMeant.{meaning_begins}
use Rattle.tx_translate.proofs.meant_lines.OwnLine.may_begin.Goals as goal

pub returns-in-Some : goal.returns-in-Some
returns-in-Some c = λ rest same.
    let begins = meaning_begins c.in-Some._stage c.args.word.now c.args.self.bytes.now rest c.requires (rw c.in-Some.is at same) in
    c.begins_so.ensures.only begins.0 (rw c.from_word.ensures begins.1)
