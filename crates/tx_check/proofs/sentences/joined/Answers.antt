use Rattle.std.proofs.Common.{map, refl, string_bytes}
use Rattle.tx_check.proofs.InLine.{in_line_more}
use Rattle.tx_check.proofs.SaidWords.{shown_in_line, word_in_line}
use Rattle.tx_check.specs.Speaking.{said_word, shown}
use Rattle.tx_check.specs.Diagnostics.{IsInLine}
use Rattle.tx_check.proofs.sentences.joined.Goals as goal

pub returns-clause-in_line : goal.returns-clause-in_line
returns-clause-in_line c =
    let empty : IsInLine (string_bytes c.new-text.result) = rw c.new-text.ensures.bytes refl in
    let front = in_line_more (string_bytes c.new-text.result) c.args.front.now (string_bytes c.put.new.text) empty c.requires.front_in_line c.in_ok-put.ensures in
    let word = in_line_more (string_bytes c.put.new.text) (said_word c.args.word.now) (string_bytes c.put_word.new.text) front (word_in_line c.args.word.now) c.in_ok-put_word.ensures in
    let mark = in_line_more (string_bytes c.put_word.new.text) c.mark_before.result.now (string_bytes c.put-2.new.text) word c.mark_before.ensures.in_line c.in_ok-put-2.ensures in
    in_line_more (string_bytes c.put-2.new.text) (map shown c.args.tail.now) (string_bytes c.put_shown.new.text) mark (shown_in_line c.args.tail.now) c.in_ok-put_shown.ensures
