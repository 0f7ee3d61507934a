use Rattle.std.proofs.Common.{arith, codes, refl, string_bytes}
use Rattle.std.specs.Fmt.{decimal}
use Rattle.tx_check.proofs.InLine.{decimal_in_line, in_line_more}
use Rattle.tx_check.specs.Diagnostics.{IsInLine}
use Rattle.tx_check.proofs.sentences.byte_sentence.Goals as goal

pub returns-clause-in_line : goal.returns-clause-in_line
returns-clause-in_line c =
    let empty : IsInLine (string_bytes c.new-text.result) = rw c.new-text.ensures.bytes refl in
    let front = in_line_more (string_bytes c.new-text.result) (codes "byte ") (string_bytes c.put.new.text) empty refl c.in_ok-put.ensures in
    let count = in_line_more (string_bytes c.put.new.text) (decimal c.from.result) (string_bytes c.put_count.new.text) front (decimal_in_line c.from.result (omega (arith, c.from.ensures, c.ranges.byte.fits))) c.in_ok-put_count.ensures in
    in_line_more (string_bytes c.put_count.new.text) c.byte_tail.result.now (string_bytes c.put-2.new.text) count c.byte_tail.ensures.in_line c.in_ok-put-2.ensures
