use Rattle.std.proofs.Common.{◌≡◌, ◌++◌, drop, map, string_bytes}
use Rattle.std.specs.Fmt.{signed_decimal}
use Rattle.tx_lines.specs.Words.{joined}
use Rattle.tx_lines.proofs.MoreWords.{more_words}
use Rattle.tx_lines.proofs.calls.put_named.Given as goal

abbrev pub invariant-loop-number : goal.invariant-loop-number
invariant-loop-number l = string_bytes l.text ++ more_words (map signed_decimal (drop l.number-index l.numbers)) ≡ string_bytes l.fn.text ++ joined l.name (map signed_decimal l.numbers)
