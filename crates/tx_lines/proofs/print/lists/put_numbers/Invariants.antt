use Rattle.std.proofs.Common.{◌≡◌, ◌++◌, drop, string_bytes}
use Rattle.tx_lines.specs.Lists.{more_text}
use Rattle.tx_lines.proofs.print.lists.put_numbers.Given as goal

abbrev pub invariant-loop-number : goal.invariant-loop-number
invariant-loop-number l = string_bytes l.text ++ more_text (drop l.number-index l.others) ≡ string_bytes l.initial.text ++ more_text l.others
