use Rattle.std.proofs.Common.{◌≡◌, ◌++◌, take, string_bytes}
use Rattle.tx_state_text.specs.Each.{each_text}
use Rattle.tx_shell.specs.Names.{named}
use Rattle.tx_shell.specs.Holders.{next_text}
use Rattle.tx_shell.proofs.questions.holders.put_others.Given as goal

abbrev pub invariant-loop-i : goal.invariant-loop-i
invariant-loop-i l = string_bytes l.text ≡ string_bytes l.initial.text ++ each_text (next_text (named l.names)) (take l.i l.others)
