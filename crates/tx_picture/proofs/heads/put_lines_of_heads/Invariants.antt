use Rattle.std.proofs.Common.{◌≡◌, ◌++◌, string_bytes}
use Rattle.tx_picture.specs.Heads.{heads_upto}
use Rattle.tx_picture.specs.Sheets.{page_as}
use Rattle.tx_picture.proofs.heads.put_lines_of_heads.Given as goal

abbrev pub invariant-loop-line : goal.invariant-loop-line
invariant-loop-line l = string_bytes l.text ≡ string_bytes l.initial.text ++ heads_upto (page_as l.sheet) l.line
