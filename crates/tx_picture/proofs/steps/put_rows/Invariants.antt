use Rattle.std.proofs.Common.{◌≡◌, ◌+◌, ◌++◌, drop, string_bytes}
use Rattle.tx_picture.specs.Sheets.{page_as}
use Rattle.tx_picture.specs.Steps.{rows_text}
use Rattle.tx_picture.proofs.steps.put_rows.Given as goal

abbrev pub invariant-loop-i : goal.invariant-loop-i
invariant-loop-i l = string_bytes l.initial.text ++ rows_text (page_as l.sheet) 1 l.rows ≡ string_bytes l.text ++ rows_text (page_as l.sheet) (l.i + 1) (drop l.i l.rows)
