use Rattle.std.proofs.Common.{◌≡◌, ◌++◌, take, string_bytes}
use Rattle.std.specs.List.{flat_map}
use Rattle.tx_picture.specs.Heads.{head_text}
use Rattle.tx_picture.specs.Sheets.{page_as}
use Rattle.tx_picture.proofs.heads.put_heads.Given as goal

abbrev pub invariant-loop-i : goal.invariant-loop-i
invariant-loop-i l = string_bytes l.text ≡ string_bytes l.initial.text ++ flat_map (head_text (page_as l.sheet) l.line) (take l.i l.sheet.columns.now)
