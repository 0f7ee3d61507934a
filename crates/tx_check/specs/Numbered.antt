-- The lines of a text by their numbers.
use Rattle.std.specs.Prelude.{ℕ, zero, suc, ◌-◌, List}
use Rattle.tx_lines.specs.Schedule.{first_line}
pub use Rattle.tx_translate.specs.MeantLines.{behind, behind_by}

-- what follows so many lines
abbrev pub after_lines : ℕ → List ℕ → List ℕ
after_lines zero text = text
after_lines (suc count) text = behind (after_lines count text)

-- the line of that number; lines count from 1
abbrev pub line_at : ℕ → List ℕ → List ℕ
line_at number text = first_line (after_lines (number - 1) text)
