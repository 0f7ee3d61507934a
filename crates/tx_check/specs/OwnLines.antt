-- How far a text is reported, by its own lines, and which line of what it means is reported.
use Rattle.std.specs.Prelude.{◌≡◌, ◌≢◌, ℕ, ◌-◌, ◌^◌, ◌<◌, ◌≤◌, List, [], ◌⊎◌}
use Rattle.tx_check.specs.Numbered.{after_lines, line_at}
use Rattle.tx_check.specs.Diagnostics.{ReportsUpTo}
use Rattle.tx_check.specs.Wrong.{has_end, IsUnlinked, IsWrongThere}
use Rattle.tx_check.specs.declared.own.TextFrom.{TextFrom}
use Rattle.tx_check.specs.declared.places.Part.{Part}
use Rattle.tx_check.specs.declared.places.Part.TheVariants as parts
use Rattle.tx_check.specs.declared.places.TextLine.{TextLine}
use Rattle.tx_translate.specs.Meant.{meant_of, own_line}
use Rattle.tx_translate.specs.MeantLines.{left_of}
use Rattle.tx_translate.specs.declared.meant_lines.MeantLines.{MeantLines}

-- it is the text from one of its lines on
pub record IsFrom (text : List ℕ) (from : TextFrom) : Type 0 where
  pub some : 1 ≤ from.number
  pub left : from.left.now ≡ after_lines (from.number - 1) text

-- after so many lines of a text the line of that number is at fault: by its label, where only
-- labels are checked from there on; else in its place
abbrev pub IsWrongAfter : Part → ℕ → List ℕ → ℕ → Type 0
IsWrongAfter part passed text number =
    (passed < number)
    × (number < 2 ^ 64)
    × (((part ≡ parts.Link) × IsUnlinked text number)
    ⊎ ((part ≢ parts.Link) × IsWrongThere text number))

-- a text is reported up to its own line `last`, and of the lines that it means, after so many and
-- up to line `count`, none that is at fault is left out
abbrev pub ReportsAfter : Part → ℕ → ℕ → List ℕ → ℕ → ℕ → List ℕ → Type 0
ReportsAfter part passed count text first last report =
    ReportsUpTo (λ number. (number ≤ count) × IsWrongAfter part passed (meant_of text) number) text
    first last report

-- a text that was reported up to one own line is reported up to the next, so that no line at fault
-- up to that one is left out
pub record GoesOnIn (part : Part) (text : List ℕ) (line : ℕ) (from next : TextFrom)
    (old new : List ℕ) : Type 0 where
  pub is : IsFrom text next
  pub up_to : next.number ≤ own_line text line
  pub on : (passed first : ℕ) → ReportsAfter part passed (line - 1) text first from.number old
      → ReportsAfter part passed line text first next.number new

-- so it is with each text that means those lines, of which that one comes from that own one, and
-- that was reported up to there
abbrev pub GoesOn : Part → MeantLines → ℕ → ℕ → TextFrom → TextFrom → List ℕ → List ℕ → Type 0
GoesOn part meant line own from next old new =
    (text : List ℕ) → left_of meant ≡ meant_of text → own ≡ own_line text line → from.number ≤ own
    → IsFrom text from → GoesOnIn part text line from next old new

-- it is the line of its number, which is there, after the first
pub record IsLineAt (text : List ℕ) (line : TextLine) : Type 0 where
  pub past_first : 2 ≤ line.number
  pub there : after_lines (line.number - 1) text ≢ []
  pub bytes : line.bytes.now ≡ line_at line.number text
  pub ended : line.is_ended ≡ has_end line.number text
