-- The comment of a line, and which reply it expects of the line's step.
use Rattle.std.specs.Prelude.{ℕ, ◌-◌, Bool, false, true, not, ◌||◌, List, [], ◌∷◌, drop, is_some, length, take, nat_eq, codes, option_and_then, Option, Some, None, if◌then◌else◌}
use Rattle.std.specs.Char.{is_ascii_whitespace}
use Rattle.std.specs.List.{prefix_len, suffix_len}
use Rattle.std.specs.Str.{bytes_eq}
use Rattle.tx_lines.specs.Words.{parts_at}
use Rattle.tx_translate.specs.Names.{naming_of}
use Rattle.tx_translate.specs.Words.{is_blank, reading_after}
use Rattle.tx_translate.specs.declared.reading.Reading.{Reading}
use Rattle.tx_translate.specs.declared.reading.Reading.TheVariants.{Between, InWord, InString, AfterBackslash, InComment}

-- whether words are those of the header or of a step: there are some, and they give no name to a
-- process
abbrev pub is_header_or_step : List (List ℕ) → Bool
is_header_or_step [] = false
is_header_or_step (word ∷ words) = not (is_some (naming_of word words))

-- bytes without the ASCII white space at their start, and without that at their end
abbrev pub without_start : List ℕ → List ℕ
without_start bytes = drop (prefix_len is_ascii_whitespace bytes) bytes

abbrev pub without_end : List ℕ → List ℕ
without_end bytes = take (length bytes - suffix_len is_ascii_whitespace bytes) bytes

abbrev pub trimmed : List ℕ → List ℕ
trimmed bytes = without_end (without_start bytes)

-- whether reading is in a comment
abbrev pub is_in_comment : Reading → Bool
is_in_comment Between = false
is_in_comment InWord = false
is_in_comment InString = false
is_in_comment AfterBackslash = false
is_in_comment InComment = true

-- what follows the `#` that begins a comment in what is left of a line
abbrev pub comment_from : Reading → List ℕ → Option (List ℕ)
comment_from reading [] = None
comment_from reading (byte ∷ bytes) =
    if is_in_comment (reading_after reading byte)
    then Some bytes
    else comment_from (reading_after reading byte) bytes

-- the comment of a line
abbrev pub comment_in : List ℕ → Option (List ℕ)
comment_in line = comment_from Between line

-- what follows the `=` with which a comment begins, which may be after blanks
abbrev pub after_equals : List ℕ → Option (List ℕ)
after_equals [] = None
after_equals (byte ∷ bytes) =
    if nat_eq byte 61 then Some bytes else if is_blank byte then after_equals bytes else None

-- the bytes before the first `#`
abbrev pub before_by : List ℕ → Option (List ℕ × List ℕ) → List ℕ
before_by bytes None = bytes
before_by bytes (Some parts) = parts.0

abbrev pub before_mark : List ℕ → List ℕ
before_mark bytes = before_by bytes (parts_at 35 bytes)

-- a comment up to the next `#`, without the white space around it
abbrev pub comment_text : List ℕ → List ℕ
comment_text comment = trimmed (before_mark comment)

-- what a line expects: what its comment has after `=`
abbrev pub expected_in : List ℕ → Option (List ℕ)
expected_in line = option_and_then after_equals (comment_in line)

-- whether that is a text: right after one space, or by the text of the comment
abbrev pub says : List ℕ → List ℕ → Bool
says expected text = bytes_eq expected (32 ∷ text) || bytes_eq (comment_text expected) text

-- whether a comment says `state`
abbrev pub is_state : Option (List ℕ) → Bool
is_state None = false
is_state (Some comment) = says comment (codes "state")

-- whether the lines of a state are expected after a line
abbrev pub begins_state : List ℕ → Bool
begins_state line = is_state (comment_in line)
