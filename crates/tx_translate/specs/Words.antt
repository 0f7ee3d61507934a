-- The words of a line that a person wrote. Spaces and tabs separate them, `#` outside of a string
-- begins a comment, and a word that begins with `"` goes on at least to the next `"` that no `\`
-- escapes.
use Rattle.std.specs.Prelude.{ℕ, ◌+◌, ◌-◌, Bool, true, false, not, ◌&&◌, ◌||◌, List, [], ◌∷◌, nat_eq, slice_range, if◌then◌else◌}
use Rattle.tx_translate.specs.declared.reading.Reading.{Reading}
use Rattle.tx_translate.specs.declared.reading.Reading.TheVariants.{Between, InWord, InString, AfterBackslash, InComment}
use Rattle.tx_translate.specs.declared.words.Word.{Word}

-- whether a byte is a space or a tab
abbrev pub is_blank : ℕ → Bool
is_blank byte = nat_eq byte 32 || nat_eq byte 9

-- the state of reading after a byte that follows no word, after one that follows a byte of a word,
-- and after one in a string
abbrev pub after_blank : ℕ → Reading
after_blank byte =
    if is_blank byte
    then Between else if nat_eq byte 35 then InComment else if nat_eq byte 34 then InString
    else InWord

abbrev pub after_word_byte : ℕ → Reading
after_word_byte byte =
    if is_blank byte then Between else if nat_eq byte 35 then InComment else InWord

abbrev pub after_string_byte : ℕ → Reading
after_string_byte byte =
    if nat_eq byte 34 then InWord else if nat_eq byte 92 then AfterBackslash else InString

-- the state of reading after one byte more
abbrev pub reading_after : Reading → ℕ → Reading
reading_after Between byte = after_blank byte
reading_after InWord byte = after_word_byte byte
reading_after InString byte = after_string_byte byte
reading_after AfterBackslash byte = InString
reading_after InComment byte = InComment

-- whether the last byte was one of a word
abbrev pub is_inside : Reading → Bool
is_inside Between = false
is_inside InWord = true
is_inside InString = true
is_inside AfterBackslash = true
is_inside InComment = false

-- the bytes up to the first that is none of a word
abbrev pub word_from : Reading → List ℕ → List ℕ
word_from reading [] = []
word_from reading (byte ∷ bytes) =
    if is_inside (reading_after reading byte)
    then byte ∷ word_from (reading_after reading byte) bytes
    else []

-- and the bytes from there on
abbrev pub rest_from : Reading → List ℕ → List ℕ
rest_from reading [] = []
rest_from reading (byte ∷ bytes) =
    if is_inside (reading_after reading byte)
    then rest_from (reading_after reading byte) bytes
    else byte ∷ bytes

-- what is left of a line from its next word on
abbrev pub next_from : List ℕ → List ℕ
next_from [] = []
next_from (byte ∷ bytes) =
    if nat_eq byte 35 then [] else if is_blank byte then next_from bytes else byte ∷ bytes

-- whether a word begins with the byte that led from there to there
abbrev pub begins : Reading → Reading → Bool
begins before after = not (is_inside before) && is_inside after

-- the words that begin in what is left of a line
abbrev pub words_from : Reading → List ℕ → List (List ℕ)
words_from reading [] = []
words_from reading (byte ∷ bytes) =
    if begins reading (reading_after reading byte)
    then word_from reading (byte ∷ bytes) ∷ words_from (reading_after reading byte) bytes
    else words_from (reading_after reading byte) bytes

-- the words of a line
abbrev pub words_in : List ℕ → List (List ℕ)
words_in line = words_from Between line

-- the columns at which they begin, where that is the column of the first byte
abbrev pub columns_from : ℕ → Reading → List ℕ → List ℕ
columns_from column reading [] = []
columns_from column reading (byte ∷ bytes) =
    if begins reading (reading_after reading byte)
    then column ∷ columns_from (column + 1) (reading_after reading byte) bytes
    else columns_from (column + 1) (reading_after reading byte) bytes

-- the columns at which the words of a line begin, from 1
abbrev pub columns_in : List ℕ → List ℕ
columns_in line = columns_from 1 Between line

-- the bytes of a word of a line, by its place
abbrev pub bytes_at : List ℕ → Word → List ℕ
bytes_at line word = slice_range line (word.column - 1) (word.column - 1 + word.length)
