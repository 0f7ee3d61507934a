-- What a line means is in one line.
use Rattle.std.proofs.Common.{◌≡◌, ◌≢◌, ℕ, zero, suc, ◌+◌, ◌/◌, ◌%◌, ◌<◌, ◌≤◌, ◌^◌, Bool, true, false, cond, nat_eq, nat_lt, List, [], ◌∷◌, ◌++◌, codes, get_or, map, Option, Some, None, if◌then◌else◌, inl, inr, arith}
use Rattle.std.proofs.lemmas.Bool.Decides.{eqb_tells}
use Rattle.std.specs.Fmt.{decimal}
use Rattle.std.specs.List.{filter}
use Rattle.std.specs.Str.{bytes_eq}
use Rattle.std.specs.Char.{to_ascii_lowercase}
use Rattle.hex.specs.Hex.{encode_lower, encode_with, lower_digits}
use Rattle.tx_lines.specs.Lists.{list_text, more_text}
use Rattle.tx_lines.specs.Sets.{members}
use Rattle.tx_lines.specs.declared.read.header.TextKind.TheVariants.{Schedule, Program}
use Rattle.tx_model.specs.SignalSets.{is_in_set, realtime_signals, standard_signals}
use Rattle.tx_translate.specs.ByteWords.{digits_of, hex_or, is_hex, lower_or, plain_bytes}
use Rattle.tx_translate.specs.Lines.{line_of_words, plain_arguments, plain_call, plain_line, plain_of_words, plain_others, plain_version, short_or, spaced}
use Rattle.tx_translate.specs.Names.{names_process}
use Rattle.tx_translate.specs.OwnLines.{ended_lines, own_lines, with_byte, without_return}
use Rattle.tx_translate.specs.Plain.{bare}
use Rattle.tx_translate.specs.Roles.{plain_word, role_of}
use Rattle.tx_translate.specs.Sets.{numbers_or, set_in}
use Rattle.tx_translate.specs.SignalNames.{bare_name, named_signal, number_of_name, number_or}
use Rattle.tx_translate.specs.Strings.{meant}
use Rattle.tx_translate.specs.Words.{begins, is_inside, reading_after, word_from, words_from, words_in}
use Rattle.tx_translate.specs.declared.reading.Reading.{Reading}
use Rattle.tx_translate.specs.declared.reading.Reading.TheVariants.{Between}
use Rattle.tx_translate.specs.declared.roles.Role.{Role}
use Rattle.tx_translate.specs.declared.roles.Role.TheVariants.{Other, Bytes, Signal, Set}
use Rattle.tx_translate.specs.declared.stage.Stage.{Stage}
use Rattle.tx_translate.specs.declared.stage.Stage.TheVariants.{Heading, Within}
use Rattle.tx_translate.proofs.Bytes.{digits_within, AreWithin}

-- no byte ends a line
abbrev pub HasNoEnd : List ℕ → Type 0
HasNoEnd [] = Unit {0}
HasNoEnd (byte ∷ bytes) = (byte ≢ 10) × HasNoEnd bytes

abbrev pub HaveNoEnd : List (List ℕ) → Type 0
HaveNoEnd [] = Unit {0}
HaveNoEnd (line ∷ lines) = HasNoEnd line × HaveNoEnd lines

both_have : (first second : List ℕ) → HasNoEnd first → HasNoEnd second → HasNoEnd (first ++ second)
both_have [] second a b = b
both_have (byte ∷ bytes) second a b = (a.0, both_have bytes second a.1 b)

within_none : (low high : ℕ) (bytes : List ℕ) → 10 ≤ low → AreWithin low high bytes → HasNoEnd bytes
within_none low high [] above are = tt
within_none low high (byte ∷ bytes) above are =
    let past : low < byte = are.0 in
    ((λ same. omega (arith, above, past, same)), within_none low high bytes above are.2)

either : (test : Bool) (a b : List ℕ) → HasNoEnd a → HasNoEnd b → HasNoEnd (if test then a else b)
either true a b one other = one
either false a b one other = other

-- the lines that a person wrote
first_more : (byte : ℕ) (lines : List (List ℕ)) → byte ≢ 10 → HaveNoEnd lines → HaveNoEnd (with_byte byte lines)
first_more byte [] other have = ((other, tt), tt)
first_more byte (line ∷ lines) other have = ((other, have.0), have.1)

ended_none : (text : List ℕ) → HaveNoEnd (ended_lines text)
ended_none [] = tt
ended_none (byte ∷ bytes) =
    elim (eqb_tells byte 10) [
      | inl h ↦ rw h.0 (tt, ended_none bytes)
      | inr h ↦ rw h.0 (first_more byte (ended_lines bytes) h.1 (ended_none bytes))
    ]

return_none : (line : List ℕ) → HasNoEnd line → HasNoEnd (without_return line)
return_none [] none = tt
return_none (byte ∷ []) none = either (nat_eq byte 13) [] (byte ∷ []) tt none
return_none (byte ∷ next ∷ bytes) none = (none.0, return_none (next ∷ bytes) none.1)

returns_none : (lines : List (List ℕ)) → HaveNoEnd lines → HaveNoEnd (map without_return lines)
returns_none [] none = tt
returns_none (line ∷ lines) none = (return_none line none.0, returns_none lines none.1)

own_none : (text : List ℕ) → HaveNoEnd (own_lines text)
own_none text = returns_none (ended_lines text) (ended_none text)

-- their words
word_none : (reading : Reading) (bytes : List ℕ) → HasNoEnd bytes → HasNoEnd (word_from reading bytes)
word_none reading [] none = tt
word_none reading (byte ∷ bytes) none =
    either (is_inside (reading_after reading byte)) (byte ∷ word_from (reading_after reading byte) bytes) [] (none.0, word_none (reading_after reading byte) bytes none.1) tt

have_either : (test : Bool) (a b : List (List ℕ)) → HaveNoEnd a → HaveNoEnd b → HaveNoEnd (if test then a else b)
have_either true a b one other = one
have_either false a b one other = other

words_none : (reading : Reading) (bytes : List ℕ) → HasNoEnd bytes → HaveNoEnd (words_from reading bytes)
words_none reading [] none = tt
words_none reading (byte ∷ bytes) none =
    let later = words_none (reading_after reading byte) bytes none.1 in
    have_either (begins reading (reading_after reading byte)) (word_from reading (byte ∷ bytes) ∷ words_from (reading_after reading byte) bytes) (words_from (reading_after reading byte) bytes)
    (word_none reading (byte ∷ bytes) none, later) later

-- numbers
decimal_none : (n : ℕ) → n < 2 ^ 64 → HasNoEnd (decimal n)
decimal_none n small = within_none 47 58 (decimal n) (omega arith) (digits_within n small)

abbrev AreSmall : List ℕ → Type 0
AreSmall [] = Unit {0}
AreSmall (n ∷ ns) = (n < 2 ^ 64) × AreSmall ns

abbrev IsSmall : Option ℕ → Type 0
IsSmall None = Unit {0}
IsSmall (Some n) = n < 2 ^ 64

small_or : (test : Bool) (n : ℕ) (other : Option ℕ) → n < 2 ^ 64 → IsSmall other → IsSmall (if test then Some n else other)
small_or true n other small is = small
small_or false n other small is = is

name_small : (name : List ℕ) → IsSmall (number_of_name name)
name_small name =
    small_or (bytes_eq name (codes "HUP")) 1 _ (omega arith)
    (small_or (bytes_eq name (codes "INT")) 2 _ (omega arith)
    (small_or (bytes_eq name (codes "QUIT")) 3 _ (omega arith)
    (small_or (bytes_eq name (codes "ABRT")) 6 _ (omega arith)
    (small_or (bytes_eq name (codes "KILL")) 9 _ (omega arith)
    (small_or (bytes_eq name (codes "USR1")) 10 _ (omega arith)
    (small_or (bytes_eq name (codes "USR2")) 12 _ (omega arith)
    (small_or (bytes_eq name (codes "PIPE")) 13 _ (omega arith)
    (small_or (bytes_eq name (codes "ALRM")) 14 _ (omega arith)
    (small_or (bytes_eq name (codes "TERM")) 15 _ (omega arith)
    (small_or (bytes_eq name (codes "CHLD")) 17 None (omega arith) tt))))))))))

number_none : (word : List ℕ) (number : Option ℕ) → HasNoEnd word → IsSmall number → HasNoEnd (number_or word number)
number_none word None none small = none
number_none word (Some n) none small = decimal_none n small

filter_either : (test : Bool) (n : ℕ) (ns : List ℕ) → n < 2 ^ 64 → AreSmall ns → AreSmall (cond test (n ∷ ns) ns)
filter_either true n ns small are = (small, are)
filter_either false n ns small are = are

filter_small : (test : ℕ → Bool) (ns : List ℕ) → AreSmall ns → AreSmall (filter test ns)
filter_small test [] are = tt
filter_small test (n ∷ ns) are = filter_either (test n) n (filter test ns) are.0 (filter_small test ns are.1)

more_none : (ns : List ℕ) → AreSmall ns → HasNoEnd (more_text ns)
more_none [] are = tt
more_none (n ∷ ns) are = ((λ same. omega (arith, same)), both_have (decimal n) (more_text ns) (decimal_none n are.0) (more_none ns are.1))

list_none : (ns : List ℕ) → AreSmall ns → HasNoEnd (list_text ns)
list_none [] are = ((λ same. omega (arith, same)), tt)
list_none (n ∷ ns) are = both_have (decimal n) (more_text ns) (decimal_none n are.0) (more_none ns are.1)

all_small : AreSmall (standard_signals ++ realtime_signals)
all_small =
    (omega arith, (omega arith, (omega arith, (omega arith, (omega arith, (omega arith, (omega arith, (omega arith, (omega arith, (omega arith, (omega arith, (omega arith, (omega arith, (omega arith, (omega arith, (omega arith, (omega arith, (omega arith, (omega arith, tt)))))))))))))))))))

members_small : (set : ℕ) → AreSmall (members set)
unfolding members
members_small set = filter_small (is_in_set set) (standard_signals ++ realtime_signals) all_small

numbers_none : (word : List ℕ) (set : Option ℕ) → HasNoEnd word → HasNoEnd (numbers_or word set)
numbers_none word None none = none
numbers_none word (Some set) none = list_none (members set) (members_small set)

-- bytes
digit_none : (digits : List ℕ) (k : ℕ) → HasNoEnd digits → get_or digits k 0 ≢ 10
digit_none [] k none = λ same. omega (arith, same)
digit_none (byte ∷ digits) zero none = none.0
digit_none (byte ∷ digits) (suc k) none = digit_none digits k none.1

digits_none : HasNoEnd lower_digits
digits_none =
    ((λ same. omega (arith, same)), ((λ same. omega (arith, same)), ((λ same. omega (arith, same)), ((λ same. omega (arith, same)), ((λ same. omega (arith, same)), ((λ same. omega (arith, same)), ((λ same. omega (arith, same)), ((λ same. omega (arith, same)), ((λ same. omega (arith, same)), ((λ same. omega (arith, same)), ((λ same. omega (arith, same)), ((λ same. omega (arith, same)), ((λ same. omega (arith, same)), ((λ same. omega (arith, same)), ((λ same. omega (arith, same)), ((λ same. omega (arith, same)), tt))))))))))))))))

hex_none : (bytes : List ℕ) → HasNoEnd (encode_lower bytes)
unfolding encode_with
hex_none [] = tt
hex_none (byte ∷ bytes) = (digit_none lower_digits (byte / 16) digits_none, (digit_none lower_digits (byte % 16) digits_none, hex_none bytes))

hex_or_none : (word : List ℕ) (bytes : Option (List ℕ)) → HasNoEnd word → HasNoEnd (hex_or word bytes)
hex_or_none word None none = none
hex_or_none word (Some bytes) none = hex_none bytes

lower_none : (byte : ℕ) → byte ≢ 10 → to_ascii_lowercase byte ≢ 10
lower_none byte other = by (nat_lt byte 65) (nat_lt byte 91)
  where
    by : (low upper : Bool) → cond low byte (cond upper (byte + 32) byte) ≢ 10
    by true upper = other
    by false true = λ same. omega (arith, same)
    by false false = other

map_none : (bytes : List ℕ) → HasNoEnd bytes → HasNoEnd (map to_ascii_lowercase bytes)
map_none [] none = tt
map_none (byte ∷ bytes) none = (lower_none byte none.0, map_none bytes none.1)

drop_none : (word : List ℕ) → HasNoEnd word → HasNoEnd (digits_of word)
drop_none [] none = tt
drop_none (byte ∷ []) none = either (bytes_eq (byte ∷ []) (codes "0x")) [] (byte ∷ []) tt none
drop_none (byte ∷ next ∷ bytes) none = either (bytes_eq (byte ∷ next ∷ []) (codes "0x")) bytes (byte ∷ next ∷ bytes) none.1.1 none

bytes_none : (word : List ℕ) → HasNoEnd word → HasNoEnd (plain_bytes word)
bytes_none [] none = tt
bytes_none (byte ∷ bytes) none =
    let digits = digits_of (byte ∷ bytes) in
    either (nat_eq byte 34) (hex_or (byte ∷ bytes) (meant bytes)) (lower_or (byte ∷ bytes) digits) (hex_or_none (byte ∷ bytes) (meant bytes) none)
    (either (is_hex digits) (map to_ascii_lowercase digits) (byte ∷ bytes) (map_none digits (drop_none (byte ∷ bytes) none)) none)

-- what they mean
plain_none : (role : Role) (word : List ℕ) → HasNoEnd word → HasNoEnd (plain_word role word)
plain_none Other word none = none
plain_none Bytes word none = bytes_none word none
plain_none Signal word none = number_none word (named_signal word) none (name_small (bare_name word))
plain_none Set word none = numbers_none word (set_in word) none

arguments_none : (name : List ℕ) (place : ℕ) (words : List (List ℕ)) → HaveNoEnd words → HaveNoEnd (plain_arguments name place words)
arguments_none name place [] none = tt
arguments_none name place (word ∷ words) none = (plain_none (role_of name place) word none.0, arguments_none name (place + 1) words none.1)

version_none : (words : List (List ℕ)) → HaveNoEnd words → HaveNoEnd (plain_version words)
version_none [] none = tt
version_none (version ∷ words) none = (((λ same. omega (arith, same)), tt), none.1)

call_none : (words : List (List ℕ)) → HaveNoEnd words → HaveNoEnd (plain_call words)
call_none [] none = tt
call_none (name ∷ arguments) none = (none.0, arguments_none name 0 arguments none.1)

others_none : (stage : Stage) (first : List ℕ) (others : List (List ℕ)) → HaveNoEnd others → HaveNoEnd (plain_others stage first others)
others_none Heading first others none = version_none others none
others_none (Within Program) first others none = arguments_none first 0 others none
others_none (Within Schedule) first others none = call_none others none

spaced_none : (words : List (List ℕ)) → HaveNoEnd words → HasNoEnd (spaced words)
spaced_none [] none = tt
spaced_none (word ∷ words) none = ((λ same. omega (arith, same)), both_have word (spaced words) none.0 (spaced_none words none.1))

bare_either : (test : Bool) (a b : Option (List ℕ)) → HasNoEnd (bare a) → HasNoEnd (bare b) → HasNoEnd (bare (if test then a else b))
bare_either true a b one other = one
bare_either false a b one other = other

of_words_none : (stage : Stage) (words : List (List ℕ)) → HaveNoEnd words → HasNoEnd (bare (plain_of_words stage words))
of_words_none stage [] none = tt
of_words_none stage (first ∷ others) none =
    bare_either (names_process stage first others) None (Some (line_of_words stage first others)) tt
    (both_have first (spaced (plain_others stage first others)) none.0 (spaced_none (plain_others stage first others) (others_none stage first others none.1)))

short_none : (line : List ℕ) (found : Option (List ℕ)) → HasNoEnd line → HasNoEnd (bare found) → HasNoEnd (bare (short_or line found))
short_none line None none found = tt
short_none line (Some plain) none found = bare_either _ (Some line) (Some plain) none found

pub line_none : (stage : Stage) (line : List ℕ) → HasNoEnd line → HasNoEnd (bare (plain_line stage line))
line_none stage line none =
    bare_either _ (Some line) (short_or line (plain_of_words stage (words_in line))) none
    (short_none line (plain_of_words stage (words_in line)) none (of_words_none stage (words_in line) (words_none Between line none)))

-- a line that a person wrote
pub first_none : (text line : List ℕ) (lines : List (List ℕ)) → own_lines text ≡ line ∷ lines → HasNoEnd line
first_none text line lines are =
    let have : HaveNoEnd (line ∷ lines) = rw are at (own_none text) in have.0
