-- The lines of a program: instructions and labels, one spelling each.
use Rattle.std.specs.Prelude.{◌≡◌, ℕ, pos, ◌-◌, ◌<◌, Bool, true, false, not, ◌&&◌, ◌||◌, List, [], ◌∷◌, length, slice_get, slice_index, nat_eq, nat_le, codes, if◌then◌else◌, Some}
use Rattle.std.specs.Fmt.{decimal}
use Rattle.std.specs.List.{list_all}
use Rattle.tx_base.specs.declared.steps.Call.{Call}
use Rattle.tx_lines.specs.Arguments.{is_spelled, text_of, word_of, Argument}
use Rattle.tx_lines.specs.Calls.{arguments_of, name_of, program_arguments, FitsCall}
use Rattle.tx_lines.specs.Lines.{IsCallOf}
use Rattle.tx_lines.specs.Words.{joined}
use Rattle.tx_lines.specs.declared.instructions.Instruction.{Instruction}
use Rattle.tx_lines.specs.declared.instructions.Kind.{Kind}
use Rattle.tx_lines.specs.declared.instructions.Kind.TheVariants as kinds
use Rattle.tx_lines.specs.declared.instructions.Spelling.{Spelling}
use Rattle.tx_lines.specs.declared.instructions.Spelling.TheVariants.{Plain, Slot, Label}
use Rattle.tx_lines.specs.declared.read.header.Version.{Version}

-- whether a byte is a lower-case letter
abbrev pub is_letter : ℕ → Bool
is_letter byte = nat_le 97 byte && nat_le byte 122

-- whether a byte may be in a name
abbrev pub is_name_byte : ℕ → Bool
is_name_byte byte = is_letter byte || (nat_le 48 byte && nat_le byte 57) || nat_eq byte 95

-- whether a word is a name: a letter, and up to 15 letters, digits and underscores
abbrev pub is_name : List ℕ → Bool
is_name [] = false
is_name (byte ∷ bytes) = is_letter byte && (list_all is_name_byte bytes && nat_le (length bytes) 15)

-- the word of an argument, as it is spelled
abbrev pub spelled_word : Spelling → Argument → List ℕ
spelled_word Plain argument = word_of argument
spelled_word (Slot slot) argument = 36 ∷ decimal slot
spelled_word (Label name) argument = 64 ∷ name.bytes.items

-- the words of some arguments, as they are spelled
abbrev pub spelled_words : List Spelling → List Argument → List (List ℕ)
spelled_words (spelling ∷ spellings) (argument ∷ arguments) =
    spelled_word spelling argument ∷ spelled_words spellings arguments
spelled_words _ _ = []

-- the spelling of an instruction, without the line's end
abbrev pub instruction_text : Instruction → List ℕ
instruction_text instruction =
    joined (name_of instruction.call)
    (spelled_words instruction.spellings.items (program_arguments instruction.call))

-- what an argument is
abbrev pub kind_of : Argument → Kind
kind_of (Argument.Number number) = kinds.Number
kind_of (Argument.Point point) = kinds.Point
kind_of _ = kinds.Word

-- whether an argument may be spelled so: a number by a slot, and a point only by a label
abbrev pub may_be : Spelling → Kind → Bool
may_be Plain kinds.Number = true
may_be Plain kinds.Point = false
may_be Plain kinds.Word = true
may_be (Slot slot) kinds.Number = true
may_be (Slot slot) kinds.Point = false
may_be (Slot slot) kinds.Word = false
may_be (Label name) kinds.Number = false
may_be (Label name) kinds.Point = true
may_be (Label name) kinds.Word = false

-- each argument may be spelled so, where both are there
abbrev pub MayAllBe : List Spelling → List Argument → Type 0
MayAllBe spellings arguments =
    (place : ℕ) (spelling : Spelling) (argument : Argument)
    → slice_get spellings place ≡ Some spelling
    → slice_get arguments place ≡ Some argument → may_be spelling (kind_of argument) ≡ true

-- an argument is spelled so in a text; until it is known it is 0
abbrev pub IsSpelled : Spelling → Argument → Type 0
IsSpelled Plain argument = may_be Plain (kind_of argument) ≡ true
IsSpelled (Slot slot) argument = (slot < 8) × (argument ≡ Argument.Number (pos 0))
IsSpelled (Label name) argument = (is_name name.bytes.items ≡ true) × (argument ≡ Argument.Point 0)

-- so are some arguments, one by one
abbrev pub AreSpelled : List Spelling → List Argument → Type 0
AreSpelled [] [] = Unit {0}
AreSpelled (spelling ∷ spellings) (argument ∷ arguments) =
    IsSpelled spelling argument × AreSpelled spellings arguments
AreSpelled _ _ = ⊥

-- what is chosen is 0 until it is
abbrev pub AreLater : List Argument → Type 0
AreLater [] = Unit {0}
AreLater (Argument.Chosen limit number ∷ arguments) = (number ≡ 0) × AreLater arguments
AreLater (argument ∷ arguments) = AreLater arguments

abbrev pub ChoosesLater : Call → Type 0
ChoosesLater c = AreLater (arguments_of c)

-- a text of that version can hold the instruction
pub record IsInstruction (version : Version) (instruction : Instruction) : Type 0 where
  pub fits : FitsCall instruction.call
  pub of : IsCallOf version instruction.call
  pub chooses : ChoosesLater instruction.call
  pub spelled : AreSpelled instruction.spellings.items (program_arguments instruction.call)

-- how a word of a text is read
abbrev pub slot_spelling : ℕ → Spelling
slot_spelling byte = if nat_le 48 byte && nat_le byte 55 then Slot (byte - 48) else Plain

abbrev pub label_spelling : List ℕ → Spelling
label_spelling bytes =
    if is_name bytes then Label (record { bytes = record { items = bytes } }) else Plain

abbrev pub spelling_of : List ℕ → Spelling
spelling_of [] = Plain
spelling_of (byte ∷ bytes) =
    if nat_eq byte 36 && nat_eq (length bytes) 1
    then slot_spelling (slice_index bytes 0) else if nat_eq byte 64 then label_spelling bytes
    else Plain

-- a word that is spelled so, or 0 where it names a slot or a label
abbrev pub plain_as : Spelling → List ℕ → List ℕ
plain_as Plain word = word
plain_as (Slot slot) word = codes "0"
plain_as (Label name) word = codes "0"

abbrev pub plain_word : List ℕ → List ℕ
plain_word word = plain_as (spelling_of word) word

-- the words of a text, separated by spaces: the first, and the others
abbrev pub with_byte : ℕ → List ℕ × List (List ℕ) → List ℕ × List (List ℕ)
with_byte byte words = (byte ∷ words.0, words.1)

abbrev pub words_of : List ℕ → List ℕ × List (List ℕ)
words_of [] = ([], [])
words_of (byte ∷ bytes) =
    if nat_eq byte 32
    then ([], (words_of bytes).0 ∷ (words_of bytes).1)
    else with_byte byte (words_of bytes)

-- the words of a call, with 0 for what is not yet known
abbrev pub plain_text : Call → List ℕ
plain_text c = text_of (name_of c, program_arguments c)

-- whether a call chooses numbers that are free as it is made
abbrev pub chooses_numbers : Call → Bool
chooses_numbers c = not (list_all is_spelled (arguments_of c))

-- what the argument at a place is: of a call whose first is a number and whose others are words, of
-- a jump, and of a sigaction
abbrev pub kind_of_first : ℕ → Kind
kind_of_first place = if nat_eq place 0 then kinds.Number else kinds.Word

abbrev pub kind_in_jump : ℕ → Kind
kind_in_jump place =
    if nat_eq place 0 then kinds.Point else if nat_eq place 1 then kinds.Word else kinds.Number

abbrev pub kind_in_sigaction : ℕ → Kind
kind_in_sigaction place =
    if nat_eq place 0 then kinds.Number else if nat_eq place 2 then kinds.Point else kinds.Word
