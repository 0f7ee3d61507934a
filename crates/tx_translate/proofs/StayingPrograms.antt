-- The lines of programs mean themselves.
use Rattle.std.proofs.Common.{◌≡◌, ℕ, ◌+◌, ◌<◌, ◌^◌, true, false, ◌&&◌, ◌||◌, nat_eq, nat_le, List, [], ◌∷◌, ◌++◌, codes, length, map, refl, ap, sym, ◌∙◌, arith, subst, inl, inr, leb-true, eqb-true}
use Rattle.std.proofs.lemmas.Bool.{both_ways}
use Rattle.std.proofs.lemmas.List.{append-nil}
use Rattle.std.specs.Fmt.{decimal}
use Rattle.std.specs.List.{filter, list_all}
use Rattle.tx_base.specs.declared.signals.Action.TheVariants.{Usual, Ignore, Catch}
use Rattle.tx_base.specs.declared.steps.Call.{Call}
use Rattle.tx_base.specs.declared.steps.Call.TheVariants as call
use Rattle.tx_base.specs.declared.steps.When.TheVariants.{Always, IfRet}
use Rattle.std.specs.Prelude.{pos}
use Rattle.tx_lines.specs.Arguments.{is_spelled, AllFit, Argument, FitsArgument}
use Rattle.tx_lines.specs.Calls.{arguments_of, name_of, program_arguments}
use Rattle.tx_lines.specs.Instructions.{is_letter, is_name, is_name_byte, spelled_word, spelled_words, AreSpelled, IsSpelled}
use Rattle.tx_lines.specs.Lines.{header_text}
use Rattle.tx_lines.specs.Programs.{label_front, line_text, IsLineOf}
use Rattle.tx_lines.specs.declared.instructions.Line.{Line}
use Rattle.tx_lines.specs.declared.instructions.Line.TheVariants as line
use Rattle.tx_lines.specs.declared.instructions.Spelling.{Spelling}
use Rattle.tx_lines.specs.declared.instructions.Spelling.TheVariants.{Plain, Slot, Label}
use Rattle.tx_lines.specs.declared.read.header.TextKind.TheVariants.{Program}
use Rattle.tx_lines.specs.declared.read.header.Version.TheVariants.{Two}
use Rattle.tx_translate.specs.Laws.{ProgramStays, Means, second, third_header}
use Rattle.tx_translate.specs.Lines.{plain_arguments}
use Rattle.tx_translate.specs.Roles.{plain_word, role_of}
use Rattle.tx_translate.specs.declared.roles.Role.{Role}
use Rattle.tx_translate.specs.declared.roles.Role.TheVariants as role
use Rattle.tx_translate.proofs.BareLines.{joined_spaced}
use Rattle.tx_translate.proofs.Bytes.{bare, bare_decimal, AllBare, AreWithin, IsBare, IsLow}
use Rattle.tx_translate.proofs.StayingLines.{all_stay, lines_mapped, text_means, StaysIn}
use Rattle.tx_translate.proofs.StayingWords.{are_apt, bare_argument, bare_named, bare_words, has_bare, is_apt, word_stays}
use Rattle.tx_translate.proofs.Unnamed.{low_signal}
use Rattle.tx_translate.proofs.Tests.{and_parts, or_parts}

-- a name of a label is of the alphabet
letter_within : (byte : ℕ) → is_letter byte ≡ true → (35 < byte) × (byte < 128)
letter_within byte h =
    let parts = and_parts (nat_le 97 byte) (nat_le byte 122) h in
    let low = leb-true 97 byte parts.0 in
    let high = leb-true byte 122 parts.1 in
    (omega arith, omega arith)

name_byte_within : (byte : ℕ) → is_name_byte byte ≡ true → (35 < byte) × (byte < 128)
name_byte_within byte h =
    elim (or_parts (is_letter byte || (nat_le 48 byte && nat_le byte 57)) (nat_eq byte 95) h) [
      | inl k ↦ elim (or_parts (is_letter byte) (nat_le 48 byte && nat_le byte 57) k) [
        | inl l ↦ letter_within byte l
        | inr l ↦ let parts = and_parts (nat_le 48 byte) (nat_le byte 57) l in
            let low = leb-true 48 byte parts.0 in
            let high = leb-true byte 57 parts.1 in
            (omega arith, omega arith)
      ]
      | inr k ↦ let is = eqb-true byte 95 k in (omega arith, omega arith)
    ]

name_bytes_within : (bytes : List ℕ) → list_all is_name_byte bytes ≡ true → AreWithin 35 128 bytes
name_bytes_within [] h = tt
name_bytes_within (byte ∷ bytes) h =
    let parts = and_parts (is_name_byte byte) (list_all is_name_byte bytes) h in
    let here = name_byte_within byte parts.0 in
    (here.0, here.1, name_bytes_within bytes parts.1)

bare_name : (name : List ℕ) → is_name name ≡ true → IsBare name
bare_name [] h = absurd (both_ways false refl h)
bare_name (byte ∷ bytes) h =
    let parts = and_parts (is_letter byte) (list_all is_name_byte bytes && nat_le (length bytes) 15) h in
    let later = and_parts (list_all is_name_byte bytes) (nat_le (length bytes) 15) parts.1 in
    let here = letter_within byte parts.0 in
    record { within = (here.0, here.1, name_bytes_within bytes later.0); some = omega arith }

-- as the table of calls says, row by row
apt_spelled : (c : Call) → are_apt (name_of c) 0 (program_arguments c) ≡ true
apt_spelled (call.Sigaction signo Usual) = refl
apt_spelled (call.Sigaction signo Ignore) = refl
apt_spelled (call.Sigaction signo (Catch point mask)) = refl
apt_spelled (call.Jump point Always) = refl
apt_spelled (call.Jump point (IfRet ret)) = refl
apt_spelled _ = refl

-- a slot or a label stays too
slot_stays : (own_role : Role) (word : List ℕ) → IsLow 58 word → is_apt own_role (Argument.Number (pos 0)) ≡ true → plain_word own_role word ≡ word
slot_stays role.Other word low apt = refl
slot_stays role.Signal word low apt = low_signal word low
slot_stays role.Bytes word low apt = absurd (both_ways false refl apt)
slot_stays role.Set word low apt = absurd (both_ways false refl apt)

label_stays : (own_role : Role) (word : List ℕ) → is_apt own_role (Argument.Point 0) ≡ true → plain_word own_role word ≡ word
label_stays role.Other word apt = refl
label_stays role.Signal word apt = absurd (both_ways false refl apt)
label_stays role.Bytes word apt = absurd (both_ways false refl apt)
label_stays role.Set word apt = absurd (both_ways false refl apt)

spelled_stays : (own_role : Role) (spelling : Spelling) (argument : Argument) → IsSpelled spelling argument → is_apt own_role argument ≡ true → FitsArgument argument →
    plain_word own_role (spelled_word spelling argument) ≡ spelled_word spelling argument
spelled_stays own_role Plain argument is apt fits = word_stays own_role argument apt fits
spelled_stays own_role (Slot slot) argument is apt fits =
    let apt' : is_apt own_role (Argument.Number (pos 0)) ≡ true = rw is.1 at apt in
    slot_stays own_role (36 ∷ decimal slot) (record { byte = 36; bytes = decimal slot; parts = refl; below = omega arith }) apt'
spelled_stays own_role (Label name) argument is apt fits =
    let apt' : is_apt own_role (Argument.Point 0) ≡ true = rw is.1 at apt in
    label_stays own_role (64 ∷ name.bytes.items) apt'

spelled_bare : (spelling : Spelling) (argument : Argument) → IsSpelled spelling argument → FitsArgument argument → has_bare argument ≡ true → IsBare (spelled_word spelling argument)
spelled_bare Plain argument is fits holds = bare_argument argument fits holds
spelled_bare (Slot slot) argument is fits holds =
    let small : slot < 8 = is.0 in
    let digits = bare_decimal slot (omega arith) in
    record { within = (omega arith, omega arith, digits.within); some = omega arith }
spelled_bare (Label name) argument is fits holds =
    let named = bare_name name.bytes.items is.0 in
    record { within = (omega arith, omega arith, named.within); some = omega arith }

-- so are all that a program spells
all_stay_spelled : (name : List ℕ) (place : ℕ) (spellings : List Spelling) (arguments : List Argument) → AreSpelled spellings arguments → are_apt name place arguments ≡ true → AllFit arguments →
    plain_arguments name place (spelled_words spellings arguments) ≡ spelled_words spellings arguments
all_stay_spelled name place [] [] are apt fit = refl
all_stay_spelled name place [] (argument ∷ arguments) are apt fit = refl
all_stay_spelled name place (spelling ∷ spellings) [] are apt fit = refl
all_stay_spelled name place (spelling ∷ spellings) (argument ∷ arguments) are apt fit =
    let parts = and_parts (is_apt (role_of name place) argument) (are_apt name (place + 1) arguments) apt in
    ap (λ (word : List ℕ). word ∷ plain_arguments name (place + 1) (spelled_words spellings arguments)) (spelled_stays (role_of name place) spelling argument are.0 parts.0 fit.0)
    ∙ ap (λ (words : List (List ℕ)). spelled_word spelling argument ∷ words) (all_stay_spelled name (place + 1) spellings arguments are.1 parts.1 fit.1)

all_bare_spelled : (spellings : List Spelling) (arguments : List Argument) → AreSpelled spellings arguments → AllFit arguments → list_all has_bare arguments ≡ true → AllBare (spelled_words spellings arguments)
all_bare_spelled [] [] are fit holds = tt
all_bare_spelled [] (argument ∷ arguments) are fit holds = tt
all_bare_spelled (spelling ∷ spellings) [] are fit holds = tt
all_bare_spelled (spelling ∷ spellings) (argument ∷ arguments) are fit holds =
    let parts = and_parts (has_bare argument) (list_all has_bare arguments) holds in
    (spelled_bare spelling argument are.0 fit.0 parts.0, all_bare_spelled spellings arguments are.1 fit.1 parts.1)

fit_spelled : (arguments : List Argument) → AllFit arguments → AllFit (filter is_spelled arguments)
fit_spelled [] fit = tt
fit_spelled (Argument.Chosen limit number ∷ arguments) fit = fit_spelled arguments fit.1
fit_spelled (argument ∷ arguments) fit = (fit.0, fit_spelled arguments fit.1)

bare_kept : (arguments : List Argument) → list_all has_bare arguments ≡ true → list_all has_bare (filter is_spelled arguments) ≡ true
bare_kept [] holds = refl
bare_kept (Argument.Chosen limit number ∷ arguments) holds = bare_kept arguments (and_parts (nat_le limit (2 ^ 16)) (list_all has_bare arguments) holds).1
bare_kept (argument ∷ arguments) holds =
    let parts = and_parts (has_bare argument) (list_all has_bare arguments) holds in
    rw parts.0 (bare_kept arguments parts.1)

line_stays : (l : Line) → IsLineOf Two l → StaysIn Program (line_text l)
line_stays (line.Label name) is =
    record {
      first = codes "label";
      others = name.bytes.items ∷ [];
      spelled = ap (λ (t : List ℕ). label_front ++ t) (sym (append-nil name.bytes.items));
      first_bare = bare (codes "label") refl;
      others_bare = (bare_name name.bytes.items is, tt);
      stay = refl;
      unnamed = refl;
    }
line_stays (line.Instruction instruction) is =
    let c = instruction.call in
    let words = spelled_words instruction.spellings.items (program_arguments c) in
    let fit = fit_spelled (arguments_of c) is.fits in
    record {
      first = name_of c;
      others = words;
      spelled = joined_spaced (name_of c) words;
      first_bare = bare (name_of c) (bare_named c);
      others_bare = all_bare_spelled instruction.spellings.items (program_arguments c) is.spelled fit (bare_kept (arguments_of c) (bare_words c));
      stay = all_stay_spelled (name_of c) 0 instruction.spellings.items (program_arguments c) is.spelled (apt_spelled c) fit;
      unnamed = refl;
    }

pub program_stays : ProgramStays
program_stays count lines small fit =
    let P : List ℕ → Type 0 = λ t. Means (third_header Program count ++ 10 ∷ t) (header_text Program (second count) ++ 10 ∷ t) in
    subst P (sym (lines_mapped line_text lines))
    (text_means Program count (map line_text lines) small (all_stay Program line_text (IsLineOf Two) line_stays lines fit))
