-- The words of the calls of version 2 are of its alphabet, and mean themselves.
use Rattle.std.proofs.Common.{◌≡◌, ℕ, ◌+◌, ◌<◌, ◌≤◌, ◌^◌, Bool, true, false, ◌&&◌, nat_le, List, [], ◌∷◌, map, refl, ap, ◌∙◌, arith}
use Rattle.std.proofs.lemmas.Bool.{both_ways}
use Rattle.std.proofs.Common.{leb-true}
use Rattle.std.specs.List.{list_all}
use Rattle.tx_base.specs.Signals.{bits_of}
use Rattle.tx_base.specs.declared.signals.Action.TheVariants.{Usual, Ignore, Catch}
use Rattle.tx_base.specs.declared.signals.How.TheVariants as how
use Rattle.tx_base.specs.declared.steps.Call.{Call}
use Rattle.tx_base.specs.declared.steps.Call.TheVariants as call
use Rattle.tx_base.specs.declared.steps.When.TheVariants.{Always, IfRet}
use Rattle.tx_lines.specs.Arguments.{word_of, AllFit, Argument, FitsArgument}
use Rattle.tx_lines.specs.Calls.{arguments_of, name_of, FitsCall}
use Rattle.tx_lines.specs.SetFacts.{members_rise}
use Rattle.tx_lines.specs.Sets.{members}
use Rattle.tx_translate.specs.Lines.{plain_arguments}
use Rattle.tx_translate.specs.Roles.{plain_word, role_of}
use Rattle.tx_translate.specs.declared.roles.Role.{Role}
use Rattle.tx_translate.specs.declared.roles.Role.TheVariants as role
use Rattle.tx_translate.proofs.Bytes.{bare, bare_decimal, bare_hex, bare_list, bare_signed, is_bare, low_signed, AllBare, IsBare}
use Rattle.tx_translate.proofs.StayingBytes.{bytes_stay}
use Rattle.tx_translate.proofs.StayingSets.{set_stays}
use Rattle.tx_translate.proofs.Unnamed.{low_signal}
use Rattle.tx_translate.proofs.Tests.{and_parts}

-- whether an argument is what its role may be spelled as
abbrev pub is_apt : Role → Argument → Bool
is_apt role.Other argument = true
is_apt role.Bytes (Argument.Bytes bytes) = true
is_apt role.Signal (Argument.Number number) = true
is_apt role.Set (Argument.Signals set) = true
is_apt own_role argument = false

abbrev pub are_apt : List ℕ → ℕ → List Argument → Bool
are_apt name place [] = true
are_apt name place (argument ∷ arguments) = is_apt (role_of name place) argument && are_apt name (place + 1) arguments

-- each of these is seen in the table of calls, row by row
pub apt_arguments : (c : Call) → are_apt (name_of c) 0 (arguments_of c) ≡ true
apt_arguments (call.Sigaction signo Usual) = refl
apt_arguments (call.Sigaction signo Ignore) = refl
apt_arguments (call.Sigaction signo (Catch point mask)) = refl
apt_arguments (call.Jump point Always) = refl
apt_arguments (call.Jump point (IfRet ret)) = refl
apt_arguments _ = refl

-- whether the word of an argument is of the alphabet, where it fits
abbrev pub has_bare : Argument → Bool
has_bare (Argument.Word word) = is_bare word
has_bare (Argument.Chosen limit number) = nat_le limit (2 ^ 16)
has_bare argument = true

pub bare_named : (c : Call) → is_bare (name_of c) ≡ true
bare_named (call.Map page) = refl
bare_named _ = refl

pub bare_words : (c : Call) → list_all has_bare (arguments_of c) ≡ true
bare_words (call.Protect page false) = refl
bare_words (call.Protect page true) = refl
bare_words (call.Waitpid target false) = refl
bare_words (call.Waitpid target true) = refl
bare_words (call.SetNonblock fd false) = refl
bare_words (call.SetNonblock fd true) = refl
bare_words (call.Sigaction signo Usual) = refl
bare_words (call.Sigaction signo Ignore) = refl
bare_words (call.Sigaction signo (Catch point mask)) = refl
bare_words (call.Sigprocmask how.Block set) = refl
bare_words (call.Sigprocmask how.Unblock set) = refl
bare_words (call.Sigprocmask how.Set set) = refl
bare_words (call.Jump point Always) = refl
bare_words (call.Jump point (IfRet ret)) = refl
bare_words _ = refl

-- an argument that fits, and its word
pub bare_argument : (argument : Argument) → FitsArgument argument → has_bare argument ≡ true → IsBare (word_of argument)
bare_argument (Argument.Number number) fits holds = bare_signed number fits
bare_argument (Argument.Point point) fits holds = bare_decimal point (omega (arith, fits))
bare_argument (Argument.Chosen limit number) fits holds =
    let most : limit ≤ 2 ^ 16 = leb-true limit (2 ^ 16) holds in
    let less : number < limit = fits in
    bare_decimal number (omega arith)
bare_argument (Argument.Word word) fits holds = bare word holds
bare_argument (Argument.Bytes bytes) fits holds = bare_hex bytes fits.0 fits.1
bare_argument (Argument.Signals set) fits holds = bare_list (members (bits_of set)) (members_rise (bits_of set))

pub word_stays : (own_role : Role) (argument : Argument) → is_apt own_role argument ≡ true → FitsArgument argument → plain_word own_role (word_of argument) ≡ word_of argument
word_stays role.Other argument apt fits = refl
word_stays role.Bytes (Argument.Bytes bytes) apt fits = bytes_stay bytes fits.0 fits.1 fits.2
word_stays role.Signal (Argument.Number number) apt fits = low_signal (word_of (Argument.Number number)) (low_signed number fits)
word_stays role.Set (Argument.Signals set) apt fits = set_stays set fits
word_stays own_role argument apt fits = absurd (both_ways false refl apt)

-- so are all arguments of a call
bare_all : (arguments : List Argument) → AllFit arguments → list_all has_bare arguments ≡ true → AllBare (map word_of arguments)
bare_all [] fit holds = tt
bare_all (argument ∷ arguments) fit holds =
    let parts = and_parts (has_bare argument) (list_all has_bare arguments) holds in
    (bare_argument argument fit.0 parts.0, bare_all arguments fit.1 parts.1)

words_stay : (name : List ℕ) (place : ℕ) (arguments : List Argument) → are_apt name place arguments ≡ true → AllFit arguments →
    plain_arguments name place (map word_of arguments) ≡ map word_of arguments
words_stay name place [] apt fit = refl
words_stay name place (argument ∷ arguments) apt fit =
    let parts = and_parts (is_apt (role_of name place) argument) (are_apt name (place + 1) arguments) apt in
    ap (λ (word : List ℕ). word ∷ plain_arguments name (place + 1) (map word_of arguments)) (word_stays (role_of name place) argument parts.0 fit.0)
    ∙ ap (λ (words : List (List ℕ)). word_of argument ∷ words) (words_stay name (place + 1) arguments parts.1 fit.1)

pub call_bare : (c : Call) → FitsCall c → IsBare (name_of c) × AllBare (map word_of (arguments_of c))
call_bare c fits = (bare (name_of c) (bare_named c), bare_all (arguments_of c) fits (bare_words c))

pub call_stays : (c : Call) → FitsCall c → plain_arguments (name_of c) 0 (map word_of (arguments_of c)) ≡ map word_of (arguments_of c)
call_stays c fits = words_stay (name_of c) 0 (arguments_of c) (apt_arguments c) fits
