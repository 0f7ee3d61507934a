-- The words of a call of a program: none has a space or a mark, and the first is no label's.
use Rattle.std.proofs.Common.{◌≡◌, ℕ, ◌≤◌, Bool, true, false, List, [], ◌∷◌, codes, length, refl, ap, arith}
use Rattle.std.proofs.lemmas.Bool.{both_ways}
use Rattle.std.specs.List.{filter, list_all}
use Rattle.std.specs.Str.{bytes_eq}
use Rattle.tx_base.specs.declared.signals.Action.TheVariants.{Usual, Ignore, Catch}
use Rattle.tx_base.specs.declared.signals.How.TheVariants.{Block, Unblock, Set}
use Rattle.tx_base.specs.declared.steps.Call.{Call}
use Rattle.tx_base.specs.declared.steps.Call.TheVariants as call
use Rattle.tx_base.specs.declared.steps.When.TheVariants.{Always, IfRet}
use Rattle.tx_lines.specs.Arguments.{is_spelled, word_of, AllFit, Argument, Number, Point, Chosen, Word, Bytes, Signals, FitsArgument}
use Rattle.tx_lines.specs.Calls.{arguments_of, name_of, program_arguments, FitsCall}
use Rattle.tx_lines.proofs.PlainWords.{and_parts, is_free, is_plain, plain, plain_decimal, plain_hex, plain_set, plain_signed, IsPlain}

-- each of these is seen in the table of calls, row by row
plain_named : (c : Call) → is_plain (name_of c) ≡ true
unfolding is_plain is_free
plain_named (call.Map page) = refl
plain_named _ = refl

pub plain_name : (c : Call) → IsPlain (name_of c)
plain_name c = plain (name_of c) (plain_named c)

named_label : (c : Call) → bytes_eq (name_of c) (codes "label") ≡ false
named_label (call.Map page) = refl
named_label _ = refl

-- no call has the name of a label's line
pub other_name : (c : Call) → name_of c ≡ codes "label" → ⊥
other_name c e =
    both_ways (bytes_eq (name_of c) (codes "label")) (named_label c) (ap (λ (name : List ℕ). bytes_eq name (codes "label")) e)

pub few_arguments : (c : Call) → length (program_arguments c) ≤ 4
few_arguments (call.Sigaction signo Usual) = omega arith
few_arguments (call.Sigaction signo Ignore) = omega arith
few_arguments (call.Sigaction signo (Catch point mask)) = omega arith
few_arguments (call.Jump point Always) = omega arith
few_arguments (call.Jump point (IfRet ret)) = omega arith
few_arguments _ = omega arith

-- whether a program spells an argument, and if by a word of the table by a plain one
has_plain_word : Argument → Bool
has_plain_word (Word word) = is_plain word
has_plain_word argument = is_spelled argument

plain_words : (c : Call) → list_all has_plain_word (program_arguments c) ≡ true
unfolding has_plain_word is_plain is_free
plain_words (call.Protect page false) = refl
plain_words (call.Protect page true) = refl
plain_words (call.Waitpid target false) = refl
plain_words (call.Waitpid target true) = refl
plain_words (call.SetNonblock fd false) = refl
plain_words (call.SetNonblock fd true) = refl
plain_words (call.Sigaction signo Usual) = refl
plain_words (call.Sigaction signo Ignore) = refl
plain_words (call.Sigaction signo (Catch point mask)) = refl
plain_words (call.Sigprocmask Block set) = refl
plain_words (call.Sigprocmask Unblock set) = refl
plain_words (call.Sigprocmask Set set) = refl
plain_words (call.Jump point Always) = refl
plain_words (call.Jump point (IfRet ret)) = refl
plain_words _ = refl

-- an argument that a program spells, and a text can hold
pub record IsGood (argument : Argument) : Type 0 where
  pub plain : IsPlain (word_of argument)
  pub fits : FitsArgument argument

unfoldable pub AreGood : List Argument → Type 0
AreGood [] = Unit {0}
AreGood (argument ∷ arguments) = IsGood argument × AreGood arguments

plain_word_of : (argument : Argument) → FitsArgument argument → has_plain_word argument ≡ true → IsPlain (word_of argument)
unfolding has_plain_word
plain_word_of (Number number) fits holds = plain_signed number fits
plain_word_of (Point point) fits holds = plain_decimal point (omega (arith, fits))
plain_word_of (Chosen limit number) fits holds = absurd (both_ways false refl holds)
plain_word_of (Word word) fits holds = plain word holds
plain_word_of (Bytes bytes) fits holds = plain_hex bytes
plain_word_of (Signals set) fits holds = plain_set set

all_good : (arguments : List Argument) → AllFit arguments → list_all has_plain_word (filter is_spelled arguments) ≡ true → AreGood (filter is_spelled arguments)
unfolding AreGood
all_good [] fit holds = tt
all_good (Chosen limit number ∷ arguments) fit holds = all_good arguments fit.1 holds
all_good (argument ∷ arguments) fit holds =
    let parts = and_parts (has_plain_word argument) (list_all has_plain_word (filter is_spelled arguments)) holds in
    (record { plain = plain_word_of argument fit.0 parts.0; fits = fit.0 }, all_good arguments fit.1 parts.1)

pub good_arguments : (c : Call) → FitsCall c → AreGood (program_arguments c)
good_arguments c fits = all_good (arguments_of c) fits (plain_words c)
