-- The meant lines of a text, one after another, and the own lines that mean them.
use Rattle.std.proofs.Common.{◌≡◌, ◌≢◌, ◌∙◌, ◌⊎◌, ℕ, suc, ◌+◌, Bool, true, false, List, [], ◌∷◌, ◌++◌, codes, get_or, length, is_some, nat_lt, slice_index_or, take, ◌-◌, ◌<◌, Option, Some, None, if◌then◌else◌, inl, inr, refl, ap, sym, subst, arith}
use Rattle.std.proofs.lemmas.Bool.{both_ways}
use Rattle.std.proofs.lemmas.Bool.Decides.{eqb_tells}
use Rattle.std.proofs.lemmas.Slice.Eq.{bytes_eq-Decides}
use Rattle.std.specs.Str.{bytes_eq}
use Rattle.tx_lines.specs.Schedule.{after_line, first_line}
use Rattle.tx_lines.specs.declared.read.header.TextKind.TheVariants.{Schedule, Program}
use Rattle.tx_translate.specs.Lines.{line_of_words, plain_line, plain_of_words, plain_others, short_or, spaced, stage_after}
use Rattle.tx_translate.specs.MeantLines.{MeanFrom}
use Rattle.tx_translate.specs.Names.{names_process}
use Rattle.tx_translate.specs.OwnLines.{own_lines}
use Rattle.tx_translate.specs.Plain.{bare, ended, line_in, numbered, numbers_from, plain_from}
use Rattle.tx_translate.specs.Words.{next_from, rest_from, words_in}
use Rattle.tx_translate.specs.declared.reading.Reading.TheVariants.{Between}
use Rattle.tx_translate.specs.declared.stage.Stage.{Stage}
use Rattle.tx_translate.specs.declared.stage.Stage.TheVariants.{Heading, Within}
use Rattle.tx_translate.proofs.NoEnds.{first_none, line_none, HasNoEnd}
use Rattle.tx_translate.proofs.Tests.{two_ways}
use Rattle.tx_translate.proofs.WordParts.{first_found, first_words}

-- a line before others is the first
first_ended : (line rest : List ℕ) → HasNoEnd line → first_line (line ++ 10 ∷ rest) ≡ line
first_ended [] rest none = refl
first_ended (byte ∷ bytes) rest none =
    elim (eqb_tells byte 10) [
      | inl h ↦ absurd (none.0 h.1)
      | inr h ↦ rw h.0 (ap (λ (t : List ℕ). byte ∷ t) (first_ended bytes rest none.1))
    ]

after_ended : (line rest : List ℕ) → HasNoEnd line → after_line (line ++ 10 ∷ rest) ≡ Some rest
after_ended [] rest none = refl
after_ended (byte ∷ bytes) rest none =
    elim (eqb_tells byte 10) [
      | inl h ↦ absurd (none.0 h.1)
      | inr h ↦ rw h.0 (after_ended bytes rest none.1)
    ]

end_then : (line rest : List ℕ) → (line ++ 10 ∷ []) ++ rest ≡ line ++ 10 ∷ rest
end_then [] rest = refl
end_then (byte ∷ bytes) rest = ap (λ (t : List ℕ). byte ∷ t) (end_then bytes rest)

-- a text begins with a line, and others follow
pub record IsThen (text line rest : List ℕ) : Type 0 where
  pub first : line ≡ first_line text
  pub after : after_line text ≡ Some rest

ended_then : (found : Option (List ℕ)) (rest : List ℕ) → is_some found ≡ true → HasNoEnd (bare found) → IsThen (ended found ++ rest) (bare found) rest
ended_then None rest some none = absurd (both_ways false refl some)
ended_then (Some line) rest some none = record {
  first = sym (ap first_line (end_then line rest) ∙ first_ended line rest none);
  after = ap after_line (end_then line rest) ∙ after_ended line rest none;
}

-- a short line means one where its words do
either_some : (over : Bool) (line plain : List ℕ) → is_some (if over then Some line else Some plain) ≡ true
either_some true line plain = refl
either_some false line plain = refl

short_some : (line : List ℕ) (plain : Option (List ℕ)) → is_some (short_or line plain) ≡ is_some plain
short_some line None = refl
short_some line (Some plain) = either_some (nat_lt 512 (length plain)) line plain

pub means_some : (stage : Stage) (line : List ℕ) → nat_lt 512 (length line) ≡ false → is_some (plain_line stage line) ≡ is_some (plain_of_words stage (words_in line))
means_some stage line short = rw short (short_some line (plain_of_words stage (words_in line)))

-- so does one whose next word begins with another byte than `name` does
not_named : (named : Bool) (plain : List ℕ) → named ≡ false → is_some (if named then None else Some plain) ≡ true
not_named true plain other = absurd (both_ways true other refl)
not_named false plain other = refl

names_first : (stage : Stage) (first : List ℕ) (others : List (List ℕ)) → names_process stage first others ≡ true → first ≡ codes "name"
names_first Heading first others names = absurd (both_ways false refl names)
names_first (Within Program) first others names = absurd (both_ways false refl names)
names_first (Within Schedule) first others names =
    elim (two_ways (bytes_eq first (codes "name"))) [
      | inl h ↦ (bytes_eq-Decides first (codes "name")).0 h
      | inr h ↦ let none : false ≡ true = rw h at names in absurd (both_ways false refl none)
    ]

pub other_means : (stage : Stage) (line : List ℕ) (byte : ℕ) (bytes : List ℕ) → next_from line ≡ byte ∷ bytes → byte ≢ 110 → is_some (plain_of_words stage (words_in line)) ≡ true
other_means stage line byte bytes next other =
    let left : List ℕ = next_from line in
    let some : 0 < length left = omega (arith, ap length next) in
    let word : List ℕ = take (length left - length (rest_from Between left)) left in
    let others = words_in (rest_from Between left) in
    let are : words_in line ≡ word ∷ others = first_words line left (rest_from Between left) refl refl some in
    ap (λ (ws : List (List ℕ)). is_some (plain_of_words stage ws)) are
    ∙ elim (two_ways (names_process stage word others)) [
      | inl names ↦ let found = first_found line word others are in
          let begins : byte ∷ bytes ≡ codes "name" ++ found.0 = sym next ∙ found.1 ∙ ap (λ (w : List ℕ). w ++ found.0) (names_first stage word others names) in
          absurd (other (ap (λ (t : List ℕ). get_or t 0 0) begins))
      | inr unnamed ↦ not_named (names_process stage word others) (line_of_words stage word others) unnamed
    ]

-- the next line that a person wrote means one
pub third_next : (stage : Stage) (left line : List ℕ) (lines : List (List ℕ)) → own_lines left ≡ line ∷ lines → is_some (plain_line stage line) ≡ true →
    IsThen (plain_from stage (own_lines left)) (bare (plain_line stage line)) (plain_from (stage_after stage (words_in line)) lines)
third_next stage left line lines are some =
    let none = line_none stage line (first_none left line lines are) in
    subst (λ (ls : List (List ℕ)). IsThen (plain_from stage ls) (bare (plain_line stage line)) (plain_from (stage_after stage (words_in line)) lines)) (sym are)
    (ended_then (plain_line stage line) (plain_from (stage_after stage (words_in line)) lines) some none)

numbers_next : (stage : Stage) (own : ℕ) (line : List ℕ) (found : Option (List ℕ)) (numbers : List ℕ) → is_some found ≡ true → numbered own found numbers ≡ own ∷ numbers
numbers_next stage own line None numbers some = absurd (both_ways false refl some)
numbers_next stage own line (Some plain) numbers some = refl

-- its number, and those of the lines after it
pub own_next : (text : List ℕ) (number : ℕ) (stage : Stage) (own : ℕ) (line : List ℕ) (lines : List (List ℕ)) → MeanFrom text number stage own (line ∷ lines) → is_some (plain_line stage line) ≡ true →
    (line_in text number ≡ own) × MeanFrom text (number + 1) (stage_after stage (words_in line)) (own + 1) lines
own_next text number stage own line lines mean some =
    let later : List ℕ = numbers_from (stage_after stage (words_in line)) (own + 1) lines in
    let next : numbers_from stage own (line ∷ lines) ≡ own ∷ later = numbers_next stage own line (plain_line stage line) later some in (
      ap (line_in text) (omega arith) ∙ mean 0 ∙ ap (λ (ns : List ℕ). slice_index_or ns 0 (own + length (line ∷ lines))) next,
      λ k.
          let here : number + 1 + k ≡ number + suc k = omega arith in
          let after : own + length (line ∷ lines) ≡ own + 1 + length lines = omega arith in
          ap (line_in text) here ∙ mean (suc k) ∙ ap (λ (ns : List ℕ). slice_index_or ns (suc k) (own + length (line ∷ lines))) next ∙ ap (slice_index_or later k) after,
    )

-- no line is left
pub own_end : (text : List ℕ) (number : ℕ) (stage : Stage) (own : ℕ) → MeanFrom text number stage own [] → (line_in text number ≡ own) × MeanFrom text (number + 1) stage own []
own_end text number stage own mean = (
  ap (line_in text) (omega arith) ∙ mean 0 ∙ omega arith,
  λ k.
      let here : number + 1 + k ≡ number + suc k = omega arith in
      ap (line_in text) here ∙ mean (suc k),
)

-- nothing is left where the first line is empty and has no end
pub nothing_left : (left : List ℕ) → first_line left ≡ [] → is_some (after_line left) ≡ false → left ≡ []
nothing_left [] first after = refl
nothing_left (byte ∷ bytes) first after =
    elim (eqb_tells byte 10) [
      | inl h ↦ let ended : true ≡ false = rw h.0 at after in absurd (both_ways true ended refl)
      | inr h ↦ let some : byte ∷ first_line bytes ≡ [] = rw h.0 at first in absurd (cc)
    ]

-- no byte is a space
abbrev HasNoSpace : List ℕ → Type 0
HasNoSpace [] = Unit {0}
HasNoSpace (byte ∷ bytes) = (byte ≢ 32) × HasNoSpace bytes

-- words one after another begin with a word that the first of them begins with
front_kept : (front first tail rest : List ℕ) (others : List (List ℕ)) → HasNoSpace front → first ++ spaced others ≡ front ++ tail → (following : List ℕ) × (first ++ rest ≡ front ++ following)
front_kept [] first tail rest others none same = (first ++ rest, refl)
front_kept (byte ∷ front) [] tail rest [] none same = absurd (cc)
front_kept (byte ∷ front) [] tail rest (word ∷ others) none same =
    let space : 32 ≡ byte = cc in absurd (none.0 (sym space))
front_kept (byte ∷ front) (first ∷ firsts) tail rest others none same =
    let here : first ≡ byte = cc in
    let following : firsts ++ spaced others ≡ front ++ tail = cc in
    let later = front_kept front firsts tail rest others none.1 following in
    (later.0, ap (λ (t : List ℕ). first ∷ t) later.1 ∙ ap (λ (b : ℕ). b ∷ (front ++ later.0)) here)

-- a word that is first in a line of its own kind
abbrev pub IsOpening : List ℕ → Type 0
IsOpening word = (word ≡ codes "label") ⊎ (word ≡ codes "debug")

label_word : HasNoSpace (codes "label")
label_word = ((λ same. omega (arith, same)), ((λ same. omega (arith, same)), ((λ same. omega (arith, same)), ((λ same. omega (arith, same)), ((λ same. omega (arith, same)), tt)))))

debug_word : HasNoSpace (codes "debug")
debug_word = ((λ same. omega (arith, same)), ((λ same. omega (arith, same)), ((λ same. omega (arith, same)), ((λ same. omega (arith, same)), ((λ same. omega (arith, same)), tt)))))

opens_bare : (word : List ℕ) → IsOpening word → HasNoSpace word
opens_bare word (inl is) = subst HasNoSpace (sym is) label_word
opens_bare word (inr is) = subst HasNoSpace (sym is) debug_word

opens_first : (word rest : List ℕ) → IsOpening word → next_from (word ++ rest) ≡ word ++ rest
opens_first word rest (inl is) = subst (λ (w : List ℕ). next_from (w ++ rest) ≡ w ++ rest) (sym is) refl
opens_first word rest (inr is) = subst (λ (w : List ℕ). next_from (w ++ rest) ≡ w ++ rest) (sym is) refl

-- a line whose meaning begins with such a word begins with it
abbrev pub BeginsSo : List ℕ → List ℕ → Type 0
BeginsSo word line = (rest : List ℕ) × (next_from line ≡ word ++ rest)

same_begins : (word line tail : List ℕ) → IsOpening word → line ≡ word ++ tail → BeginsSo word line
same_begins word line tail opens same = (tail, ap next_from same ∙ opens_first word tail opens)

either_begins : (over : Bool) (word line plain tail : List ℕ) → IsOpening word → bare (if over then Some line else Some plain) ≡ word ++ tail → (plain ≡ word ++ tail → BeginsSo word line) → BeginsSo word line
either_begins true word line plain tail opens same begins = same_begins word line tail opens same
either_begins false word line plain tail opens same begins = begins same

no_words : (word tail : List ℕ) → IsOpening word → [] ≡ word ++ tail → ⊥
no_words word tail (inl is) same =
    let bad : [] ≡ codes "label" ++ tail = same ∙ ap (λ (w : List ℕ). w ++ tail) is in absurd (cc)
no_words word tail (inr is) same =
    let bad : [] ≡ codes "debug" ++ tail = same ∙ ap (λ (w : List ℕ). w ++ tail) is in absurd (cc)

named_begins : (names : Bool) (word line tail : List ℕ) (plain : Option (List ℕ)) → IsOpening word → bare (short_or line (if names then None else plain)) ≡ word ++ tail →
    (bare (short_or line plain) ≡ word ++ tail → BeginsSo word line) → BeginsSo word line
named_begins true word line tail plain opens same begins = absurd (no_words word tail opens same)
named_begins false word line tail plain opens same begins = begins same

words_begin : (stage : Stage) (word line tail : List ℕ) (words : List (List ℕ)) → IsOpening word → words_in line ≡ words → bare (short_or line (plain_of_words stage words)) ≡ word ++ tail → BeginsSo word line
words_begin stage word line tail [] opens are same = absurd (no_words word tail opens same)
words_begin stage word line tail (first ∷ others) opens are same =
    let plain = first ++ spaced (plain_others stage first others) in
    named_begins (names_process stage first others) word line tail (Some plain) opens same (λ short.
    either_begins (nat_lt 512 (length plain)) word line plain tail opens short (λ spelled.
    let found = first_found line first others are in
    let kept = front_kept word first tail found.0 (plain_others stage first others) (opens_bare word opens) spelled in
    (kept.0, found.1 ∙ kept.1)))

long_begins : (over : Bool) (word line tail : List ℕ) (short : Option (List ℕ)) → IsOpening word → bare (if over then Some line else short) ≡ word ++ tail → (bare short ≡ word ++ tail → BeginsSo word line) → BeginsSo word line
long_begins true word line tail short opens same begins = same_begins word line tail opens same
long_begins false word line tail short opens same begins = begins same

pub meaning_begins : (stage : Stage) (word line tail : List ℕ) → IsOpening word → bare (plain_line stage line) ≡ word ++ tail → BeginsSo word line
meaning_begins stage word line tail opens same =
    long_begins (nat_lt 512 (length line)) word line tail (short_or line (plain_of_words stage (words_in line))) opens same
    (words_begin stage word line tail (words_in line) opens refl)
