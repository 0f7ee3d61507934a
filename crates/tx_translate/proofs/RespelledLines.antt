-- Lines of a schedule that are spelled nearly as in version 2 mean the steps that are read of them.
use Rattle.std.proofs.Common.{◌≡◌, ℕ, ◌+◌, ◌<◌, ◌≤◌, Bool, true, false, nat_eq, nat_lt, List, [], ◌∷◌, ◌++◌, codes, length, length-append, option_map, take, drop, Option, Some, None, IfSome, pos, refl, ap, sym, ◌∙◌, arith, inl, inr, append_assoc, subst}
use Rattle.std.proofs.lemmas.Bool.{eqb-true}
use Rattle.std.proofs.lemmas.Bool.Decides.{nat_tests}
use Rattle.std.proofs.lemmas.Fmt.{length-decimal-le}
use Rattle.std.proofs.lemmas.List.{append-nil, take-append-drop}
use Rattle.std.specs.Bool.{then_some}
use Rattle.std.specs.Fmt.{decimal, signed_decimal}
use Rattle.std.specs.Str.{bytes_eq}
use Rattle.hex.proofs.HexLemmas.{length-encode_with}
use Rattle.hex.specs.Hex.{encode_lower, lower_digits}
use Rattle.tx_base.specs.declared.steps.Call.TheVariants as call
use Rattle.tx_base.specs.declared.steps.Step.TheVariants as steps
use Rattle.tx_base.specs.declared.steps.Step.{Step}
use Rattle.tx_lines.specs.Lines.{step_text, FitsStep}
use Rattle.tx_lines.specs.NumberFacts.{pos_fits}
use Rattle.tx_lines.specs.Schedule.{FitsStepOf}
use Rattle.tx_lines.specs.declared.read.header.TextKind.TheVariants.{Schedule}
use Rattle.tx_lines.specs.declared.read.header.Version.{Version}
use Rattle.tx_translate.specs.Lines.{plain_line, plain_of_words, plain_others, short_or, spaced}
use Rattle.tx_translate.specs.Respelled.{spaced_byte, squeezed, IsRespelled}
use Rattle.tx_translate.specs.SignalNames.{number_or}
use Rattle.tx_translate.specs.Words.{after_blank, after_word_byte, is_blank, next_from, word_from, words_from, words_in}
use Rattle.tx_translate.specs.declared.reading.Reading.{Reading}
use Rattle.tx_translate.specs.declared.reading.Reading.TheVariants.{Between, InWord}
use Rattle.tx_translate.specs.declared.stage.Stage.TheVariants.{Within}
use Rattle.tx_translate.proofs.BareLines.{words_before}
use Rattle.tx_translate.proofs.Bytes.{bare, AllBare, AreWithin, IsBare}
use Rattle.tx_translate.proofs.NamingWords.{decimal_unnamed, other_unnamed, unnamed_means}
use Rattle.tx_translate.proofs.StayingLines.{words_mean}
use Rattle.tx_translate.proofs.StayingSteps.{step_stays}
use Rattle.tx_translate.proofs.Tests.{two_ways}
use Rattle.tx_translate.proofs.WordParts.{comment_words}

-- what the words of a short line mean, where that is short too
short_means : (line plain : List ℕ) → plain_of_words (Within Schedule) (words_in line) ≡ Some plain → length line ≤ 512 → length plain ≤ 512 → plain_line (Within Schedule) line ≡ Some plain
short_means line plain means short short_plain =
    let line_fits : nat_lt 512 (length line) ≡ false = grind (arith, nat_tests, short) in
    let plain_fits : nat_lt 512 (length plain) ≡ false = grind (arith, nat_tests, short_plain) in
    rw line_fits (ap (short_or line) means ∙ rw plain_fits refl)

-- the last space of a line splits it in one way
has_space : (front rest : List ℕ) → AreWithin 35 128 (front ++ 32 ∷ rest) → ⊥
has_space [] rest are = omega (arith, are.0)
has_space (byte ∷ front) rest are = has_space front rest are.2

record IsParted (front other last word : List ℕ) : Type 0 where
  pub front_same : front ≡ other
  pub last_same : last ≡ word

last_space : (front last other word : List ℕ) → AreWithin 35 128 last → AreWithin 35 128 word → front ++ 32 ∷ last ≡ other ++ 32 ∷ word → IsParted front other last word
last_space [] last [] word is are e = record { front_same = refl; last_same = cc }
last_space [] last (byte ∷ other) word is are e =
    let tail : last ≡ other ++ 32 ∷ word = cc in absurd (has_space other word (subst (AreWithin 35 128) tail is))
last_space (byte ∷ front) last [] word is are e =
    let tail : word ≡ front ++ 32 ∷ last = cc in absurd (has_space front last (subst (AreWithin 35 128) tail are))
last_space (byte ∷ front) last (next ∷ other) word is are e =
    let head : byte ≡ next = cc in
    let tail : front ++ 32 ∷ last ≡ other ++ 32 ∷ word = cc in
    let parted = last_space front last other word is are tail in
    record { front_same = ap (λ (b : ℕ). b ∷ front) head ∙ ap (λ (t : List ℕ). next ∷ t) parted.front_same; last_same = parted.last_same }

spaced_last : (words : List (List ℕ)) (last : List ℕ) → spaced (words ++ last ∷ []) ≡ spaced words ++ 32 ∷ last
spaced_last [] last = ap (λ (t : List ℕ). 32 ∷ t) (append-nil last)
spaced_last (word ∷ words) last = ap (λ (t : List ℕ). 32 ∷ word ++ t) (spaced_last words last) ∙ ap (λ (t : List ℕ). 32 ∷ t) (sym (append_assoc word (spaced words) (32 ∷ last)))

line_last : (first : List ℕ) (words : List (List ℕ)) (last : List ℕ) → first ++ spaced (words ++ last ∷ []) ≡ (first ++ spaced words) ++ 32 ∷ last
line_last first words last = ap (λ (t : List ℕ). first ++ t) (spaced_last words last) ∙ sym (append_assoc first (spaced words) (32 ∷ last))

-- a line is a front, which ends with a space, and a last word
pub record EndsWithWord (line front word : List ℕ) : Type 0 where
  pub last : List ℕ
  pub words : List ℕ
  pub parts : line ≡ front ++ last
  pub space : front ≡ words ++ 32 ∷ []
  pub one : words_in last ≡ word ∷ []
  pub short : length line ≤ 512
  pub short_front : length front ≤ 384

pub ends_with_word : (line front last word rest : List ℕ) (at : ℕ) → front ≡ take at line → last ≡ drop at line → (words : List ℕ) × (front ≡ words ++ 32 ∷ []) →
    words_in last ≡ word ∷ words_in rest → rest ≡ [] → length line ≤ 512 → length front ≤ 384 → EndsWithWord line front word
ends_with_word line front last word rest at is_front is_last space one none short short_front =
    record {
      last = last;
      words = space.0;
      parts = sym (take-append-drop at line) ∙ ap (λ (t : List ℕ). t ++ drop at line) (sym is_front) ∙ ap (λ (t : List ℕ). front ++ t) (sym is_last);
      space = space.1;
      one = one ∙ ap (λ (t : List ℕ). word ∷ words_in t) none;
      short = short;
      short_front = short_front;
    }

-- what holds of a step that is read
pub holds_of : (found : Bool) (step : Step) (Is Also Then : Step → Type 0) → IfSome (then_some found step) Is → IfSome (then_some found step) Also → (Is step → Also step → Then step) →
    IfSome (then_some found step) Then
holds_of true step Is Also Then is also to = to is also
holds_of false step Is Also Then is also to = tt

-- with another last word its front is the front of a line that stays itself
respelled_line : (line front word first last plain : List ℕ) (words : List (List ℕ)) → EndsWithWord line front word → IsBare first → AllBare words → AreWithin 35 128 last → bytes_eq first (codes "name") ≡ false →
    front ++ codes "10" ≡ first ++ spaced (words ++ last ∷ []) → plain_others (Within Schedule) first (words ++ word ∷ []) ≡ words ++ plain ∷ [] → length plain ≤ 128 →
    plain_line (Within Schedule) line ≡ Some (first ++ spaced (words ++ plain ∷ []))
respelled_line line front word first last plain words ends first_bare words_bare within other same means few =
    let before : ends.words ++ 32 ∷ codes "10" ≡ (first ++ spaced words) ++ 32 ∷ last =
    sym (append_assoc ends.words (32 ∷ []) (codes "10")) ∙ ap (λ (t : List ℕ). t ++ codes "10") (sym ends.space) ∙ same ∙ line_last first words last in
    let parted = last_space ends.words (codes "10") (first ++ spaced words) last ((bare (codes "10") refl).within) within before in
    let spelled : line ≡ first ++ (spaced words ++ 32 ∷ ends.last) =
    ends.parts ∙ ap (λ (t : List ℕ). t ++ ends.last) ends.space ∙ append_assoc ends.words (32 ∷ []) ends.last
    ∙ ap (λ (t : List ℕ). t ++ 32 ∷ ends.last) parted.front_same ∙ append_assoc first (spaced words) (32 ∷ ends.last) in
    let found : words_in line ≡ first ∷ (words ++ word ∷ []) =
    ap words_in spelled ∙ words_before first words ends.last first_bare words_bare ∙ ap (λ (ws : List (List ℕ)). first ∷ (words ++ ws)) ends.one in
    let size : length (first ++ spaced (words ++ plain ∷ [])) ≡ length ends.words + length {A = ℕ} (32 ∷ plain) =
    ap length (line_last first words plain ∙ ap (λ (t : List ℕ). t ++ 32 ∷ plain) (sym parted.front_same)) ∙ length-append ends.words (32 ∷ plain) in
    let front_size : length front ≡ length ends.words + 1 = ap length ends.space ∙ length-append ends.words (32 ∷ []) in
    short_means line (first ++ spaced (words ++ plain ∷ []))
    (ap (plain_of_words (Within Schedule)) found ∙ unnamed_means (Within Schedule) first (words ++ word ∷ []) (other_unnamed first (words ++ word ∷ []) other)
    ∙ ap (λ (others : List (List ℕ)). Some (first ++ spaced others)) means)
    ends.short (omega (arith, size, front_size, ends.short_front, few))

-- such a line means the step with what its last word means
pub respelled_means : (line front word : List ℕ) (before step : Step) → EndsWithWord line front word → front ++ codes "10" ≡ step_text before → FitsStep before → IsRespelled word before step →
    plain_line (Within Schedule) line ≡ Some (step_text step)
unfolding step_stays
respelled_means line front word (steps.Call pid (call.Store address old)) step ends same fits is =
    let bytes = is.0 in
    let stays = step_stays (steps.Call pid (call.Store address old)) fits in
    let few : length (encode_lower bytes.items) ≤ 128 = omega (arith, length-encode_with lower_digits bytes.items, is.3.2) in
    respelled_line line front word (decimal pid.0) (encode_lower old.items) (encode_lower bytes.items) (codes "store" ∷ signed_decimal address ∷ [])
    ends stays.first_bare (stays.others_bare.0, (stays.others_bare.1.0, tt)) stays.others_bare.1.1.0.within (decimal_unnamed pid.0 (omega (arith, fits.0))) (same ∙ stays.spelled)
    (ap (λ (w : List ℕ). codes "store" ∷ signed_decimal address ∷ w ∷ []) is.2) few
    ∙ ap Some (sym ((step_stays (steps.Call pid (call.Store address bytes)) (fits.0, (fits.1.0, (is.3, tt)))).spelled) ∙ ap step_text (sym is.1))
respelled_means line front word (steps.Call pid (call.Kill target old)) step ends same fits is =
    let signo = is.0 in
    let small : signo < 64 = is.2.1 in
    let stays = step_stays (steps.Call pid (call.Kill target old)) fits in
    let few = length-decimal-le 2 signo (omega arith) (omega arith) (omega arith) in
    respelled_line line front word (decimal pid.0) (signed_decimal old) (decimal signo) (codes "kill" ∷ signed_decimal target ∷ [])
    ends stays.first_bare (stays.others_bare.0, (stays.others_bare.1.0, tt)) stays.others_bare.1.1.0.within (decimal_unnamed pid.0 (omega (arith, fits.0))) (same ∙ stays.spelled)
    (ap (λ (n : Option ℕ). codes "kill" ∷ signed_decimal target ∷ number_or word n ∷ []) is.2.0) (omega (arith, few))
    ∙ ap Some (sym ((step_stays (steps.Call pid (call.Kill target (pos signo))) (fits.0, (fits.1.0, (pos_fits signo (omega arith), tt)))).spelled) ∙ ap step_text (sym is.1))
respelled_means line front word (steps.Deliver pid old) step ends same fits is =
    let signo = is.0 in
    let small : signo.0 < 64 = is.2.1 in
    let stays = step_stays (steps.Deliver pid old) fits in
    let few = length-decimal-le 2 signo.0 (omega arith) (omega arith) (omega arith) in
    respelled_line line front word (decimal pid.0) (decimal old.0) (decimal signo.0) (codes "deliver" ∷ [])
    ends stays.first_bare (stays.others_bare.0, tt) stays.others_bare.1.0.within (decimal_unnamed pid.0 (omega (arith, fits.0))) (same ∙ stays.spelled)
    (ap (λ (n : Option ℕ). codes "deliver" ∷ number_or word n ∷ []) is.2.0) (omega (arith, few))
    ∙ ap Some (sym ((step_stays (steps.Deliver pid signo) (fits.0, omega arith)).spelled) ∙ ap step_text (sym is.1))
respelled_means line front word before step ends same fits is = absurd is

-- a text can hold it, in each version
pub respelled_fits : (version : Version) (word : List ℕ) (before step : Step) → FitsStep before → IsRespelled word before step → FitsStepOf version step
respelled_fits version word (steps.Call pid (call.Store address old)) step fits is =
    rw is.1 (record { fits = (fits.0, (fits.1.0, (is.3, tt))); of = tt })
respelled_fits version word (steps.Call pid (call.Kill target old)) step fits is =
    let small : is.0 < 64 = is.2.1 in
    rw is.1 (record { fits = (fits.0, (fits.1.0, (pos_fits is.0 (omega arith), tt))); of = tt })
respelled_fits version word (steps.Deliver pid old) step fits is =
    let small : is.0.0 < 64 = is.2.1 in
    rw is.1 (record { fits = (fits.0, omega arith); of = tt })
respelled_fits version word before step fits is = absurd is

-- where a word goes on, after blanks or not
abbrev reading_of : Bool → Reading
reading_of true = Between
reading_of false = InWord

abbrev word_on : Bool → List ℕ → List ℕ
word_on true line = []
word_on false line = word_from InWord line

-- the words of a line and those of what it is squeezed to, from within a word on
record AreSame (gap : Bool) (text line : List ℕ) : Type 0 where
  words : words_from InWord text ≡ words_from (reading_of gap) line
  word : word_from InWord text ≡ word_on gap line

abbrev no_bytes : List ℕ
no_bytes = []

abbrev no_line : Option (List ℕ)
no_line = None

-- a byte of a word, by its tests
record IsPlain (byte : ℕ) : Type 0 where
  blank_after : after_blank byte ≡ InWord
  word_after : after_word_byte byte ≡ InWord

is_plain : (byte : ℕ) → is_blank byte ≡ false → nat_eq byte 35 ≡ false → nat_eq byte 34 ≡ false → IsPlain byte
is_plain byte blank hash quote = record { blank_after = rw (blank, hash, quote) refl; word_after = rw (blank, hash) refl }

front_of : (front : List ℕ) (found : Option (List ℕ)) (text : List ℕ) → option_map (λ (t : List ℕ). front ++ t) found ≡ Some text → (rest : List ℕ) × (found ≡ Some rest) × (text ≡ front ++ rest)
front_of front None text e = absurd (cc)
front_of front (Some rest) text e = (rest, refl, cc)

after_squeezed : (gap : Bool) (byte : ℕ) (bytes text : List ℕ) → is_blank byte ≡ false → nat_eq byte 35 ≡ false → squeezed gap (byte ∷ bytes) ≡ Some text →
    IsPlain byte × (rest : List ℕ) × (squeezed false bytes ≡ Some rest) × (text ≡ spaced_byte gap byte ++ rest)
after_squeezed gap byte bytes text blank hash e =
    elim (two_ways (nat_eq byte 34)) [
      | inl h ↦ let none : no_line ≡ Some text = rw (blank, hash, h) at e in absurd (cc)
      | inr h ↦ let some : option_map (λ (t : List ℕ). spaced_byte gap byte ++ t) (squeezed false bytes) ≡ Some text = rw (blank, hash, h) at e in
          let parts = front_of (spaced_byte gap byte) (squeezed false bytes) text some in
          (is_plain byte blank hash h, parts.0, parts.1, parts.2)
    ]

first_same : (byte : ℕ) (bytes rest : List ℕ) → IsPlain byte → AreSame false rest bytes → words_in (byte ∷ rest) ≡ words_in (byte ∷ bytes)
first_same byte bytes rest is later =
    rw is.blank_after
    (ap (λ (t : List ℕ). (byte ∷ t) ∷ words_from InWord rest) later.word ∙ ap (λ (ws : List (List ℕ)). (byte ∷ word_from InWord bytes) ∷ ws) later.words)

empty_same : (gap : Bool) (text line : List ℕ) → squeezed gap line ≡ Some text → squeezed gap line ≡ Some no_bytes → words_from (reading_of gap) line ≡ [] → word_on gap line ≡ [] → AreSame gap text line
empty_same gap text line e none words word = let empty : text ≡ [] = cc in record { words = ap (words_from InWord) empty ∙ sym words; word = ap (word_from InWord) empty ∙ sym word }

same_words : (gap : Bool) (line text : List ℕ) → squeezed gap line ≡ Some text → AreSame gap text line
same_words true [] text e = empty_same true text [] e refl refl refl
same_words false [] text e = empty_same false text [] e refl refl refl
same_words false (byte ∷ bytes) text e =
    elim (two_ways (is_blank byte)) [
      | inl blank ↦ let later = same_words true bytes text (rw blank at e) in record { words = rw blank later.words; word = rw blank later.word }
      | inr other ↦ elim (two_ways (nat_eq byte 35)) [
        | inl hash ↦ empty_same false text (byte ∷ bytes) e (rw (other, hash) refl) (rw (other, hash) (comment_words bytes)) (rw (other, hash) refl)
        | inr none ↦ let parts = after_squeezed false byte bytes text other none e in
            let later = same_words false bytes parts.1 parts.2 in
            record {
              words = ap (words_from InWord) parts.3 ∙ rw parts.0.word_after later.words;
              word = ap (word_from InWord) parts.3 ∙ rw parts.0.word_after (ap (λ (t : List ℕ). byte ∷ t) later.word);
            }
      ]
    ]
same_words true (byte ∷ bytes) text e =
    elim (two_ways (is_blank byte)) [
      | inl blank ↦ let later = same_words true bytes text (rw blank at e) in record { words = rw blank later.words; word = later.word }
      | inr other ↦ elim (two_ways (nat_eq byte 35)) [
        | inl hash ↦ empty_same true text (byte ∷ bytes) e (rw (other, hash) refl) (rw (other, hash) (comment_words bytes)) refl
        | inr none ↦ let parts = after_squeezed true byte bytes text other none e in
            let later = same_words false bytes parts.1 parts.2 in
            record {
              words = ap (words_from InWord) parts.3 ∙ first_same byte bytes parts.1 parts.0 later;
              word = ap (word_from InWord) parts.3;
            }
      ]
    ]

-- from a word's first byte on
same_first : (byte : ℕ) (bytes text : List ℕ) → is_blank byte ≡ false → nat_eq byte 35 ≡ false → squeezed false (byte ∷ bytes) ≡ Some text → words_in text ≡ words_in (byte ∷ bytes)
same_first byte bytes text other none e =
    let parts = after_squeezed false byte bytes text other none e in
    ap words_in parts.3 ∙ first_same byte bytes parts.1 parts.0 (same_words false bytes parts.1 parts.2)

squeezed_words : (line text : List ℕ) → squeezed false (next_from line) ≡ Some text → words_in text ≡ words_in line
squeezed_words [] text e = let empty : text ≡ [] = cc in rw empty refl
squeezed_words (byte ∷ bytes) text e =
    elim (two_ways (nat_eq byte 35)) [
      | inl hash ↦ let some : Some no_bytes ≡ Some text = rw hash at e in let empty : text ≡ [] = cc in
          let is : byte ≡ 35 = eqb-true byte 35 hash in rw (empty, is) (sym (comment_words bytes))
      | inr none ↦ elim (two_ways (is_blank byte)) [
        | inl blank ↦ let later : squeezed false (next_from bytes) ≡ Some text = rw (none, blank) at e in rw (none, blank) (squeezed_words bytes text later)
        | inr other ↦ let here : squeezed false (byte ∷ bytes) ≡ Some text = rw (none, other) at e in same_first byte bytes text other none here
      ]
    ]

-- a line means the step as which it is read once it is squeezed
pub squeezed_means : (line text : List ℕ) (step : Step) → Some text ≡ option_map (λ t. [] ++ t) (squeezed false (next_from line)) → text ≡ step_text step → FitsStep step →
    length line ≤ 512 → length text ≤ 512 → plain_line (Within Schedule) line ≡ Some (step_text step)
squeezed_means line text step is same fits short few =
    let found = front_of [] (squeezed false (next_from line)) text (sym is) in
    let squeezed_to : squeezed false (next_from line) ≡ Some text = found.1 ∙ ap Some (sym found.2) in
    let words : words_in line ≡ words_in (step_text step) = sym (squeezed_words line text squeezed_to) ∙ ap words_in same in
    short_means line (step_text step) (ap (plain_of_words (Within Schedule)) words ∙ words_mean Schedule (step_text step) (step_stays step fits)) short (subst (λ (t : List ℕ). length t ≤ 512) same few)
