-- The words of a line, one after another.
use Rattle.std.proofs.Common.{◌≡◌, ℕ, ◌+◌, ◌-◌, ◌≤◌, ◌<◌, true, false, nat_eq, List, [], ◌∷◌, ◌++◌, length, drop, take, append_assoc, refl, ap, sym, ◌∙◌, inl, inr, arith, length-append, length-take, add-zero}
use Rattle.std.proofs.lemmas.Bool.{both_ways, cases_lt}
use Rattle.std.proofs.lemmas.Bool.Decides.{eqb_tells}
use Rattle.std.proofs.Math.Seq.{drop-append_seam, take-append_seam}
use Rattle.tx_translate.specs.Words.{after_blank, columns_from, is_blank, is_inside, next_from, reading_after, rest_from, word_from, words_from, words_in}
use Rattle.tx_translate.specs.declared.reading.Reading.{Reading}
use Rattle.tx_translate.specs.declared.reading.Reading.TheVariants.{Between, InWord, InString, AfterBackslash, InComment}
use Rattle.tx_translate.proofs.Tests.{two_ways}

-- a comment has no word
pub comment_words : (bytes : List ℕ) → words_from InComment bytes ≡ []
comment_words [] = refl
comment_words (byte ∷ bytes) = comment_words bytes

comment_columns : (column : ℕ) (bytes : List ℕ) → columns_from column InComment bytes ≡ []
comment_columns column [] = refl
comment_columns column (byte ∷ bytes) = comment_columns (column + 1) bytes

next_here : (byte : ℕ) (bytes : List ℕ) → is_blank byte ≡ false → nat_eq byte 35 ≡ false → next_from (byte ∷ bytes) ≡ byte ∷ bytes
next_here byte bytes other hash = rw (hash, other) refl

-- what is before a line's next word says nothing
pub next_words : (line : List ℕ) → words_in line ≡ words_in (next_from line)
next_words [] = refl
next_words (byte ∷ bytes) =
    elim (eqb_tells byte 35) [
      | inl h ↦ rw h.1 (comment_words bytes)
      | inr h ↦ elim (two_ways (is_blank byte)) [ inl blank ↦ rw (blank, h.0) (next_words bytes) | inr other ↦ ap words_in (sym (next_here byte bytes other h.0)) ]
    ]

-- a line's next word comes after so many bytes
pub record IsAfter (line : List ℕ) (column count : ℕ) : Type 0 where
  pub whole : count + length (next_from line) ≡ length line
  pub columns : columns_from column Between line ≡ columns_from (column + count) Between (next_from line)

-- and after some bytes, which there are where it is none
pub next_place : (line : List ℕ) → 0 < length (next_from line) → (gap : List ℕ) × (line ≡ gap ++ next_from line)
next_place [] some = ([], refl)
next_place (byte ∷ bytes) some =
    elim (eqb_tells byte 35) [
      | inl h ↦ let none : 0 < 0 = rw h.0 at some in absurd (omega (arith, none))
      | inr h ↦ elim (two_ways (is_blank byte)) [
        | inl blank ↦ let later : 0 < length (next_from bytes) = rw (h.0, blank) at some in
            let more = next_place bytes later in
            let here : next_from (byte ∷ bytes) ≡ next_from bytes = rw (h.0, blank) refl in
            (byte ∷ more.0, ap (λ (t : List ℕ). byte ∷ t) more.1 ∙ ap (λ (t : List ℕ). (byte ∷ more.0) ++ t) (sym here))
        | inr other ↦ ([], sym (next_here byte bytes other h.0))
      ]
    ]

after_more : (byte : ℕ) (bytes : List ℕ) (column count : ℕ) → is_blank byte ≡ true → nat_eq byte 35 ≡ false → IsAfter bytes (column + 1) count → IsAfter (byte ∷ bytes) column (count + 1)
after_more byte bytes column count blank other following = record {
  whole = rw (other, blank) (omega (arith, following.whole));
  columns = let more : column + 1 + count ≡ column + (count + 1) = omega arith in rw (← more) (rw (blank, other) following.columns);
}

pub next_columns : (line : List ℕ) (column : ℕ) → (count : ℕ) × IsAfter line column count
next_columns [] column = (0, record { whole = refl; columns = refl })
next_columns (byte ∷ bytes) column =
    elim (eqb_tells byte 35) [
      | inl h ↦ (
        length (byte ∷ bytes),
        record {
          whole = rw h.0 (omega arith);
          columns = rw h.1 (comment_columns (column + 1) bytes);
        },
      )
      | inr h ↦ elim (two_ways (is_blank byte)) [
        | inl blank ↦ let more = next_columns bytes (column + 1) in (more.0 + 1, after_more byte bytes column more.0 blank h.0 more.1)
        | inr other ↦ let here = next_here byte bytes other h.0 in
            let zero : column ≡ column + 0 = omega arith in (
              0,
              record {
                whole = omega (arith, ap length here);
                columns = ap (columns_from column Between) (sym here) ∙ ap (λ (n : ℕ). columns_from n Between (next_from (byte ∷ bytes))) zero;
              },
            )
      ]
    ]

-- a text begins with a word
pub record BeginsWord (line : List ℕ) : Type 0 where
  pub byte : ℕ
  pub bytes : List ℕ
  pub parts : line ≡ byte ∷ bytes
  pub inside : is_inside (after_blank byte) ≡ true

inside_word : (byte : ℕ) → is_blank byte ≡ false → nat_eq byte 35 ≡ false → is_inside (after_blank byte) ≡ true
inside_word byte other hash = elim (eqb_tells byte 34) [ inl h ↦ rw (other, hash, h.0) refl | inr h ↦ rw (other, hash, h.0) refl ]

-- where a line has a next word, it begins so from there
pub next_begins : (line : List ℕ) → 0 < length (next_from line) → BeginsWord (next_from line)
next_begins [] some = absurd (omega (arith, some))
next_begins (byte ∷ bytes) some =
    elim (eqb_tells byte 35) [
      | inl h ↦ let none : 0 < 0 = rw h.0 at some in absurd (omega (arith, none))
      | inr h ↦ elim (two_ways (is_blank byte)) [
        | inl blank ↦ let later : 0 < length (next_from bytes) = rw (h.0, blank) at some in rw (h.0, blank) (next_begins bytes later)
        | inr other ↦ rw (h.0, other) (record { byte = byte; bytes = bytes; parts = refl; inside = inside_word byte other h.0 })
      ]
    ]

-- after a word reading goes on as between words
leaves_between : (reading : Reading) (byte : ℕ) → is_inside reading ≡ true → is_inside (reading_after reading byte) ≡ false → reading_after Between byte ≡ reading_after reading byte
leaves_between Between byte inside leaves = absurd (both_ways false refl inside)
leaves_between InComment byte inside leaves = absurd (both_ways false refl inside)
leaves_between AfterBackslash byte inside leaves = absurd (both_ways true leaves refl)
leaves_between InString byte inside leaves =
    elim (eqb_tells byte 34) [
      | inl h ↦ let bad : true ≡ false = rw h.0 at leaves in absurd (cc)
      | inr h ↦ elim (eqb_tells byte 92) [
        | inl k ↦ let bad : true ≡ false = rw (h.0, k.0) at leaves in absurd (cc)
        | inr k ↦ let bad : true ≡ false = rw (h.0, k.0) at leaves in absurd (cc)
      ]
    ]
leaves_between InWord byte inside leaves =
    elim (two_ways (is_blank byte)) [
      | inl blank ↦ rw blank refl
      | inr other ↦ elim (eqb_tells byte 35) [
        | inl h ↦ rw (other, h.0) refl
        | inr h ↦ let bad : true ≡ false = rw (other, h.0) at leaves in absurd (cc)
      ]
    ]

-- the words after a word
pub rest_words : (reading : Reading) (bytes : List ℕ) → is_inside reading ≡ true → words_from reading bytes ≡ words_in (rest_from reading bytes)
rest_words reading [] inside = refl
rest_words reading (byte ∷ bytes) inside =
    elim (two_ways (is_inside (reading_after reading byte))) [
      | inl stays ↦ rw (inside, stays) (rest_words (reading_after reading byte) bytes stays)
      | inr leaves ↦ let same = leaves_between reading byte inside leaves in rw (inside, leaves) (rw same (rw leaves refl))
    ]

pub rest_columns : (reading : Reading) (bytes : List ℕ) (column : ℕ) → is_inside reading ≡ true →
    columns_from column reading bytes ≡ columns_from (column + length (word_from reading bytes)) Between (rest_from reading bytes)
rest_columns reading [] column inside = refl
rest_columns reading (byte ∷ bytes) column inside =
    elim (two_ways (is_inside (reading_after reading byte))) [
      | inl stays ↦ rw (inside, stays) (rest_columns (reading_after reading byte) bytes (column + 1) stays
          ∙ ap (λ (n : ℕ). columns_from n Between (rest_from (reading_after reading byte) bytes)) (omega arith))
      | inr leaves ↦ let same = leaves_between reading byte inside leaves in rw (inside, leaves) (rw add-zero (rw same (rw leaves refl)))
    ]

-- a line is its word and what follows
pub word_rest : (reading : Reading) (bytes : List ℕ) → bytes ≡ word_from reading bytes ++ rest_from reading bytes
word_rest reading [] = refl
word_rest reading (byte ∷ bytes) =
    elim (two_ways (is_inside (reading_after reading byte))) [
      | inl stays ↦ rw stays (ap (λ (t : List ℕ). byte ∷ t) (word_rest (reading_after reading byte) bytes))
      | inr leaves ↦ rw leaves refl
    ]

pub word_taken : (reading : Reading) (bytes : List ℕ) → take (length bytes - length (rest_from reading bytes)) bytes ≡ word_from reading bytes
word_taken reading bytes =
    let word = word_from reading bytes in
    let rest = rest_from reading bytes in
    let whole : bytes ≡ word ++ rest = word_rest reading bytes in
    let size : length bytes - length rest ≡ length word = omega (arith, ap length whole, length-append word rest) in
    rw size (ap (take (length word)) whole ∙ take-append_seam word rest)

pub none_left : (bytes : List ℕ) → length bytes ≡ 0 → bytes ≡ []
none_left [] none = refl
none_left (byte ∷ bytes) none = absurd (omega (arith, none))

-- the word that a text begins with is some bytes
pub record IsFirst (left rest : List ℕ) : Type 0 where
  pub word : List ℕ
  pub whole : left ≡ word ++ rest
  pub taken : take (length left - length rest) left ≡ word
  pub some : 0 < length word
  pub words : words_in left ≡ word ∷ words_in rest
  pub columns : (column : ℕ) → columns_from column Between left ≡ column ∷ columns_from (column + length word) Between rest

first_at : (byte : ℕ) (bytes : List ℕ) → is_inside (after_blank byte) ≡ true → IsFirst (byte ∷ bytes) (rest_from Between (byte ∷ bytes))
first_at byte bytes inside = record {
  word = word_from Between (byte ∷ bytes);
  whole = word_rest Between (byte ∷ bytes);
  taken = word_taken Between (byte ∷ bytes);
  some = rw inside (omega arith);
  words = rw inside (ap (λ (ws : List (List ℕ)). (byte ∷ word_from (after_blank byte) bytes) ∷ ws) (rest_words (after_blank byte) bytes inside));
  columns = λ column.
      let more : column + 1 + length (word_from (after_blank byte) bytes) ≡ column + (length (word_from (after_blank byte) bytes) + 1) = omega arith in
      rw inside (ap (λ (cs : List ℕ). column ∷ cs)
      (rest_columns (after_blank byte) bytes (column + 1) inside ∙ ap (λ (n : ℕ). columns_from n Between (rest_from (after_blank byte) bytes)) (omega arith)));
}

is_first : (left rest : List ℕ) → rest ≡ rest_from Between left → BeginsWord left → IsFirst left rest
is_first left rest is begins =
    let at : IsFirst (begins.byte ∷ begins.bytes) (rest_from Between (begins.byte ∷ begins.bytes)) = first_at begins.byte begins.bytes begins.inside in
    let here : IsFirst left (rest_from Between left) = rw begins.parts at in
    rw is here

found : (line left rest : List ℕ) → left ≡ next_from line → rest ≡ rest_from Between left → 0 < length left → IsFirst left rest
found line left rest next is some =
    let begins : BeginsWord (next_from line) = next_begins line (rw next at some) in
    is_first left rest is (rw next begins)

pub none_words : (line left : List ℕ) → left ≡ next_from line → length left ≡ 0 → words_in line ≡ []
none_words line left next none = next_words line ∙ ap words_in (sym next ∙ none_left left none)

pub none_columns : (line left : List ℕ) (first : ℕ) → left ≡ next_from line → length left ≡ 0 → columns_from first Between line ≡ []
none_columns line left first next none =
    let following = next_columns line first in
    following.1.columns ∙ ap (columns_from (first + following.0) Between) (sym next ∙ none_left left none)

pub rest_short : (left rest : List ℕ) → rest ≡ rest_from Between left → length rest ≤ length left
rest_short left rest is = omega (arith, ap length is, ap length (word_rest Between left), length-append (word_from Between left) (rest_from Between left))

pub first_words : (line left rest : List ℕ) → left ≡ next_from line → rest ≡ rest_from Between left → 0 < length left →
    words_in line ≡ take (length left - length rest) left ∷ words_in rest
first_words line left rest next is some =
    let first = found line left rest next is some in
    next_words line ∙ ap words_in (sym next) ∙ first.words ∙ ap (λ (w : List ℕ). w ∷ words_in rest) (sym first.taken)

pub first_some : (line left rest : List ℕ) → left ≡ next_from line → rest ≡ rest_from Between left → 0 < length left →
    0 < length (take (length left - length rest) left)
first_some line left rest next is some =
    let first = found line left rest next is some in
    omega (arith, ap length first.taken, first.some)

pub first_inside : (line left rest : List ℕ) → left ≡ next_from line → rest ≡ rest_from Between left →
    length (take (length left - length rest) left) + length rest ≤ length line
first_inside line left rest next is =
    let following = next_columns line 0 in
    omega (arith, ap length next, following.1.whole, length-take (length left - length rest) left, rest_short left rest is)

pub first_columns : (line left rest : List ℕ) (first : ℕ) → left ≡ next_from line → rest ≡ rest_from Between left → 0 < length left →
    columns_from first Between line
    ≡ (first + (length line - length rest - length (take (length left - length rest) left))) ∷ columns_from (first + (length line - length rest)) Between rest
first_columns line left rest first next is some =
    let here = found line left rest next is some in
    let following = next_columns line first in
    let size : length left ≡ length here.word + length rest = ap length here.whole ∙ length-append here.word rest in
    let at : first + following.0 ≡ first + (length line - length rest - length (take (length left - length rest) left)) =
    omega (arith, ap length next, following.1.whole, size, ap length here.taken) in
    let after : first + following.0 + length here.word ≡ first + (length line - length rest) = omega (arith, ap length next, following.1.whole, size) in
    following.1.columns
    ∙ ap (columns_from (first + following.0) Between) (sym next)
    ∙ here.columns (first + following.0)
    ∙ ap (λ (n : ℕ). n ∷ columns_from (first + following.0 + length here.word) Between rest) at
    ∙ ap (λ (n : ℕ). (first + (length line - length rest - length (take (length left - length rest) left))) ∷ columns_from n Between rest) after

pub first_place : (line left rest : List ℕ) → left ≡ next_from line → rest ≡ rest_from Between left → 0 < length left →
    (gap : List ℕ) × (line ≡ gap ++ (take (length left - length rest) left ++ rest))
first_place line left rest next is some =
    let first = found line left rest next is some in
    let place = next_place line (omega (arith, ap length next, some)) in
    (place.0, place.1 ∙ ap (λ (t : List ℕ). place.0 ++ t) (sym next ∙ first.whole ∙ ap (λ (w : List ℕ). w ++ rest) (sym first.taken)))

-- a word in a line, by its place
pub word_at : (line before left gap word rest : List ℕ) → line ≡ before ++ left → left ≡ gap ++ (word ++ rest) →
    take (length word) (drop (length line - length rest - length word) line) ≡ word
word_at line before left gap word rest whole parts =
    let all : line ≡ (before ++ gap) ++ (word ++ rest) = whole ∙ ap (λ (t : List ℕ). before ++ t) parts ∙ sym (append_assoc before gap (word ++ rest)) in
    let size : length (before ++ gap) ≡ length line - length rest - length word =
    omega (arith, ap length all, length-append (before ++ gap) (word ++ rest), length-append word rest) in
    rw (← size) (ap (λ (t : List ℕ). take (length word) (drop (length (before ++ gap)) t)) all
    ∙ ap (take (length word)) (drop-append_seam (before ++ gap) (word ++ rest))
    ∙ take-append_seam word rest)

pub rest_at : (line before left gap word rest : List ℕ) → line ≡ before ++ left → left ≡ gap ++ (word ++ rest) → line ≡ (before ++ (gap ++ word)) ++ rest
rest_at line before left gap word rest whole parts =
    whole
    ∙ ap (λ (t : List ℕ). before ++ t) (parts ∙ sym (append_assoc gap word rest))
    ∙ sym (append_assoc before (gap ++ word) rest)

-- the first word of a line is where what is left begins
pub first_found : (line word : List ℕ) (others : List (List ℕ)) → words_in line ≡ word ∷ others → (rest : List ℕ) × (next_from line ≡ word ++ rest)
first_found line word others are =
    elim (cases_lt 0 (length (next_from line))) [
      | inl some ↦
          let first = found line (next_from line) (rest_from Between (next_from line)) refl refl some in
          let same : first.word ∷ words_in (rest_from Between (next_from line)) ≡ word ∷ others = sym first.words ∙ sym (next_words line) ∙ are in
          let word_same : first.word ≡ word = cc in
          (rest_from Between (next_from line), first.whole ∙ ap (λ (w : List ℕ). w ++ rest_from Between (next_from line)) word_same)
      | inr none ↦
          let nothing = none_words line (next_from line) refl (omega (arith, none)) in
          let bad : [] ≡ word ∷ others = sym nothing ∙ are in
          absurd (cc)
    ]
