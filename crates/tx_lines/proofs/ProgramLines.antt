-- The lines of a program, read word by word.
use Rattle.std.proofs.Common.{◌≡◌, ℕ, zero, suc, ◌+◌, ◌-◌, ◌<◌, ◌≤◌, Bool, true, false, ◌&&◌, List, [], ◌∷◌, ◌++◌, Option, Some, codes, length, map, nat_le, refl, ap, sym, ◌∙◌, inl, inr, arith, slice_get, subst, if◌then◌else◌}
use Rattle.std.proofs.lemmas.Bool.{both_ways, le-leb, ne_eqb}
use Rattle.std.proofs.lemmas.Bool.Decides.{eqb_tells, leb_tells}
use Rattle.std.proofs.lemmas.Fmt.{decimal_digit, decimal_injective, signed_decimal_injective}
use Rattle.std.specs.Fmt.{decimal}
use Rattle.std.specs.List.{list_all}
use Rattle.std.specs.Prelude.{pos}
use Rattle.arrayvec.specs.ArrayVec.{ArrayVec}
use Rattle.tx_base.specs.declared.steps.Call.{Call}
use Rattle.tx_lines.specs.Arguments.{word_of, Argument, Number, Point, FitsArgument}
use Rattle.tx_lines.specs.Calls.{name_of, program_arguments, FitsCall}
use Rattle.tx_lines.specs.Instructions.{instruction_text, is_letter, is_name, is_name_byte, kind_of, label_spelling, may_be, plain_as, plain_text, plain_word, slot_spelling, spelled_word, spelled_words, spelling_of, words_of, AreSpelled, IsInstruction, IsSpelled, MayAllBe}
use Rattle.tx_lines.specs.declared.instructions.Instruction.{Instruction}
use Rattle.tx_lines.specs.declared.instructions.Spelling.{Spelling}
use Rattle.tx_lines.specs.declared.instructions.Spelling.TheVariants.{Plain, Slot, Label}
use Rattle.tx_lines.specs.Words.{joined}
use Rattle.tx_lines.specs.declared.read.header.Version.{Version}
use Rattle.tx_lines.proofs.CallWords.{few_arguments, good_arguments, other_name, plain_name, AreGood, IsGood}
use Rattle.tx_lines.proofs.FirstWord.{parts_at-free, parts_at-word, IsFree}
use Rattle.tx_lines.proofs.LineWords.{words_split, words_whole}
use Rattle.tx_lines.specs.NumberFacts.{mag_small}
use Rattle.tx_lines.proofs.PlainWords.{and_parts, is_free, is_plain, plain, plain_decimal, IsPlain}

-- no word has a space
pub AreFree : List (List ℕ) → Type 0
AreFree [] = Unit {0}
AreFree (word ∷ words) = IsFree 32 word × AreFree words

-- the words of a joined text
pub words_joined : (word : List ℕ) (words : List (List ℕ)) → IsFree 32 word → AreFree words → words_of (joined word words) ≡ (word, words)
unfolding AreFree
words_joined word [] first others = words_whole word (parts_at-free 32 word first)
words_joined word (next ∷ words) first others =
    words_split (word ++ 32 ∷ joined next words) word (joined next words) (parts_at-word 32 word (joined next words) first)
    ∙ ap (λ (ws : List ℕ × List (List ℕ)). (word, ws.0 ∷ ws.1)) (words_joined next words others.0 others.1)

joined_front : (byte : ℕ) (word : List ℕ) (words : List (List ℕ)) → joined (byte ∷ word) words ≡ byte ∷ joined word words
joined_front byte word [] = refl
joined_front byte word (next ∷ words) = refl

-- a text is its words joined
pub joined_words : (text : List ℕ) → joined (words_of text).0 (words_of text).1 ≡ text
joined_words [] = refl
joined_words (byte ∷ bytes) =
    elim (eqb_tells byte 32) [
      | inl h ↦ rw (h.0, h.1) (ap (λ (t : List ℕ). 32 ∷ t) (joined_words bytes))
      | inr h ↦ rw h.0 (joined_front byte (words_of bytes).0 (words_of bytes).1 ∙ ap (λ (t : List ℕ). byte ∷ t) (joined_words bytes))
    ]

-- no word of a text has a space
pub words_free : (text : List ℕ) → IsFree 32 (words_of text).0 × AreFree (words_of text).1
unfolding AreFree IsFree
words_free [] = (tt, tt)
words_free (byte ∷ bytes) =
    elim (eqb_tells byte 32) [
      | inl h ↦ rw h.0 (tt, words_free bytes)
      | inr h ↦ rw h.0 ((h.1, (words_free bytes).0), (words_free bytes).1)
    ]

zero_free : IsFree 32 (codes "0")
unfolding is_plain is_free
zero_free = (plain (codes "0") refl).space

plain_as_free : (spelling : Spelling) (word : List ℕ) → IsFree 32 word → IsFree 32 (plain_as spelling word)
plain_as_free Plain word free = free
plain_as_free (Slot slot) word free = zero_free
plain_as_free (Label name) word free = zero_free

pub plain_free : (words : List (List ℕ)) → AreFree words → AreFree (map plain_word words)
unfolding AreFree
plain_free [] free = tt
plain_free (word ∷ words) free = (plain_as_free (spelling_of word) word free.0, plain_free words free.1)

-- a word that begins with neither mark is read as itself
pub itself : (word : List ℕ) → IsPlain word → spelling_of word ≡ Plain
unfolding IsFree
itself [] plain = refl
itself (byte ∷ bytes) plain =
    let dollar = ne_eqb byte 36 plain.dollar.0 in
    let at_sign = ne_eqb byte 64 plain.at_sign.0 in
    rw (dollar, at_sign) refl

-- what a word is that is read so
SpelledBy : Spelling → List ℕ → Type 0
SpelledBy Plain word = Unit {0}
SpelledBy (Slot slot) word = (slot < 8) × (word ≡ 36 ∷ decimal slot)
SpelledBy (Label name) word = (is_name name.bytes.items ≡ true) × (word ≡ 64 ∷ name.bytes.items)

slot_spelled_by : (byte : ℕ) → SpelledBy (slot_spelling byte) (36 ∷ byte ∷ [])
unfolding SpelledBy
slot_spelled_by byte =
    elim (leb_tells 48 byte) [
      | inl low ↦ elim (leb_tells byte 55) [
        | inl high ↦ let digit : 48 + (byte - 48) ≡ byte = omega (arith, low.1) in
            rw (low.0, high.0) (
              omega (arith, low.1, high.1),
              sym (ap (λ (t : List ℕ). 36 ∷ t) (decimal_digit (byte - 48) (omega (arith, low.1, high.1)) ∙ ap (λ (d : ℕ). d ∷ []) digit)),
            )
        | inr high ↦ rw (low.0, high.0) tt
      ]
      | inr low ↦ rw low.0 tt
    ]

label_spelled_by : (bytes : List ℕ) → SpelledBy (label_spelling bytes) (64 ∷ bytes)
unfolding SpelledBy
label_spelled_by bytes = by (is_name bytes) refl
  where
    by : (named : Bool) → is_name bytes ≡ named → SpelledBy (if named then Label (record { bytes = record { items = bytes } }) else Plain) (64 ∷ bytes)
    by true e = (e, refl)
    by false e = tt

dollar_spelled_by : (bytes : List ℕ) → SpelledBy (spelling_of (36 ∷ bytes)) (36 ∷ bytes)
unfolding SpelledBy
dollar_spelled_by [] = tt
dollar_spelled_by (byte ∷ []) = slot_spelled_by byte
dollar_spelled_by (byte ∷ next ∷ bytes) = let more = ne_eqb (length (byte ∷ next ∷ bytes)) 1 (λ e. omega (arith, e)) in rw more tt

spelled_by : (word : List ℕ) → SpelledBy (spelling_of word) word
unfolding SpelledBy
spelled_by [] = tt
spelled_by (byte ∷ bytes) =
    elim (eqb_tells byte 36) [
      | inl h ↦ subst (λ (b : ℕ). SpelledBy (spelling_of (b ∷ bytes)) (b ∷ bytes)) (sym h.1) (dollar_spelled_by bytes)
      | inr h ↦ elim (eqb_tells byte 64) [
        | inl g ↦ rw (h.0, g.0, g.1) (label_spelled_by bytes)
        | inr g ↦ rw (h.0, g.0) tt
      ]
    ]

-- a word that is read as an argument, and may be, spells it
word_sound : (word : List ℕ) (argument : Argument) → IsGood argument → plain_word word ≡ word_of argument → may_be (spelling_of word) (kind_of argument) ≡ true →
    IsSpelled (spelling_of word) argument × (spelled_word (spelling_of word) argument ≡ word)
unfolding SpelledBy
word_sound word argument good same may = by (spelling_of word) argument good.fits (spelled_by word) same may
  where
    by : (s : Spelling) (a : Argument) → FitsArgument a → SpelledBy s word → plain_as s word ≡ word_of a → may_be s (kind_of a) ≡ true → IsSpelled s a × (spelled_word s a ≡ word)
    by Plain a fits spelled_by same may = (may, sym same)
    by (Slot slot) (Number number) fits spelled_by same may =
        let zero_number : number ≡ pos 0 = sym (signed_decimal_injective (pos 0) number (omega arith) (mag_small number fits) (decimal_digit 0 (omega arith) ∙ same)) in
        ((spelled_by.0, ap Number zero_number), sym spelled_by.1)
    by (Slot slot) a fits spelled_by same may = absurd (both_ways false refl may)
    by (Label name) (Point point) fits spelled_by same may =
        let zero_point : point ≡ 0 = sym (decimal_injective 0 point (omega arith) (omega (arith, fits)) (decimal_digit 0 (omega arith) ∙ same)) in
        ((spelled_by.0, ap Point zero_point), sym spelled_by.1)
    by (Label name) a fits spelled_by same may = absurd (both_ways false refl may)

-- so do words one by one
pub words_sound : (words : List (List ℕ)) (arguments : List Argument) → AreGood arguments → map plain_word words ≡ map word_of arguments
    → MayAllBe (map spelling_of words) arguments
    → AreSpelled (map spelling_of words) arguments × (spelled_words (map spelling_of words) arguments ≡ words)
unfolding AreGood
words_sound [] [] good same may = (tt, refl)
words_sound [] (argument ∷ arguments) good same may = absurd (cc)
words_sound (word ∷ words) [] good same may = absurd (cc)
words_sound (word ∷ words) (argument ∷ arguments) good same may =
    let first : plain_word word ≡ word_of argument = cc in
    let others : map plain_word words ≡ map word_of arguments = cc in
    let head = word_sound word argument good.0 first (may 0 (spelling_of word) argument refl refl) in
    let tail = words_sound words arguments good.1 others (λ place. may (suc place)) in
    ((head.0, tail.0), rw (head.1, tail.1) refl)

-- how a word spells an argument
record Spells (spelling : Spelling) (argument : Argument) : Type 0 where
  free : IsFree 32 (spelled_word spelling argument)
  same : spelling_of (spelled_word spelling argument) ≡ spelling
  plain : plain_word (spelled_word spelling argument) ≡ word_of argument
  may : may_be spelling (kind_of argument) ≡ true

name_free : (bytes : List ℕ) → list_all is_name_byte bytes ≡ true → IsFree 32 bytes
unfolding IsFree
name_free [] holds = tt
name_free (byte ∷ bytes) holds =
    let parts = and_parts (is_name_byte byte) (list_all is_name_byte bytes) holds in
    ((λ e. let bad : is_name_byte 32 ≡ true = subst (λ (b : ℕ). is_name_byte b ≡ true) e parts.0 in both_ways false refl bad), name_free bytes parts.1)

label_after : (byte : ℕ) (bytes : List ℕ) → (byte ≡ 32 → ⊥) → IsFree 32 bytes → IsFree 32 (byte ∷ bytes)
unfolding IsFree
label_after byte bytes other rest = (other, rest)

good_free : (arguments : List Argument) → AreGood arguments → AreFree (map word_of arguments)
unfolding AreGood AreFree
good_free [] good = tt
good_free (argument ∷ arguments) good = (good.0.plain.space, good_free arguments good.1)

label_free : (bytes : List ℕ) → is_name bytes ≡ true → IsFree 32 (64 ∷ bytes)
unfolding IsFree
label_free [] named = absurd (both_ways false refl named)
label_free (byte ∷ bytes) named =
    let parts = and_parts (is_letter byte) (list_all is_name_byte bytes && nat_le (length bytes) 15) named in
    let others = and_parts (list_all is_name_byte bytes) (nat_le (length bytes) 15) parts.1 in (
      (λ e. omega (arith, e)),
      ((λ e. let bad : is_letter 32 ≡ true = subst (λ (b : ℕ). is_letter b ≡ true) e parts.0 in both_ways false refl bad), name_free bytes others.0),
    )

spells : (spelling : Spelling) (argument : Argument) → IsSpelled spelling argument → IsGood argument → Spells spelling argument
spells Plain argument spelled good = record {
  free = good.plain.space;
  same = itself (word_of argument) good.plain;
  plain = rw (itself (word_of argument) good.plain) refl;
  may = spelled;
}
spells (Slot slot) argument spelled good =
    let small : slot < 8 = spelled.0 in
    let digit : decimal slot ≡ (48 + slot) ∷ [] = decimal_digit slot (omega (arith, small)) in
    let low = le-leb 48 (48 + slot) (omega arith) in
    let high = le-leb (48 + slot) 55 (omega (arith, small)) in
    let read : spelling_of (36 ∷ decimal slot) ≡ Slot slot = rw (digit, low, high) (ap Slot (omega arith)) in
    let argument_word : word_of argument ≡ decimal 0 = ap word_of spelled.1 in
    record {
      free = label_after 36 (decimal slot) (λ e. omega (arith, e)) (plain_decimal slot (omega (arith, small))).space;
      same = read;
      plain = ap (λ (s : Spelling). plain_as s (36 ∷ decimal slot)) read ∙ sym (argument_word ∙ decimal_digit 0 (omega arith));
      may = ap (λ (a : Argument). may_be (Slot slot) (kind_of a)) spelled.1;
    }
spells (Label name) argument spelled good =
    let named : is_name name.bytes.items ≡ true = spelled.0 in
    let read : spelling_of (64 ∷ name.bytes.items) ≡ Label name = rw named refl in
    let argument_word : word_of argument ≡ decimal 0 = ap word_of spelled.1 in
    record {
      free = label_free name.bytes.items named;
      same = read;
      plain = ap (λ (s : Spelling). plain_as s (64 ∷ name.bytes.items)) read ∙ sym (argument_word ∙ decimal_digit 0 (omega arith));
      may = ap (λ (a : Argument). may_be (Label name) (kind_of a)) spelled.1;
    }

-- how words spell some arguments
pub record SpellAll (spellings : List Spelling) (arguments : List Argument) : Type 0 where
  pub free : AreFree (spelled_words spellings arguments)
  pub same : map spelling_of (spelled_words spellings arguments) ≡ spellings
  pub plain : map plain_word (spelled_words spellings arguments) ≡ map word_of arguments
  pub count : length (spelled_words spellings arguments) ≡ length arguments
  pub spelled_count : length spellings ≡ length arguments

pub spell_all : (spellings : List Spelling) (arguments : List Argument) → AreSpelled spellings arguments → AreGood arguments → SpellAll spellings arguments
unfolding AreGood AreFree
spell_all [] [] spelled good = record { free = tt; same = refl; plain = refl; count = refl; spelled_count = refl }
spell_all [] (argument ∷ arguments) spelled good = absurd spelled
spell_all (spelling ∷ spellings) [] spelled good = absurd spelled
spell_all (spelling ∷ spellings) (argument ∷ arguments) spelled good =
    let head = spells spelling argument spelled.0 good.0 in
    let tail = spell_all spellings arguments spelled.1 good.1 in
    record {
      free = (head.free, tail.free);
      same = rw (head.same, tail.same) refl;
      plain = rw (head.plain, tail.plain) refl;
      count = omega (arith, tail.count);
      spelled_count = omega (arith, tail.spelled_count);
    }

pub may_all : (spellings : List Spelling) (arguments : List Argument) → AreSpelled spellings arguments → AreGood arguments
    → (place : ℕ) (spelling : Spelling) (argument : Argument) → slice_get spellings place ≡ Some spelling → slice_get arguments place ≡ Some argument → may_be spelling (kind_of argument) ≡ true
unfolding AreGood
may_all [] [] spelled good place spelling argument at there = absurd (cc)
may_all [] (a ∷ arguments) spelled good place spelling argument at there = absurd spelled
may_all (s ∷ spellings) [] spelled good place spelling argument at there = absurd spelled
may_all (s ∷ spellings) (a ∷ arguments) spelled good zero spelling argument at there =
    let same : s ≡ spelling = cc in
    let as_well : a ≡ argument = cc in
    ap (λ (x : Spelling). may_be x (kind_of argument)) (sym same) ∙ ap (λ (x : Argument). may_be s (kind_of x)) (sym as_well) ∙ (spells s a spelled.0 good.0).may
may_all (s ∷ spellings) (a ∷ arguments) spelled good (suc place) spelling argument at there = may_all spellings arguments spelled.1 good.1 place spelling argument at there

-- a line whose words are read as those of a call spells the call
pub record LineSpells (line : List ℕ) (c : Call) (spellings : List Spelling) : Type 0 where
  pub text : line ≡ joined (name_of c) (spelled_words spellings (program_arguments c))
  pub spelled : AreSpelled spellings (program_arguments c)

pub line_found : (line text : List ℕ) (c : Call) (spellings : List Spelling) → FitsCall c → text ≡ joined (words_of line).0 (map plain_word (words_of line).1) → text ≡ plain_text c
    → spellings ≡ map spelling_of (words_of line).1
    → MayAllBe spellings (program_arguments c)
    → LineSpells line c spellings
line_found line text c spellings fits put read spelled may =
    let words : List ℕ × List (List ℕ) = words_of line in
    let free = words_free line in
    let good = good_arguments c fits in
    let left : words_of text ≡ (words.0, map plain_word words.1) = ap words_of put ∙ words_joined words.0 (map plain_word words.1) free.0 (plain_free words.1 free.1) in
    let right : words_of text ≡ (name_of c, map word_of (program_arguments c)) = ap words_of read ∙ words_joined (name_of c) (map word_of (program_arguments c)) (plain_name c).space (good_free (program_arguments c) good) in
    let pair = sym left ∙ right in
    let name : words.0 ≡ name_of c = ap (λ (ws : List ℕ × List (List ℕ)). ws.0) pair in
    let plains : map plain_word words.1 ≡ map word_of (program_arguments c) = ap (λ (ws : List ℕ × List (List ℕ)). ws.1) pair in
    let sound = words_sound words.1 (program_arguments c) good plains (λ place spelling argument at. may place spelling argument (ap (λ (ss : List Spelling). slice_get ss place) spelled ∙ at)) in
    record {
      text = sym (joined_words line) ∙ ap (λ (w : List ℕ). joined w words.1) name ∙ ap (joined (name_of c)) (sym sound.1 ∙ ap (λ (ss : List Spelling). spelled_words ss (program_arguments c)) (sym spelled));
      spelled = subst (λ (ss : List Spelling). AreSpelled ss (program_arguments c)) (sym spelled) sound.0;
    }

-- what is read of a line that spells an instruction
pub record LineReads (version : Version) (line : List ℕ) (i : Instruction) : Type 0 where
  pub few : length (words_of line).1 ≤ 4
  pub text : joined (words_of line).0 (map plain_word (words_of line).1) ≡ plain_text i.call
  pub spellings : map spelling_of (words_of line).1 ≡ i.spellings.items
  pub count : length i.spellings.items ≤ length (program_arguments i.call)
  pub may : MayAllBe i.spellings.items (program_arguments i.call)

pub line_reads : (version : Version) (line : List ℕ) (i : Instruction) → IsInstruction version i → line ≡ instruction_text i → LineReads version line i
line_reads version line i is e =
    let good = good_arguments i.call is.fits in
    let all = spell_all i.spellings.items (program_arguments i.call) is.spelled good in
    let words : words_of line ≡ (name_of i.call, spelled_words i.spellings.items (program_arguments i.call)) =
    ap words_of e ∙ words_joined (name_of i.call) (spelled_words i.spellings.items (program_arguments i.call)) (plain_name i.call).space all.free in
    record {
      few = rw words (omega (arith, all.count, few_arguments i.call));
      text = rw words (ap (joined (name_of i.call)) all.plain);
      spellings = rw words all.same;
      count = omega (arith, all.spelled_count);
      may = may_all i.spellings.items (program_arguments i.call) is.spelled good;
    }

-- what is read may be spelled so
pub record MayBeRead (spellings : List Spelling) (c : Call) : Type 0 where
  pub count : length spellings ≤ length (program_arguments c)
  pub may : MayAllBe spellings (program_arguments c)

pub may_be_read : (version : Version) (line : List ℕ) (i : Instruction) (spellings : List Spelling) (c : Call) → LineReads version line i → spellings ≡ map spelling_of (words_of line).1 → c ≡ i.call → MayBeRead spellings c
may_be_read version line i spellings c reads put same = rw (put, same, reads.spellings) (record { count = reads.count; may = reads.may })

abbrev pub made : Call → ArrayVec Spelling → Option Instruction
made c spellings = Some (record { call = c; spellings = spellings })

pub same_instruction : (i : Instruction) (spellings : ArrayVec Spelling) (c : Call) → spellings.items ≡ i.spellings.items → c ≡ i.call → made c spellings ≡ Some i
same_instruction i spellings c spelled same =
    ap (λ (x : Call). made x spellings) same ∙ ap (λ (xs : List Spelling). made i.call (record { items = xs })) spelled

-- no instruction begins as a label does
pub no_label : (version : Version) (i : Instruction) (rest : List ℕ) → IsInstruction version i → instruction_text i ≡ codes "label " ++ rest → ⊥
no_label version i rest is e =
    let good = good_arguments i.call is.fits in
    let all = spell_all i.spellings.items (program_arguments i.call) is.spelled good in
    let words : words_of (instruction_text i) ≡ (name_of i.call, spelled_words i.spellings.items (program_arguments i.call)) =
    words_joined (name_of i.call) (spelled_words i.spellings.items (program_arguments i.call)) (plain_name i.call).space all.free in
    let front : (words_of (codes "label " ++ rest)).0 ≡ codes "label" = refl in
    let same : name_of i.call ≡ codes "label" = ap (λ (ws : List ℕ × List (List ℕ)). ws.0) (sym words ∙ ap words_of e) ∙ front in
    other_name i.call same
