-- The label that a line of a program names, and whether it is one: its text says both.
use Rattle.std.proofs.Common.{◌≡◌, ◌∙◌, ℕ, inl, inr, Bool, true, false, not, ◌&&◌, nat_eq, if◌then◌else◌, List, [], ◌∷◌, ◌++◌, Option, Some, None, option_map, codes, refl, ap, append_assoc, sym, subst}
use Rattle.std.proofs.lemmas.Bool.{both_ways}
use Rattle.std.proofs.lemmas.Bool.Decides.{eqb_tells}
use Rattle.std.proofs.lemmas.List.{append_cancel_left}
use Rattle.std.proofs.lemmas.Slice.Eq.{bytes_eq-Decides}
use Rattle.std.specs.List.{list_all}
use Rattle.std.specs.Fmt.{decimal}
use Rattle.std.specs.Map.{lookup}
use Rattle.std.specs.Str.{bytes_eq}
use Rattle.tx_base.specs.declared.steps.Call.{Call}
use Rattle.tx_base.specs.declared.steps.Call.TheVariants as call
use Rattle.tx_check.proofs.EndedLines.{some_same}
use Rattle.tx_check.proofs.InLine.{both_true}
use Rattle.tx_check.proofs.ShortLines.{kept, plain_named, plain_words}
use Rattle.tx_check.proofs.ShortWords.{has_plain, is_plain, plain_argument, plain_slot, short_name}
use Rattle.tx_check.specs.Kinds.{front_by, front_word}
use Rattle.tx_check.specs.Right.{SpellsLine}
use Rattle.tx_check.specs.Wrong.{IsNamedNowhere, IsNowhere, IsWordOf, NamesNowhere}
use Rattle.tx_lines.specs.Arguments.{word_of, AllFit, Argument}
use Rattle.tx_lines.specs.Calls.{arguments_of, name_of, program_arguments}
use Rattle.tx_lines.specs.Instructions.{instruction_text, spelled_words, AreSpelled, IsInstruction}
use Rattle.tx_lines.specs.Programs.{label_front, label_in, line_text, linked, linked_to, same_name, with_point, IsLineOf, IsUser}
use Rattle.tx_lines.specs.Words.{first_word, joined, with_front}
use Rattle.tx_lines.specs.declared.instructions.Instruction.{Instruction}
use Rattle.tx_lines.specs.declared.instructions.Line.{Line}
use Rattle.tx_lines.specs.declared.instructions.Line.TheVariants as line
use Rattle.tx_lines.specs.declared.instructions.Name.{Name}
use Rattle.tx_lines.specs.declared.instructions.Spelling.{Spelling}
use Rattle.tx_lines.specs.declared.instructions.Spelling.TheVariants.{Plain, Slot, Label}
use Rattle.tx_lines.specs.declared.read.header.Version.{Version}

-- the bytes before the first space
abbrev up_to_space : List ℕ → List ℕ
up_to_space [] = []
up_to_space (byte ∷ bytes) = if nat_eq byte 32 then [] else byte ∷ up_to_space bytes

-- the word after the first mark of a label
abbrev named : List ℕ → Option (List ℕ)
named [] = None
named (byte ∷ bytes) = if nat_eq byte 64 then Some (up_to_space bytes) else named bytes

not_true : (b : Bool) → not b ≡ true → b ≡ false
not_true true bad = absurd (cc)
not_true false good = refl

-- a plain byte is neither
record IsOther (byte : ℕ) (bytes : List ℕ) : Type 0 where
  space : nat_eq byte 32 ≡ false
  mark : nat_eq byte 64 ≡ false
  later : list_all is_plain bytes ≡ true

other : (byte : ℕ) (bytes : List ℕ) → list_all is_plain (byte ∷ bytes) ≡ true → IsOther byte bytes
other byte bytes plain =
    let parts = both_true (is_plain byte) (list_all is_plain bytes) plain in
    let marks = both_true (not (nat_eq byte 32)) (not (nat_eq byte 64)) (both_true (not (nat_eq byte 10)) (not (nat_eq byte 32) && not (nat_eq byte 64)) parts.0).1 in
    record { space = not_true (nat_eq byte 32) marks.0; mark = not_true (nat_eq byte 64) marks.1; later = parts.1 }

up_to_end : (word : List ℕ) → list_all is_plain word ≡ true → up_to_space word ≡ word
up_to_end [] plain = refl
up_to_end (byte ∷ bytes) plain = let is = other byte bytes plain in rw is.space (ap (λ (t : List ℕ). byte ∷ t) (up_to_end bytes is.later))

up_to_next : (word rest : List ℕ) → list_all is_plain word ≡ true → up_to_space (word ++ 32 ∷ rest) ≡ word
up_to_next [] rest plain = refl
up_to_next (byte ∷ bytes) rest plain = let is = other byte bytes plain in rw is.space (ap (λ (t : List ℕ). byte ∷ t) (up_to_next bytes rest is.later))

none_named : (word : List ℕ) → list_all is_plain word ≡ true → named word ≡ None
none_named [] plain = refl
none_named (byte ∷ bytes) plain = let is = other byte bytes plain in rw is.mark (none_named bytes is.later)

named_later : (word rest : List ℕ) → list_all is_plain word ≡ true → named (word ++ 32 ∷ rest) ≡ named rest
named_later [] rest plain = refl
named_later (byte ∷ bytes) rest plain = let is = other byte bytes plain in rw is.mark (named_later bytes rest is.later)

-- the first word of some
first_joined : (word : List ℕ) (words : List (List ℕ)) → list_all is_plain word ≡ true → up_to_space (joined word words) ≡ word
first_joined word [] plain = up_to_end word plain
first_joined word (next ∷ words) plain = up_to_next word (joined next words) plain

named_first : (name : List ℕ) (words : List (List ℕ)) → list_all is_plain name ≡ true → named (joined (64 ∷ name) words) ≡ Some name
named_first name [] plain = ap Some (up_to_end name plain)
named_first name (next ∷ words) plain = ap Some (up_to_next name (joined next words) plain)

-- the bytes of a name
abbrev name_bytes : Option Name → Option (List ℕ)
name_bytes None = None
name_bytes (Some name) = Some name.bytes.items

named_words : (word : List ℕ) (spellings : List Spelling) (arguments : List Argument) → list_all is_plain word ≡ true → AreSpelled spellings arguments → AllFit arguments → list_all has_plain arguments ≡ true
    → named (joined word (spelled_words spellings arguments)) ≡ name_bytes (label_in spellings)
named_words word [] [] plain are fit holds = none_named word plain
named_words word [] (argument ∷ arguments) plain are fit holds = absurd are
named_words word (spelling ∷ spellings) [] plain are fit holds = absurd are
named_words word (Plain ∷ spellings) (argument ∷ arguments) plain are fit holds =
    let parts = both_true (has_plain argument) (list_all has_plain arguments) holds in
    named_later word (joined (word_of argument) (spelled_words spellings arguments)) plain
    ∙ named_words (word_of argument) spellings arguments (plain_argument argument fit.0 parts.0).plain are.1 fit.1 parts.1
named_words word (Slot slot ∷ spellings) (argument ∷ arguments) plain are fit holds =
    let parts = both_true (has_plain argument) (list_all has_plain arguments) holds in
    named_later word (joined (36 ∷ decimal slot) (spelled_words spellings arguments)) plain
    ∙ named_words (36 ∷ decimal slot) spellings arguments (plain_slot slot are.0.0).plain are.1 fit.1 parts.1
named_words word (Label name ∷ spellings) (argument ∷ arguments) plain are fit holds =
    named_later word (joined (64 ∷ name.bytes.items) (spelled_words spellings arguments)) plain
    ∙ named_first name.bytes.items (spelled_words spellings arguments) (short_name name.bytes.items are.0.0).plain

named_instruction : (version : Version) (instruction : Instruction) → IsInstruction version instruction → named (instruction_text instruction) ≡ name_bytes (label_in instruction.spellings.items)
named_instruction version instruction is =
    let c = instruction.call in
    let spelled = kept (arguments_of c) is.fits (plain_words c) in
    named_words (name_of c) instruction.spellings.items (program_arguments c) (plain_named c) is.spelled spelled.fit spelled.plain

-- the word before the first space is that up to it
front_on : (byte : ℕ) (bytes up : List ℕ) (found : Option (List ℕ × List ℕ)) → front_by bytes found ≡ up → front_by (byte ∷ bytes) (with_front byte found) ≡ byte ∷ up
front_on byte bytes up None e = ap (λ (t : List ℕ). byte ∷ t) e
front_on byte bytes up (Some parts) e = ap (λ (t : List ℕ). byte ∷ t) e

front_is : (line : List ℕ) → front_word line ≡ up_to_space line
front_is [] = refl
front_is (byte ∷ bytes) =
    elim (eqb_tells byte 32) [ inl h ↦ rw h.0 refl | inr h ↦ rw h.0 (front_on byte bytes (up_to_space bytes) (first_word bytes) (front_is bytes)) ]

-- a word after the first one
later_word : (word rest one : List ℕ) → IsWordOf one rest → IsWordOf one (word ++ 32 ∷ rest)
later_word word rest one is = record {
  front = word ++ 32 ∷ is.front;
  rest = is.rest;
  parts = ap (λ (t : List ℕ). word ++ 32 ∷ t) is.parts ∙ sym (append_assoc word (32 ∷ is.front) is.rest);
  same = is.same;
}

marked_first : (name : List ℕ) (words : List (List ℕ)) → list_all is_plain name ≡ true → up_to_space (joined (64 ∷ name) words) ≡ 64 ∷ name
marked_first name [] plain = ap (λ (t : List ℕ). 64 ∷ t) (up_to_end name plain)
marked_first name (next ∷ words) plain = ap (λ (t : List ℕ). 64 ∷ t) (up_to_next name (joined next words) plain)

-- the label that some arguments name is one of their words
word_of_label : (word : List ℕ) (spellings : List Spelling) (arguments : List Argument) (name : Name) → AreSpelled spellings arguments → label_in spellings ≡ Some name
    → IsWordOf (64 ∷ name.bytes.items) (joined word (spelled_words spellings arguments))
word_of_label word [] arguments name are is = absurd (cc)
word_of_label word (spelling ∷ spellings) [] name are is = absurd are
word_of_label word (Plain ∷ spellings) (argument ∷ arguments) name are is =
    later_word word (joined (word_of argument) (spelled_words spellings arguments)) (64 ∷ name.bytes.items) (word_of_label (word_of argument) spellings arguments name are.1 is)
word_of_label word (Slot slot ∷ spellings) (argument ∷ arguments) name are is =
    later_word word (joined (36 ∷ decimal slot) (spelled_words spellings arguments)) (64 ∷ name.bytes.items) (word_of_label (36 ∷ decimal slot) spellings arguments name are.1 is)
word_of_label word (Label label ∷ spellings) (argument ∷ arguments) name are is =
    let same : label ≡ name = cc in
    let rest = joined (64 ∷ label.bytes.items) (spelled_words spellings arguments) in
    let first : front_word rest ≡ 64 ∷ label.bytes.items =
    front_is rest ∙ marked_first label.bytes.items (spelled_words spellings arguments) (short_name label.bytes.items are.0.0).plain in
    later_word word rest (64 ∷ name.bytes.items) (record { front = []; rest = rest; parts = refl; same = ap (λ (n : Name). 64 ∷ n.bytes.items) (sym same) ∙ sym first })

-- a line that names a label that is nowhere has that word
nowhere_in : (version : Version) (text : List ℕ) (one : Line) → IsLineOf version one → IsNamedNowhere text one → NamesNowhere text (line_text one)
nowhere_in version text (line.Label name) is nowhere = absurd nowhere
nowhere_in version text (line.Instruction instruction) is nowhere = by (label_in instruction.spellings.items) refl nowhere
  where
    by : (label : Option Name) → label_in instruction.spellings.items ≡ label → IsNowhere text label → NamesNowhere text (instruction_text instruction)
    by None e nowhere = absurd nowhere
    by (Some name) e nowhere = record {
      name = name.bytes.items;
      named = word_of_label (name_of instruction.call) instruction.spellings.items (program_arguments instruction.call) name is.spelled e;
      nowhere = nowhere;
    }

pub names_nowhere : (version : Version) (text bytes : List ℕ) (spells : SpellsLine version bytes) → IsNamedNowhere text spells.one → NamesNowhere text bytes
names_nowhere version text bytes spells nowhere = subst (λ (t : List ℕ). NamesNowhere text t) (sym spells.spelled) (nowhere_in version text spells.one spells.fits nowhere)

-- no call is named as a label's line begins
unlike_label : (c : Call) → bytes_eq (name_of c) (codes "label") ≡ false
unlike_label (call.Map page) = refl
unlike_label _ = refl

pub no_label : (instruction : Instruction) (name : List ℕ) → instruction_text instruction ≡ label_front ++ name → ⊥
no_label instruction name e =
    let c = instruction.call in
    let words = spelled_words instruction.spellings.items (program_arguments c) in
    let same : name_of c ≡ codes "label" = sym (first_joined (name_of c) words (plain_named c)) ∙ ap up_to_space e in
    both_ways (bytes_eq (name_of c) (codes "label")) (unlike_label c) ((bytes_eq-Decides (name_of c) (codes "label")).1 same)

-- labels of one text have one name
pub same_label : (one other : Name) → line_text (line.Label one) ≡ line_text (line.Label other) → one ≡ other
same_label one other e = ap (λ (items : List ℕ). record { bytes = record { items = items } }) (append_cancel_left label_front one.bytes.items other.bytes.items e)

none_mapped : {A B : Type 0} (f : A → B) (found : Option A) → option_map f found ≡ None → found ≡ None
none_mapped f None e = refl
none_mapped f (Some x) e = absurd (cc)

-- a label that is nowhere for one is nowhere for each that names it
nowhere : (labels : List (Name × ℕ)) (one other : Instruction) (a b : Option Name) → name_bytes a ≡ name_bytes b → linked_to labels one a ≡ None → linked_to labels other b ≡ None
nowhere labels one other None b same none = absurd (cc)
nowhere labels one other (Some name) None same none = absurd (cc)
nowhere labels one other (Some name) (Some twin) same none =
    let bytes = some_same name.bytes.items twin.bytes.items same in
    let found : lookup (same_name name) labels ≡ None =
    none_mapped (λ (point : ℕ). record { call = with_point point one.call; spellings = one.spellings }) (lookup (same_name name) labels) none in
    let absent : lookup (same_name twin) labels ≡ None = ap (λ (items : List ℕ). lookup (λ (label : Name). bytes_eq items label.bytes.items) labels) (sym bytes) ∙ found in
    ap (option_map (λ (point : ℕ). record { call = with_point point other.call; spellings = other.spellings })) absent

pub same_instruction : (one other : Instruction) → line.Instruction one ≡ line.Instruction other → one ≡ other
same_instruction one other e = cc

-- the text of a line says whether its label is nowhere
pub same_user : (version : Version) (labels : List (Name × ℕ)) (one other : Line) → IsLineOf version one → IsLineOf version other → line_text one ≡ line_text other → IsUser labels one → IsUser labels other
same_user version labels (line.Label name) other is are e user = absurd (let bad = user.same in cc)
same_user version labels (line.Instruction one) (line.Label name) is are e user = absurd (no_label one name.bytes.items e)
same_user version labels (line.Instruction one) (line.Instruction other) is are e user =
    let same = same_instruction one user.instruction user.same in
    let none : linked labels one ≡ None = subst (λ (i : Instruction). linked labels i ≡ None) (sym same) user.nowhere in
    let bytes = sym (named_instruction version one is) ∙ ap named e ∙ named_instruction version other are in
    record {
      instruction = other;
      same = refl;
      nowhere = nowhere labels one other (label_in one.spellings.items) (label_in other.spellings.items) bytes none;
    }
