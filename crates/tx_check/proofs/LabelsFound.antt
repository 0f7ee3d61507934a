-- The labels of a program, sought in its text.
use Rattle.std.proofs.Common.{◌≡◌, ◌∙◌, ◌⊎◌, ℕ, zero, suc, ◌+◌, ◌-◌, ◌<◌, Bool, true, false, cond, List, [], ◌∷◌, ◌++◌, Option, Some, None, get_or, length, refl, ap, sym, subst, inl, inr, arith, All}
use Rattle.std.proofs.lemmas.Bool.{cases_lt}
use Rattle.std.proofs.lemmas.List.{append_cancel_left}
use Rattle.std.proofs.lemmas.Map.Keys.{IsDistinct-cons, IsDistinct-head, IsDistinct-tail}
use Rattle.std.proofs.lemmas.Slice.Eq.{bytes_eq-Decides}
use Rattle.std.specs.Fmt.{decimal}
use Rattle.std.specs.List.{AllByRecursion, IsDistinct}
use Rattle.std.specs.Map.{keys_of, lookup}
use Rattle.tx_check.proofs.EndedLines.{after_ended, first_ended}
use Rattle.tx_check.proofs.Growing.{line_among, none_beyond, past_first}
use Rattle.tx_check.proofs.NamedLabels.{no_label}
use Rattle.tx_check.proofs.ShortLines.{short_header}
use Rattle.tx_check.specs.Numbered.{after_lines, behind, behind_by, line_at}
use Rattle.tx_lines.specs.Lines.{header_front, header_text}
use Rattle.tx_lines.specs.Programs.{label_front, labels_from, labels_of, line_text, same_name, IsLineOf}
use Rattle.tx_lines.specs.Schedule.{first_line, lines_of, SpellsHeader}
use Rattle.tx_lines.specs.declared.instructions.Instruction.{Instruction}
use Rattle.tx_lines.specs.declared.instructions.Line.{Line}
use Rattle.tx_lines.specs.declared.instructions.Line.TheVariants as line
use Rattle.tx_lines.specs.declared.instructions.Name.{Name}
use Rattle.tx_lines.specs.declared.read.header.Header.{Header}
use Rattle.tx_lines.specs.declared.read.header.TextKind.TheVariants as texts
use Rattle.tx_lines.specs.declared.read.header.Version.{Version}
use Rattle.tx_lines.specs.declared.read.header.Version.TheVariants.{One, Two}

-- a label of that name is among the lines
pub record IsLabelled (lines : List Line) (name : List ℕ) : Type 0 where
  pub before : List Line
  pub twin : Name
  pub after : List Line
  pub parts : lines ≡ before ++ line.Label twin ∷ after
  pub same : twin.bytes.items ≡ name

-- a text of these lines after a header, and what is left
pub record HasLines (version : Version) (text : List ℕ) (lines : List Line) (left : List ℕ) : Type 0 where
  pub header : Header
  pub spells : SpellsHeader texts.Program text header (lines_of line_text lines ++ left)
  pub fit : All (IsLineOf version) lines

first_byte : (text other : List ℕ) → text ≡ other → get_or text 0 0 ≡ get_or other 0 0
first_byte text other e = ap (λ (t : List ℕ). get_or t 0 0) e

no_header : (version : Version) (count : ℕ) (name : List ℕ) → header_front texts.Program version ++ decimal count ≡ label_front ++ name → ⊥
no_header One count name e = let bad : 116 ≡ 108 = first_byte (header_front texts.Program One ++ decimal count) (label_front ++ name) e in omega (arith, bad)
no_header Two count name e = let bad : 116 ≡ 108 = first_byte (header_front texts.Program Two ++ decimal count) (label_front ++ name) e in omega (arith, bad)

-- the lines of such a text by their numbers
first_is : (version : Version) (text : List ℕ) (lines : List Line) (left : List ℕ) (has : HasLines version text lines left) → first_line text ≡ header_text texts.Program has.header
first_is version text lines left has =
    ap first_line has.spells.spelled ∙ first_ended (header_text texts.Program has.header) (lines_of line_text lines ++ left) (short_header texts.Program has.header has.spells.fits).in_line

pub later_is : (version : Version) (text : List ℕ) (lines : List Line) (left : List ℕ) (count : ℕ) → HasLines version text lines left → after_lines (suc count) text ≡ after_lines count (lines_of line_text lines ++ left)
later_is version text lines left count has =
    past_first count text
    ∙ ap (λ (t : List ℕ). after_lines count (behind t)) has.spells.spelled
    ∙ ap (λ found. after_lines count (behind_by found)) (after_ended (header_text texts.Program has.header) (lines_of line_text lines ++ left) (short_header texts.Program has.header has.spells.fits).in_line)

-- a label among the lines is a line of the text
pub label_at : (version : Version) (text : List ℕ) (before : List Line) (one : Line) (after : List Line) (left : List ℕ) → HasLines version text (before ++ one ∷ after) left → line_at (length before + 2) text ≡ line_text one
label_at version text before one after left has =
    let number : length before + 2 - 1 ≡ suc (length before) = omega arith in
    ap (λ (n : ℕ). first_line (after_lines n text)) number
    ∙ ap first_line (later_is version text (before ++ one ∷ after) left (length before) has)
    ∙ line_among version before one after left has.fit

-- the line of a number
pub record IsSplit (lines : List Line) (count : ℕ) : Type 0 where
  pub before : List Line
  pub one : Line
  pub after : List Line
  pub parts : lines ≡ before ++ one ∷ after
  pub size : length before ≡ count

split : (lines : List Line) (count : ℕ) → count < length lines → IsSplit lines count
split [] count below = absurd (omega (arith, below))
split (one ∷ lines) zero below = record { before = []; one = one; after = lines; parts = refl; size = refl }
split (one ∷ lines) (suc count) below =
    let later = split lines count (omega (arith, below)) in
    record { before = one ∷ later.before; one = later.one; after = later.after; parts = ap (λ (ls : List Line). one ∷ ls) later.parts; size = omega (arith, later.size) }

label_by : (lines before : List Line) (one : Line) (after : List Line) (name : List ℕ) → lines ≡ before ++ one ∷ after → line_text one ≡ label_front ++ name → IsLabelled lines name
label_by lines before (line.Label twin) after name parts same =
    record { before = before; twin = twin; after = after; parts = parts; same = append_cancel_left label_front twin.bytes.items name same }
label_by lines before (line.Instruction instruction) after name parts same = absurd (no_label instruction name same)

-- a line of the text that is a label is among the lines that are read, or after them
pub labelled : (version : Version) (text : List ℕ) (lines : List Line) (left name : List ℕ) (number : ℕ) → HasLines version text lines left → line_at number text ≡ label_front ++ name → (number < length lines + 2) ⊎ (left ≡ []) → IsLabelled lines name
labelled version text lines left name zero has same within =
    absurd (no_header has.header.version has.header.count name (sym (first_is version text lines left has) ∙ same))
labelled version text lines left name (suc zero) has same within =
    absurd (no_header has.header.version has.header.count name (sym (first_is version text lines left has) ∙ same))
labelled version text lines left name (suc (suc count)) has same within =
    let number : suc (suc count) - 1 ≡ suc count = omega arith in
    let here : first_line (after_lines count (lines_of line_text lines ++ left)) ≡ label_front ++ name =
    ap first_line (sym (later_is version text lines left count has)) ∙ ap (λ (n : ℕ). first_line (after_lines n text)) (sym number) ∙ same in
    elim (cases_lt count (length lines)) [
      | inl below ↦
          let found = split lines count below in
          let moved = subst (λ (ls : List Line). HasLines version text ls left) found.parts has in
          let at : first_line (after_lines (length found.before) (lines_of line_text (found.before ++ found.one ∷ found.after) ++ left)) ≡ line_text found.one =
          line_among version found.before found.one found.after left moved.fit in
          let there : line_text found.one ≡ label_front ++ name =
          sym at
          ∙ ap (λ (n : ℕ). first_line (after_lines n (lines_of line_text (found.before ++ found.one ∷ found.after) ++ left))) found.size
          ∙ ap (λ (ls : List Line). first_line (after_lines count (lines_of line_text ls ++ left))) (sym found.parts)
          ∙ here in
          label_by lines found.before found.one found.after name found.parts there
      | inr beyond ↦ elim within [
        | inl few ↦ absurd (omega (arith, few, beyond))
        | inr empty ↦
            let none : after_lines count (lines_of line_text lines ++ left) ≡ [] =
            ap (λ (t : List ℕ). after_lines count (lines_of line_text lines ++ t)) empty ∙ none_beyond version lines count has.fit (λ below. omega (arith, below, beyond)) in
            let bad : [] ≡ label_front ++ name = sym (ap first_line none) ∙ here in
            absurd (cc)
      ]
    ]

-- a label among the lines is found by its name
found_by : (test : Bool) (number : ℕ) (later : Option ℕ) → (test ≡ true) ⊎ ((k : ℕ) × (later ≡ Some k)) → (k : ℕ) × (cond test (Some number) later ≡ Some k)
found_by true number later is = (number, refl)
found_by false number later (inl is) = absurd (cc)
found_by false number later (inr is) = is

pub found_label : (name : Name) (number : ℕ) (before : List Line) (twin : Name) (after : List Line) → twin.bytes.items ≡ name.bytes.items → (k : ℕ) × (lookup (same_name name) (labels_from number (before ++ line.Label twin ∷ after)) ≡ Some k)
found_label name number [] twin after same =
    found_by (same_name name twin) number (lookup (same_name name) (labels_from number after)) (inl ((bytes_eq-Decides name.bytes.items twin.bytes.items).1 (sym same)))
found_label name number (line.Label other ∷ before) twin after same =
    found_by (same_name name other) number (lookup (same_name name) (labels_from number (before ++ line.Label twin ∷ after))) (inr (found_label name number before twin after same))
found_label name number (line.Instruction instruction ∷ before) twin after same = found_label name (number + 1) before twin after same

-- and what is found is among the lines
label_more : (one : Line) (lines : List Line) (name : List ℕ) → IsLabelled lines name → IsLabelled (one ∷ lines) name
label_more one lines name is =
    record { before = one ∷ is.before; twin = is.twin; after = is.after; parts = ap (λ (ls : List Line). one ∷ ls) is.parts; same = is.same }

label_found : (name : Name) (number : ℕ) (lines : List Line) (k : ℕ) → lookup (same_name name) (labels_from number lines) ≡ Some k → IsLabelled lines name.bytes.items
label_found name number [] k e = absurd (cc)
label_found name number (line.Instruction instruction ∷ lines) k e = label_more (line.Instruction instruction) lines name.bytes.items (label_found name (number + 1) lines k e)
label_found name number (line.Label twin ∷ lines) k e = by (same_name name twin) refl (label_found name number lines k) e
  where
    by : (test : Bool) → same_name name twin ≡ test → (lookup (same_name name) (labels_from number lines) ≡ Some k → IsLabelled lines name.bytes.items) → cond test (Some number) (lookup (same_name name) (labels_from number lines)) ≡ Some k
        → IsLabelled (line.Label twin ∷ lines) name.bytes.items
    by true is later e = record { before = []; twin = twin; after = lines; parts = refl; same = sym ((bytes_eq-Decides name.bytes.items twin.bytes.items).0 is) }
    by false is later e = label_more (line.Label twin) lines name.bytes.items (later e)

none_by : (found : Option ℕ) → ((k : ℕ) → found ≡ Some k → ⊥) → found ≡ None
none_by None none = refl
none_by (Some k) none = absurd (none k refl)

pub none_labelled : (name : Name) (lines : List Line) → (IsLabelled lines name.bytes.items → ⊥) → lookup (same_name name) (labels_of lines) ≡ None
none_labelled name lines none = none_by (lookup (same_name name) (labels_of lines)) (λ k e. none (label_found name 0 lines k e))

-- distinct labels stay so with a new one
none_parts : (test : Bool) (number : ℕ) (later : Option ℕ) → cond test (Some number) later ≡ None → (test ≡ false) × (later ≡ None)
none_parts true number later e = absurd (cc)
none_parts false number later e = (refl, e)

turned : (name twin : Name) → same_name name twin ≡ false → same_name twin name ≡ false
turned name twin other = by (same_name twin name) refl
  where
    by : (test : Bool) → same_name twin name ≡ test → test ≡ false
    by false is = refl
    by true is = let same = (bytes_eq-Decides name.bytes.items twin.bytes.items).1 (sym ((bytes_eq-Decides twin.bytes.items name.bytes.items).0 is)) in absurd (cc)

apart_last : (label name : Name) (at : ℕ) (labels : List (Name × ℕ)) → AllByRecursion (λ other. same_name label other ≡ false) (keys_of labels) → same_name label name ≡ false → AllByRecursion (λ other. same_name label other ≡ false) (keys_of (labels ++ (name, at) ∷ []))
apart_last label name at [] all other = (other, tt)
apart_last label name at (first ∷ labels) all other = (all.0, apart_last label name at labels all.1 other)

distinct_one : (name : Name) → IsDistinct same_name (name ∷ [])
unfolding IsDistinct
distinct_one name = (tt, tt)

distinct_last : (labels : List (Name × ℕ)) (name : Name) (at : ℕ) → IsDistinct same_name (keys_of labels) → lookup (same_name name) labels ≡ None → IsDistinct same_name (keys_of (labels ++ (name, at) ∷ []))
distinct_last [] name at distinct none = distinct_one name
distinct_last (label ∷ labels) name at distinct none =
    let parts = none_parts (same_name name label.0) label.1 (lookup (same_name name) labels) none in
    IsDistinct-cons same_name label.0 (keys_of (labels ++ (name, at) ∷ []))
    (apart_last label.0 name at labels (IsDistinct-head same_name label.0 (keys_of labels) distinct) (turned name label.0 parts.0))
    (distinct_last labels name at (IsDistinct-tail same_name label.0 (keys_of labels) distinct) parts.1)

label_last : (number : ℕ) (lines : List Line) (name : Name) → (at : ℕ) × (labels_from number (lines ++ line.Label name ∷ []) ≡ labels_from number lines ++ (name, at) ∷ [])
label_last number [] name = (number, refl)
label_last number (line.Label other ∷ lines) name = let on = label_last number lines name in (on.0, ap (λ (labels : List (Name × ℕ)). (other, number) ∷ labels) on.1)
label_last number (line.Instruction instruction ∷ lines) name = label_last (number + 1) lines name

instruction_last : (number : ℕ) (lines : List Line) (instruction : Instruction) → labels_from number (lines ++ line.Instruction instruction ∷ []) ≡ labels_from number lines
instruction_last number [] instruction = refl
instruction_last number (line.Label other ∷ lines) instruction = ap (λ (labels : List (Name × ℕ)). (other, number) ∷ labels) (instruction_last number lines instruction)
instruction_last number (line.Instruction other ∷ lines) instruction = instruction_last (number + 1) lines instruction

pub distinct_more : (lines : List Line) (one : Line) → IsDistinct same_name (keys_of (labels_of lines)) → ((name : List ℕ) → line_text one ≡ label_front ++ name → IsLabelled lines name → ⊥)
    → IsDistinct same_name (keys_of (labels_of (lines ++ one ∷ [])))
distinct_more lines (line.Label name) distinct once =
    let last = label_last 0 lines name in
    subst (λ (labels : List (Name × ℕ)). IsDistinct same_name (keys_of labels)) (sym last.1)
    (distinct_last (labels_of lines) name last.0 distinct (none_labelled name lines (once name.bytes.items refl)))
distinct_more lines (line.Instruction instruction) distinct once =
    subst (λ (labels : List (Name × ℕ)). IsDistinct same_name (keys_of labels)) (sym (instruction_last 0 lines instruction)) distinct
