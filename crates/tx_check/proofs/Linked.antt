-- The labels that the lines of a program name: which are nowhere, and what is linked so far.
use Rattle.std.proofs.Common.{◌≡◌, ◌≢◌, ◌∙◌, ℕ, ◌+◌, ◌≤◌, List, [], ◌∷◌, ◌++◌, Option, Some, None, length, length-append, map, refl, ap, sym, subst, inr, arith, All, append-nil, append_assoc}
use Rattle.std.specs.Map.{lookup}
use Rattle.tx_check.proofs.EndedLines.{all_at}
use Rattle.tx_check.proofs.Growing.{first_of, next_after}
use Rattle.tx_check.proofs.LabelsFound.{found_label, label_at, labelled, none_labelled, HasLines, IsLabelled}
use Rattle.tx_check.proofs.ReadTexts.{program_read}
use Rattle.tx_check.specs.AfterHeader.{AreProgramLines}
use Rattle.tx_check.specs.Numbered.{behind, line_at}
use Rattle.tx_check.specs.Reads.{IsAtFault, IsRead}
use Rattle.tx_check.specs.Wrong.{IsNamedNowhere, IsNowhere}
use Rattle.tx_check.specs.declared.kinds.Kind.TheVariants as kinds
use Rattle.tx_lines.specs.Programs.{instructions_of, label_front, label_in, labels_of, line_text, linked, linked_line, linked_to, same_name, with_point, AreLines, IsLineOf, IsUser}
use Rattle.tx_lines.specs.Schedule.{first_line, lines_of, SpellsHeader}
use Rattle.tx_lines.specs.declared.faults.Fault.TheVariants.{NoLabel}
use Rattle.tx_lines.specs.declared.instructions.Instruction.{Instruction}
use Rattle.tx_lines.specs.declared.instructions.Line.{Line}
use Rattle.tx_lines.specs.declared.instructions.Line.TheVariants as line
use Rattle.tx_lines.specs.declared.instructions.Name.{Name}
use Rattle.tx_lines.specs.declared.read.header.Header.{Header}
use Rattle.tx_lines.specs.declared.read.header.TextKind.TheVariants as texts
use Rattle.tx_lines.specs.declared.read.header.Version.{Version}

-- the lines that are linked, and those that are left
pub record LinkedSoFar (version : Version) (rest : List ℕ) (number : ℕ) (left : List ℕ) : Type 0 where
  pub before : List Line
  pub after : List Line
  pub are : AreLines version (before ++ after)
  pub spelled : rest ≡ lines_of line_text (before ++ after)
  pub left_is : left ≡ lines_of line_text after
  pub at : number ≡ length before + 2
  pub made : List Instruction
  pub linked_before : map (linked (labels_of (before ++ after))) (instructions_of before) ≡ map Some made

pub linked_first : (version : Version) (rest : List ℕ) → AreProgramLines version rest → LinkedSoFar version rest 2 rest
linked_first version rest all =
    record { before = []; after = all.lines; are = all.are; spelled = all.spelled; left_is = all.spelled; at = refl; made = []; linked_before = refl }

-- the next line
pub record IsNextLine (version : Version) (after : List Line) (left : List ℕ) : Type 0 where
  pub one : Line
  pub more : List Line
  pub parts : after ≡ one ∷ more
  pub first : first_line left ≡ line_text one
  pub later : behind left ≡ lines_of line_text more
  pub good : IsLineOf version one

next_by : (version : Version) (before after : List Line) (left : List ℕ) → All (IsLineOf version) (before ++ after) → left ≡ lines_of line_text after → left ≢ [] → IsNextLine version after left
next_by version before [] left fit is some = absurd (some is)
next_by version before (one ∷ more) left fit is some =
    let good = all_at (IsLineOf version) before one more fit in
    let whole : left ≡ lines_of line_text (one ∷ more) ++ [] = is ∙ sym (append-nil (lines_of line_text (one ∷ more))) in
    record {
      one = one;
      more = more;
      parts = refl;
      first = ap first_line whole ∙ first_of version one more [] good;
      later = ap behind whole ∙ next_after version one more [] good ∙ append-nil (lines_of line_text more);
      good = good;
    }

pub next_line : (version : Version) (rest : List ℕ) (number : ℕ) (left : List ℕ) (so : LinkedSoFar version rest number left) → left ≢ [] → IsNextLine version so.after left
next_line version rest number left so some = next_by version so.before so.after left so.are.fit so.left_is some

pub has_all : (version : Version) (text rest : List ℕ) (header : Header) (lines : List Line) → SpellsHeader texts.Program text header rest → AreLines version lines → rest ≡ lines_of line_text lines → HasLines version text lines []
has_all version text rest header lines spells are spelled = record {
  header = header;
  spells = subst (λ (r : List ℕ). SpellsHeader texts.Program text header r) (spelled ∙ sym (append-nil (lines_of line_text lines))) spells;
  fit = are.fit;
}

-- a label that no line is, and that is not found
no_line_is : (version : Version) (text : List ℕ) (lines : List Line) (name : Name) → HasLines version text lines [] → ((number : ℕ) → line_at number text ≢ label_front ++ name.bytes.items) → IsLabelled lines name.bytes.items → ⊥
no_line_is version text lines name has nowhere is =
    nowhere (length is.before + 2)
    (label_at version text is.before (line.Label is.twin) is.after [] (subst (λ (ls : List Line). HasLines version text ls []) is.parts has) ∙ ap (λ (t : List ℕ). label_front ++ t) is.same)

not_linked : (version : Version) (text : List ℕ) (lines : List Line) (instruction : Instruction) (label : Option Name) → HasLines version text lines [] → IsNowhere text label → linked_to (labels_of lines) instruction label ≡ None
not_linked version text lines instruction None has nowhere = absurd nowhere
not_linked version text lines instruction (Some name) has nowhere =
    let none = none_labelled name lines (no_line_is version text lines name has nowhere) in
    rw none refl

is_user : (version : Version) (text : List ℕ) (lines : List Line) (one : Line) → HasLines version text lines [] → IsNamedNowhere text one → IsUser (labels_of lines) one
is_user version text lines (line.Label name) has nowhere = absurd nowhere
is_user version text lines (line.Instruction instruction) has nowhere =
    record { instruction = instruction; same = refl; nowhere = not_linked version text lines instruction (label_in instruction.spellings.items) has nowhere }

found_none : (version : Version) (text : List ℕ) (lines : List Line) (name : Name) → HasLines version text lines [] → lookup (same_name name) (labels_of lines) ≡ None → IsNowhere text (Some name)
found_none version text lines name has none = λ number same.
    let is = labelled version text lines [] name.bytes.items number has same (inr refl) in
    let found = found_label name 0 is.before is.twin is.after is.same in
    let there : lookup (same_name name) (labels_of lines) ≡ Some found.0 =
    ap (λ (ls : List Line). lookup (same_name name) (labels_of ls)) is.parts ∙ found.1 in
    let bad : None ≡ Some found.0 = sym none ∙ there in
    absurd (cc)

is_linked : (version : Version) (text : List ℕ) (lines : List Line) (instruction : Instruction) (label : Option Name) → HasLines version text lines [] → (IsNowhere text label → ⊥) → (made : Instruction) × (linked_to (labels_of lines) instruction label ≡ Some made)
is_linked version text lines instruction None has there = (instruction, refl)
is_linked version text lines instruction (Some name) has there = by (lookup (same_name name) (labels_of lines)) refl
  where
    by : (found : Option ℕ) → lookup (same_name name) (labels_of lines) ≡ found → (made : Instruction) × (linked_to (labels_of lines) instruction (Some name) ≡ Some made)
    by None is = absurd (there (found_none version text lines name has is))
    by (Some point) is = (record { call = with_point point instruction.call; spellings = instruction.spellings }, rw is refl)

-- the label of a line that is not linked is nowhere
nowhere_by : (version : Version) (text : List ℕ) (lines : List Line) (instruction : Instruction) (label : Option Name) → HasLines version text lines []
    → linked_to (labels_of lines) instruction label ≡ None → IsNowhere text label
nowhere_by version text lines instruction None has none = absurd (cc)
nowhere_by version text lines instruction (Some name) has none = found_none version text lines name has (by (lookup (same_name name) (labels_of lines)) refl)
  where
    by : (found : Option ℕ) → lookup (same_name name) (labels_of lines) ≡ found → found ≡ None
    by None is = refl
    by (Some point) is =
        let there : linked_to (labels_of lines) instruction (Some name) ≡ Some (record { call = with_point point instruction.call; spellings = instruction.spellings }) = rw is refl in
        absurd (cc)

pub user_nowhere : (version : Version) (text : List ℕ) (lines : List Line) (user : Line) → HasLines version text lines [] → IsUser (labels_of lines) user → IsNamedNowhere text user
user_nowhere version text lines user has is =
    subst (IsNamedNowhere text) (sym is.same) (nowhere_by version text lines is.instruction (label_in is.instruction.spellings.items) has is.nowhere)

-- one line more
linked_more : (labels : List (Name × ℕ)) (lines : List Line) (one : Line) → map (linked labels) (instructions_of (lines ++ one ∷ [])) ≡ map (linked labels) (instructions_of lines) ++ linked_line labels one
linked_more labels [] (line.Label name) = refl
linked_more labels [] (line.Instruction instruction) = refl
linked_more labels (line.Label other ∷ lines) one = linked_more labels lines one
linked_more labels (line.Instruction other ∷ lines) one = ap (λ (made : List (Option Instruction)). linked labels other ∷ made) (linked_more labels lines one)

some_last : (made : List Instruction) (one : Instruction) → map Some made ++ Some one ∷ [] ≡ map Some (made ++ one ∷ [])
some_last [] one = refl
some_last (first ∷ made) one = ap (λ (ms : List (Option Instruction)). Some first ∷ ms) (some_last made one)

made_more : (version : Version) (text : List ℕ) (lines before : List Line) (one : Line) (made : List Instruction) → HasLines version text lines [] → (IsNamedNowhere text one → ⊥) → map (linked (labels_of lines)) (instructions_of before) ≡ map Some made
    → (more : List Instruction) × (map (linked (labels_of lines)) (instructions_of (before ++ one ∷ [])) ≡ map Some more)
made_more version text lines before (line.Label name) made has there is =
    (made, linked_more (labels_of lines) before (line.Label name) ∙ append-nil (map (linked (labels_of lines)) (instructions_of before)) ∙ is)
made_more version text lines before (line.Instruction instruction) made has there is =
    let found = is_linked version text lines instruction (label_in instruction.spellings.items) has there in (
      made ++ found.0 ∷ [],
      linked_more (labels_of lines) before (line.Instruction instruction)
          ∙ ap (λ (ms : List (Option Instruction)). ms ++ linked (labels_of lines) instruction ∷ []) is
          ∙ ap (λ (m : Option Instruction). map Some made ++ m ∷ []) found.1
          ∙ some_last made found.0,
    )

pub linked_next : (version : Version) (text rest : List ℕ) (header : Header) (number : ℕ) (left : List ℕ) (so : LinkedSoFar version rest number left) (next : IsNextLine version so.after left) → SpellsHeader texts.Program text header rest
    → (IsNamedNowhere text next.one → ⊥) → LinkedSoFar version rest (number + 1) (behind left)
linked_next version text rest header number left so next spells there =
    let whole : so.before ++ so.after ≡ (so.before ++ next.one ∷ []) ++ next.more =
    ap (λ (ls : List Line). so.before ++ ls) next.parts ∙ sym (append_assoc so.before (next.one ∷ []) next.more) in
    let has = has_all version text rest header (so.before ++ so.after) spells so.are so.spelled in
    let more = made_more version text (so.before ++ so.after) so.before next.one so.made has there so.linked_before in
    record {
      before = so.before ++ next.one ∷ [];
      after = next.more;
      are = subst (AreLines version) whole so.are;
      spelled = so.spelled ∙ ap (lines_of line_text) whole;
      left_is = next.later;
      at = omega (arith, so.at, length-append so.before (next.one ∷ []));
      made = more.0;
      linked_before = subst (λ (ls : List Line). map (linked (labels_of ls)) (instructions_of (so.before ++ next.one ∷ [])) ≡ map Some more.0) whole more.1;
    }

pub linked_fault : (text rest : List ℕ) (header : Header) (number : ℕ) (left : List ℕ) (so : LinkedSoFar header.version rest number left) (next : IsNextLine header.version so.after left) → SpellsHeader texts.Program text header rest
    → IsNamedNowhere text next.one → IsAtFault kinds.Program text (NoLabel number)
linked_fault text rest header number left so next spells nowhere =
    let has = has_all header.version text rest header (so.before ++ so.after) spells so.are so.spelled in
    inr (
      header,
      rest,
      spells,
      record {
        lines = so.before ++ so.after;
        good = so.are;
        spelled = so.spelled;
        first = record {
          before = so.before;
          user = next.one;
          after = next.more;
          parts = ap (λ (ls : List Line). so.before ++ ls) next.parts;
          linked_before = (so.made, so.linked_before);
          nowhere = is_user header.version text (so.before ++ so.after) next.one has nowhere;
          same = so.at;
        };
      },
    )

-- nothing is left
none_after : (after : List Line) → [] ≡ lines_of line_text after → after ≡ []
none_after [] e = refl
none_after (one ∷ after) e = absurd (omega (arith, ap length e, length-append (line_text one) (10 ∷ lines_of line_text after)))

pub linked_all : (text : List ℕ) (header : Header) (rest : List ℕ) (number : ℕ) (left : List ℕ) → SpellsHeader texts.Program text header rest → left ≡ [] → LinkedSoFar header.version rest number left → IsRead kinds.Program text
linked_all text header rest number left spells none so =
    let whole : so.before ≡ so.before ++ so.after =
    sym (append-nil so.before) ∙ ap (λ (ls : List Line). so.before ++ ls) (sym (none_after so.after (sym none ∙ so.left_is))) in
    program_read text header rest (record { lines = so.before ++ so.after; are = so.are; spelled = so.spelled }) so.made spells
    (ap (λ (ls : List Line). map (linked (labels_of (so.before ++ so.after))) (instructions_of ls)) (sym whole) ∙ so.linked_before)

-- the lines with what is left
pub few_linked : (version : Version) (rest : List ℕ) (number : ℕ) (left : List ℕ) (so : LinkedSoFar version rest number left) → number ≤ length (so.before ++ so.after) + 2
few_linked version rest number left so = omega (arith, so.at, length-append so.before so.after)
