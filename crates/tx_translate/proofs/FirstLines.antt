-- The lines of a text mean steps, commands or lines of a program, one after another.
use Rattle.std.proofs.Common.{◌≡◌, ◌∙◌, ℕ, ◌+◌, ◌≤◌, true, List, [], ◌∷◌, ◌++◌, Option, Some, None, is_some, length, refl, sym, ap, append_assoc, arith}
use Rattle.std.specs.List.{IsDistinct}
use Rattle.std.specs.Map.{keys_of}
use Rattle.tx_lines.proofs.Growing.{all_more, text_more}
use Rattle.tx_lines.proofs.LineEnds.{line_parts}
use Rattle.tx_lines.proofs.ProgramParts.{counts}
use Rattle.tx_lines.specs.Lines.{header_text, FitsHeader}
use Rattle.tx_lines.specs.Programs.{labels_of, line_text, same_name, AreLines, IsLineOf}
use Rattle.tx_lines.specs.Schedule.{after_line, Adds, SpellsHeader}
use Rattle.tx_lines.specs.declared.instructions.Line.{Line}
use Rattle.tx_lines.specs.declared.read.header.Header.{Header}
use Rattle.tx_lines.specs.declared.read.header.TextKind.{TextKind}
use Rattle.tx_lines.specs.declared.read.header.Version.{Version}
use Rattle.tx_translate.specs.FirstLines.{IsBefore}
use Rattle.tx_translate.specs.MeantLines.{behind, behind_by, line_of, IsNextLine}
use Rattle.tx_translate.specs.declared.meant_lines.OwnLine.{OwnLine}

some_after : (after : Option (List ℕ)) → true ≡ is_some after → after ≡ Some (behind_by after)
some_after None is = absurd (cc)
some_after (Some rest) is = refl

-- what is left begins with the line that is split off
pub next_left : (left : List ℕ) (line : OwnLine) (rest : List ℕ) → IsNextLine left line rest → line.is_ended ≡ true → left ≡ line_of line ++ 10 ∷ rest
next_left left line rest is ended =
    line_parts left (behind left) (some_after (after_line left) (sym ended ∙ is.ended)) ∙ ap (λ (t : List ℕ). t ++ 10 ∷ behind left) (sym is.bytes)
    ∙ ap (λ (t : List ℕ). line_of line ++ 10 ∷ t) (sym is.behind)

-- the header of the first line
pub spells_header : (kind : TextKind) (text : List ℕ) (header : Header) (line : OwnLine) (rest : List ℕ) → IsNextLine text line rest → line.is_ended ≡ true → FitsHeader header
    → header_text kind header ++ 10 ∷ [] ≡ line_of line ++ 10 ∷ [] → SpellsHeader kind text header rest
spells_header kind text header line rest is ended fits same = record {
  spelled = next_left text line rest is ended ∙ sym (append_assoc (line_of line) (10 ∷ []) rest) ∙ ap (λ (t : List ℕ). t ++ rest) (sym same)
      ∙ append_assoc (header_text kind header) (10 ∷ []) rest;
  fits = fits;
}

-- one line more
pub one_more : {A : Type 0} (spelling : A → List ℕ) (AreGood : List A → Type 0) (IsGood : A → Type 0) (taken more : List A) (line : OwnLine) (left rest text : List ℕ) → IsBefore spelling AreGood taken left text
    → IsNextLine left line rest → line.is_ended ≡ true → Adds spelling IsGood (line_of line) taken more → AreGood more → IsBefore spelling AreGood more rest text
one_more spelling AreGood IsGood taken more line left rest text so is ended adds good = record {
  good = good;
  parts = text_more spelling taken adds.added more text left rest so.parts (next_left left line rest is ended ∙ ap (λ (t : List ℕ). t ++ 10 ∷ rest) adds.spelled) adds.more;
}

-- lines of a program with one more, of which there are not too many
pub program_lines : (version : Version) (line : List ℕ) (lines more : List Line) (count labels : ℕ) → AreLines version lines → Adds line_text (IsLineOf version) line lines more
    → IsDistinct same_name (keys_of (labels_of more)) → count ≡ length more → labels ≡ length (labels_of more) → labels ≤ 256 → count ≤ 1024 + labels → AreLines version more
program_lines version line lines more count labels are adds distinct all of few_labels few = record {
  fit = all_more (IsLineOf version) lines adds.added more are.fit adds.good adds.more;
  few_instructions = omega (arith, counts more, all, of, few);
  few_labels = omega (arith, of, few_labels);
  distinct = distinct;
}
