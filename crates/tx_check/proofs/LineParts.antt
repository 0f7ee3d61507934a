-- The parts of a line, and the lines after the last one.
use Rattle.std.proofs.Common.{◌≡◌, ◌≢◌, ◌∙◌, ℕ, ◌+◌, ◌-◌, ◌<◌, Bool, true, List, [], ◌∷◌, ◌++◌, IsTrue, length, take, drop, take-append-drop, length-drop, ap, sym, inl, inr, arith}
use Rattle.std.proofs.lemmas.Slice.Eq.{bytes_eq-Decides}
use Rattle.std.proofs.lemmas.Bool.{cases_lt}
use Rattle.std.proofs.lemmas.List.{take_all}
use Rattle.std.specs.Str.{bytes_eq}
use Rattle.tx_check.proofs.Growing.{none_left}
use Rattle.tx_check.proofs.OwnLines.{lines_after}
use Rattle.tx_check.specs.Numbered.{after_lines, line_at}
use Rattle.tx_check.specs.Contexts.{begins_label}
use Rattle.tx_lines.specs.Programs.{label_front}
use Rattle.tx_lines.specs.Schedule.{first_line}

-- a line that begins as a label's is that of the name that follows
pub label_parts : (line : List ℕ) → begins_label line ≡ true → line ≡ label_front ++ drop 6 line
label_parts line begins = sym (take-append-drop 6 line) ∙ ap (λ (t : List ℕ). t ++ drop 6 line) ((bytes_eq-Decides (take 6 line) label_front).0 begins)

pub label_of : (line name : List ℕ) (test : Bool) → begins_label line ≡ true → test ≡ bytes_eq (take (length line - 6) (drop 6 line)) name → (IsTrue test → line ≡ label_front ++ name) × (line ≡ label_front ++ name → IsTrue test)
label_of line name test begins is =
    let whole : take (length line - 6) (drop 6 line) ≡ drop 6 line = take_all (length line - 6) (drop 6 line) (omega (arith, length-drop 6 line)) in
    let decides = bytes_eq-Decides (take (length line - 6) (drop 6 line)) name in (
      λ same. label_parts line begins ∙ ap (λ (t : List ℕ). label_front ++ t) (sym whole ∙ decides.0 (sym is ∙ same)),
      λ same. is ∙ decides.1 (whole ∙ ap (drop 6) same),
    )

-- no line is that label where none of the first lines is, and no other is there
pub no_other : (text left name : List ℕ) (passed : ℕ) → left ≡ after_lines passed text → length left ≡ 0 → ((k : ℕ) → k < passed → first_line (after_lines k text) ≢ label_front ++ name)
    → (number : ℕ) → line_at number text ≢ label_front ++ name
no_other text [] name passed at none others number e =
    elim (cases_lt (number - 1) passed) [
      | inr later ↦
          let sum : (number - 1 - passed) + passed ≡ number - 1 = omega (arith, later) in
          let empty : after_lines (number - 1) text ≡ [] =
          ap (λ (n : ℕ). after_lines n text) (sym sum) ∙ sym (lines_after (number - 1 - passed) passed text) ∙ ap (after_lines (number - 1 - passed)) (sym at) ∙ none_left (number - 1 - passed) in
          let bad : [] ≡ label_front ++ name = sym (ap first_line empty) ∙ e in
          absurd (cc)
      | inl before ↦ others (number - 1) before e
    ]
no_other text (byte ∷ left) name passed at none others number e = absurd (omega (arith, none))
