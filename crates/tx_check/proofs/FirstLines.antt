-- A header is read from only the first line of a text.
use Rattle.std.proofs.Common.{◌≡◌, ◌∙◌, List, ℕ, [], ◌∷◌, ◌++◌, Some, true, is_some, length, inl, inr, refl, ap, arith, subst, sym}
use Rattle.std.proofs.lemmas.Bool.Decides.{eqb_tells}
use Rattle.tx_check.specs.Numbered.{behind}
use Rattle.tx_check.proofs.EndedLines.{first_ended}
use Rattle.tx_check.proofs.Growing.{spelled_on}
use Rattle.tx_check.proofs.NextLines.{some_after}
use Rattle.tx_check.proofs.ShortLines.{short_header}
use Rattle.tx_lines.specs.Lines.{header_text}
use Rattle.tx_lines.specs.Schedule.{after_line, first_line, FaultsAtHeader, IsNoHeader, SpellsHeader}
use Rattle.tx_lines.specs.declared.faults.Fault.{Fault}
use Rattle.tx_lines.specs.declared.faults.Fault.TheVariants.{NotALine, TooLong}
use Rattle.tx_lines.specs.declared.read.header.Header.{Header}
use Rattle.tx_lines.specs.declared.read.header.TextKind.{TextKind}

-- the first line of a text is that of itself and its end
first_again : (text rest : List ℕ) → first_line (first_line text ++ 10 ∷ rest) ≡ first_line text
first_again [] rest = refl
first_again (byte ∷ bytes) rest =
    elim (eqb_tells byte 10) [ inl h ↦ rw h.0 refl | inr h ↦ rw (h.0, h.0) (ap (λ (t : List ℕ). byte ∷ t) (first_again bytes rest)) ]

after_again : (text rest : List ℕ) → after_line (first_line text ++ 10 ∷ rest) ≡ Some rest
after_again [] rest = refl
after_again (byte ∷ bytes) rest =
    elim (eqb_tells byte 10) [ inl h ↦ rw h.0 refl | inr h ↦ rw (h.0, h.0) (after_again bytes rest) ]

pub header_spelled : (kind : TextKind) (text head left rest : List ℕ) (header : Header) → head ≡ first_line text ++ 10 ∷ [] → is_some (after_line text) ≡ true → left ≡ behind text → SpellsHeader kind head header rest →
    SpellsHeader kind text header left
header_spelled kind text head left rest header is ended on spells =
    let short = short_header kind header spells.fits in
    let first : first_line head ≡ header_text kind header = ap first_line spells.spelled ∙ first_ended (header_text kind header) rest short.in_line in
    let same : first_line text ≡ header_text kind header = sym (ap first_line is ∙ first_again text []) ∙ first in
    record {
      spelled = spelled_on text (header_text kind header) ended same ∙ ap (λ (r : List ℕ). header_text kind header ++ 10 ∷ r) (sym on);
      fits = spells.fits;
    }

pub header_wrong : (kind : TextKind) (text head : List ℕ) (fault : Fault) → head ≡ first_line text ++ 10 ∷ [] → FaultsAtHeader kind head fault → FaultsAtHeader kind text fault
header_wrong kind text head (TooLong line) is wrong = (wrong.0, omega (arith, wrong.1, ap length (ap first_line is ∙ first_again text [])))
header_wrong kind text head (NotALine line) is wrong =
    let same : first_line head ≡ first_line text = ap first_line is ∙ first_again text [] in (
      wrong.0,
      omega (arith, wrong.1, ap length same),
      elim wrong.2 [
        | inl none ↦ absurd (some_after head [] (ap after_line is ∙ after_again text []) none)
        | inr other ↦ inr (subst (IsNoHeader kind) same other)
      ],
    )
header_wrong kind text head _ is wrong = absurd wrong
