-- The next line of a kind: where it is right it is not at fault, and it has one fault at most.
use Rattle.std.proofs.Common.{◌≡◌, ◌∙◌, ◌<◌, ◌≤◌, ℕ, List, Some, None, length, ap, sym, inl, inr, arith}
use Rattle.tx_lines.specs.Lines.{header_text, FitsHeader}
use Rattle.tx_lines.specs.Schedule.{after_line, first_line, FaultsAtHeader, FaultsAtNext, SpellsHeader}
use Rattle.tx_lines.specs.declared.faults.Fault.{Fault}
use Rattle.tx_lines.specs.declared.faults.Fault.TheVariants.{NotALine, TooLong}
use Rattle.tx_lines.specs.declared.read.header.Header.{Header}
use Rattle.tx_lines.specs.declared.read.header.TextKind.{TextKind}
use Rattle.tx_check.proofs.EndedLines.{after_ended, first_ended}
use Rattle.tx_check.proofs.ShortLines.{short_header}

-- a line is there that is right
pub record IsRight (IsNone : List ℕ → Type 0) (rest : List ℕ) : Type 0 where
  pub short : length (first_line rest) ≤ 512
  pub ended : (after_line rest ≡ None) → ⊥
  pub some : IsNone (first_line rest) → ⊥

pub some_after : (rest behind : List ℕ) → after_line rest ≡ Some behind → (after_line rest ≡ None) → ⊥
some_after rest behind e none = absurd (cc)

-- after fewer lines than there may be
pub next_right : (number : ℕ) (IsNone : List ℕ → Type 0) (count : ℕ) (rest : List ℕ) (fault : Fault) → IsRight IsNone rest → count < 4096 → FaultsAtNext number IsNone count rest fault → ⊥
next_right number IsNone count rest (TooLong line) right few is =
    let short = right.short in
    elim is.1 [ inl long ↦ omega (arith, long, short) | inr full ↦ omega (arith, full, few) ]
next_right number IsNone count rest (NotALine line) right few is = elim is.3 [ inl none ↦ right.ended none | inr other ↦ right.some other ]
next_right number IsNone count rest _ right few is = is

pub next_once : (number : ℕ) (IsNone : List ℕ → Type 0) (count : ℕ) (rest : List ℕ) (a b : Fault) → FaultsAtNext number IsNone count rest a → FaultsAtNext number IsNone count rest b → a ≡ b
next_once number IsNone count rest (TooLong line) (TooLong other) first second = ap TooLong (first.0 ∙ sym second.0)
next_once number IsNone count rest (TooLong line) (NotALine other) first second =
    elim first.1 [ inl long ↦ absurd (omega (arith, long, second.1)) | inr full ↦ absurd (omega (arith, full, second.2)) ]
next_once number IsNone count rest (NotALine line) (TooLong other) first second =
    elim second.1 [ inl long ↦ absurd (omega (arith, long, first.1)) | inr full ↦ absurd (omega (arith, full, first.2)) ]
next_once number IsNone count rest (NotALine line) (NotALine other) first second = ap NotALine (first.0 ∙ sym second.0)
next_once number IsNone count rest (TooLong line) b first second = absurd second
next_once number IsNone count rest (NotALine line) b first second = absurd second
next_once number IsNone count rest _ b first second = absurd first

-- headers
pub header_once : (kind : TextKind) (text : List ℕ) (a b : Fault) → FaultsAtHeader kind text a → FaultsAtHeader kind text b → a ≡ b
header_once kind text (TooLong line) (TooLong other) first second = ap TooLong (first.0 ∙ sym second.0)
header_once kind text (TooLong line) (NotALine other) first second = absurd (omega (arith, first.1, second.1))
header_once kind text (NotALine line) (TooLong other) first second = absurd (omega (arith, first.1, second.1))
header_once kind text (NotALine line) (NotALine other) first second = ap NotALine (first.0 ∙ sym second.0)
header_once kind text (TooLong line) b first second = absurd second
header_once kind text (NotALine line) b first second = absurd second
header_once kind text _ b first second = absurd first

header_by : (kind : TextKind) (text : List ℕ) (header : Header) (fault : Fault) → FitsHeader header → first_line text ≡ header_text kind header → length (header_text kind header) ≤ 512
    → ((after_line text ≡ None) → ⊥) → FaultsAtHeader kind text fault → ⊥
header_by kind text header (TooLong line) fits first few ended is = omega (arith, ap length first, few, is.1)
header_by kind text header (NotALine line) fits first few ended is = elim is.2 [ inl none ↦ ended none | inr other ↦ other header fits first ]
header_by kind text header _ fits first few ended is = is

pub header_right : (kind : TextKind) (text : List ℕ) (header : Header) (rest : List ℕ) (fault : Fault) → SpellsHeader kind text header rest → FaultsAtHeader kind text fault → ⊥
header_right kind text header rest fault spells =
    let short = short_header kind header spells.fits in
    header_by kind text header fault spells.fits (ap first_line spells.spelled ∙ first_ended (header_text kind header) rest short.in_line) short.few
    (some_after text rest (ap after_line spells.spelled ∙ after_ended (header_text kind header) rest short.in_line))
