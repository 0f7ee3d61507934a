-- A text has one header at most.
use Rattle.std.proofs.Common.{◌≡◌, ◌∙◌, ℕ, List, ◌++◌, get_or, ap, sym, refl, arith}
use Rattle.std.specs.Fmt.{decimal}
use Rattle.tx_check.proofs.EndedLines.{same_ended}
use Rattle.tx_check.proofs.ShortLines.{short_header}
use Rattle.tx_lines.specs.Lines.{header_front, header_text}
use Rattle.tx_lines.specs.Schedule.{SpellsHeader}
use Rattle.tx_lines.specs.declared.read.header.Header.{Header}
use Rattle.tx_lines.specs.declared.read.header.TextKind.{TextKind}
use Rattle.tx_lines.specs.declared.read.header.TextKind.TheVariants.{Schedule, Program}
use Rattle.tx_lines.specs.declared.read.header.Version.{Version}
use Rattle.tx_lines.specs.declared.read.header.Version.TheVariants.{One, Two}

fifth : (text other : List ℕ) → text ≡ other → get_or text 5 0 ≡ get_or other 5 0
fifth text other e = ap (λ (t : List ℕ). get_or t 5 0) e

apart : (kind : TextKind) (a b : ℕ) → header_front kind One ++ decimal a ≡ header_front kind Two ++ decimal b → ⊥
apart Schedule a b e = let bad : 49 ≡ 50 = fifth (header_front Schedule One ++ decimal a) (header_front Schedule Two ++ decimal b) e in omega (arith, bad)
apart Program a b e = let bad : 49 ≡ 50 = fifth (header_front Program One ++ decimal a) (header_front Program Two ++ decimal b) e in omega (arith, bad)

same_version : (kind : TextKind) (one other : Version) (a b : ℕ) → header_front kind one ++ decimal a ≡ header_front kind other ++ decimal b → one ≡ other
same_version kind One One a b e = refl
same_version kind One Two a b e = absurd (apart kind a b e)
same_version kind Two One a b e = absurd (apart kind b a (sym e))
same_version kind Two Two a b e = refl

pub same_header : (kind : TextKind) (text : List ℕ) (one other : Header) (rest behind : List ℕ) → SpellsHeader kind text one rest → SpellsHeader kind text other behind
    → (one.version ≡ other.version) × (rest ≡ behind)
same_header kind text one other rest behind first second =
    let same = same_ended (header_text kind one) (header_text kind other) rest behind (short_header kind one first.fits).in_line (short_header kind other second.fits).in_line
    (sym first.spelled ∙ second.spelled) in
    (same_version kind one.version other.version one.count other.count same.0, same.1)
