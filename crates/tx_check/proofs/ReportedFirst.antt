-- The diagnostic of the line at fault is of the fault's kind, and is first.
use Rattle.std.proofs.Common.{◌≡◌, ◌∙◌, ℕ, ◌<◌, List, [], ◌∷◌, ◌++◌, append_assoc, append-nil, length, ap, sym, subst, refl, arith}
use Rattle.tx_check.specs.Numbered.{line_at}
use Rattle.tx_check.specs.Reads.{line_of}
use Rattle.tx_check.specs.Speaking.{kind_of_what, FaultKind, IsFitting, OfLength}
use Rattle.tx_check.specs.Diagnostics.{diagnostic_text, kind_of_fault, BeginsOfKind, Grows, Reports, ReportsOfKind}
use Rattle.tx_check.specs.Wrong.{IsFaultIn}
use Rattle.tx_check.specs.declared.trouble.LineTrouble.TheVariants as troubles
use Rattle.tx_check.specs.declared.trouble.What.{What}
use Rattle.tx_check.specs.declared.trouble.What.TheVariants as whats
use Rattle.tx_lines.specs.declared.faults.Fault.{Fault}
use Rattle.tx_lines.specs.declared.faults.Fault.TheVariants.{NotALine, NoLabel, TooLong}
use Rattle.tx_translate.specs.Meant.{fault_by}
use Rattle.tx_translate.specs.OwnLines.{without_return}

-- nothing more, and more once more
pub grows_none : (report : List ℕ) → Grows report report
grows_none report = record { more = []; grown = sym (append-nil report) }

pub grows_by : (number : ℕ) (bytes old new : List ℕ) → Reports number bytes old new → Grows old new
grows_by number bytes old new reports = record { more = diagnostic_text reports.diagnostic ++ 10 ∷ []; grown = reports.more }

pub grows_on : (old report new : List ℕ) → Grows old report → Grows report new → Grows old new
grows_on old report new one other = record {
  more = one.more ++ other.more;
  grown = other.grown ∙ ap (λ (t : List ℕ). t ++ other.more) one.grown ∙ append_assoc old one.more other.more;
}

-- what is reported first
pub begins : (kind : FaultKind) (number : ℕ) (bytes old report new : List ℕ) → old ≡ [] → ReportsOfKind kind number bytes old report → Grows report new → BeginsOfKind kind new
begins kind number bytes old report new none reports grows =
    let line = diagnostic_text reports.reports.diagnostic in
    record {
      first = reports.reports.diagnostic;
      rest = grows.more;
      begins = grows.grown
          ∙ ap (λ (t : List ℕ). t ++ grows.more) (reports.reports.more ∙ ap (λ (t : List ℕ). t ++ (line ++ 10 ∷ [])) none)
          ∙ append_assoc line (10 ∷ []) grows.more;
      of_kind = reports.of_kind;
    }

-- a fault is of one kind at the line that is meant and at its own
same_kind : (lines : ℕ → ℕ) (fault : Fault) → kind_of_fault fault ≡ kind_of_fault (fault_by lines fault)
same_kind lines (NoLabel line) = refl
same_kind lines _ = refl

-- where the line of a fault is too long, so is the fault's kind
pub long_kind : (text : List ℕ) (fault : Fault) → IsFaultIn text fault → 512 < length (line_at (line_of fault) text) → kind_of_fault fault ≡ OfLength
long_kind text (NotALine line) is long = absurd (omega (arith, long, is.short))
long_kind text (NoLabel line) is long = absurd (omega (arith, long, is.short))
long_kind text (TooLong line) is long = refl
long_kind text _ is long = absurd is

pub reported_so : (lines : ℕ → ℕ) (fault : Fault) (what : What) (number : ℕ) (bytes old new : List ℕ) → kind_of_what what ≡ kind_of_fault fault
    → (what ≡ whats.Line troubles.TooLong → 512 < length bytes) → (512 < length (without_return bytes) → kind_of_fault fault ≡ OfLength)
    → (IsFitting bytes what → ReportsOfKind (kind_of_what what) number bytes old new) → ReportsOfKind (kind_of_fault (fault_by lines fault)) number bytes old new
reported_so lines fault what number bytes old new kind short long report =
    subst (λ (k : FaultKind). ReportsOfKind k number bytes old new) (kind ∙ same_kind lines fault) (report (record { long = λ over. kind ∙ long over; short = short }))
