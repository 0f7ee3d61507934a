-- Facts of a text that was read to its end and of the report on it, with their proofs.
use Rattle.std.proofs.Common.{◌≡◌, ◌≤◌, ◌++◌, ℕ, List, [], length, Option, Some, None, Bool, IfSome, Result, Ok, Err, refl, subst, sym}
use Rattle.std.specs.Result.{IsErrAnd}
use Rattle.std.proofs.KnownBytes.{Consumes-all}
use Rattle.std.specs.Io.KnownBytes.{Consumes, IsAtEnd}
use Rattle.tx_check.specs.Command.{Checks, Hears}
use Rattle.tx_lines.specs.Ends.{Counts}
use Rattle.tx_lines.specs.Whole.{WritesWhole}
use Rattle.tx_lines.specs.declared.faults.Fault.{Fault}
use Rattle.tx_lines.specs.declared.faults.Fault.TheVariants.{Writer}

all_of : (left : Option (List ℕ)) (text : List ℕ) → IfSome left (λ bytes. text ≡ [] ++ bytes)
    → IfSome left (λ bytes. bytes ≡ text)
all_of None text is = tt
all_of (Some bytes) text is = sym is

pub hears : (Says : List ℕ → List ℕ → Type 0) (left left' : Option (List ℕ)) (text report : List ℕ)
    → Consumes left left' text → IsAtEnd left' → length text ≤ 1048576 → Says text report
    → Hears Says left report
hears Says left left' text report consumes end short is = record {
  text = text;
  whole = all_of left text (Consumes-all left left' text [] text consumes end refl);
  short = short;
  said = is;
}

-- what came of the writing of the report
written_front :
    (Says : List ℕ → List ℕ → Type 0) (left written written' : Option (List ℕ))
    (reads reads' writes writes' : Counts) (report : List ℕ) (fault : Fault)
    → Hears Says left report → WritesWhole written writes report (Err fault) written' writes'
    → Checks Says left reads written writes (Err fault) reads' written' writes'
written_front Says left written written' reads reads' writes writes' report Writer heard wrote = (
  record {
    report = report;
    count = wrote.0.0;
    hears = heard;
    inside = wrote.0.1;
    bytes = wrote.0.2;
  },
  wrote.1,
)
written_front Says left written written' reads reads' writes writes' report _ heard none =
    absurd none

-- and of its error, as it is handed up
pub written_part :
    (Says : List ℕ → List ℕ → Type 0) (left written written' : Option (List ℕ))
    (reads reads' writes writes' : Counts) (report : List ℕ) (fault : Fault)
    (result : Result Bool Fault)
    → IsErrAnd result (λ handed. handed ≡ fault) → Hears Says left report
    → WritesWhole written writes report (Err fault) written' writes'
    → Checks Says left reads written writes result reads' written' writes'
written_part Says left written written' reads reads' writes writes' report fault (Ok is_read) is
    heard wrote = absurd is
written_part Says left written written' reads reads' writes writes' report fault (Err handed) is
    heard wrote =
    subst (λ found. Checks Says left reads written writes (Err found) reads' written' writes')
    (sym is)
    (written_front Says left written written' reads reads' writes writes' report fault heard wrote)
