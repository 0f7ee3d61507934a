-- A text that was read to its end, and what came of its expectations.
use Rattle.std.proofs.Common.{◌≡◌, ◌<◌, ◌++◌, ◌∙◌, ◌⊎◌, inl, ℕ, List, [], ◌≤◌, length, take, Option, Some, None, Bool, IfSome, Result, Ok, Err, ap, refl, string_bytes, subst, sym}
use Rattle.std.specs.Result.{IsErrAnd}
use Rattle.std.proofs.KnownBytes.{Consumes-all}
use Rattle.std.specs.declared.alloc.Global.{Global}
use Rattle.std.specs.Io.KnownBytes.{Appends, Consumes, IsAtEnd, Keeps}
use Rattle.tx_base.specs.declared.steps.Step.{Step}
use Rattle.tx_expect.specs.Command.{expectations, report_of, Expects}
use Rattle.tx_expect.specs.Outcomes.{ExpectsText}
use Rattle.tx_expect.specs.declared.outcomes.Outcome.{Outcome}
use Rattle.tx_lines.specs.Ends.{Counts}
use Rattle.tx_lines.specs.Whole.{IsCalm, ReadsWhole, WritesWhole}
use Rattle.tx_lines.specs.declared.faults.Fault.{Fault}
use Rattle.tx_lines.specs.declared.faults.Fault.TheVariants.{NotALine, NoLabel, TooLong, Reader, Writer, NoMemory}
use Rattle.tx_lines.specs.declared.read.header.Header.{Header}
use Rattle.tx_lines.specs.declared.read.schedule.Schedule.{Schedule}
use Rattle.tx_translate.specs.Meant.{meant_of}
use Rattle.tx_translate.specs.MeantSchedules.{MeansSchedule}
use Rattle.tx_script.specs.Answered.{Answers, Spells, WritesFront}

-- the bytes that are known to be left
abbrev known : Option (List ℕ) → List ℕ
known None = []
known (Some bytes) = bytes

known_whole : (left : Option (List ℕ)) → IfSome left (λ bytes. bytes ≡ known left)
known_whole None = tt
known_whole (Some bytes) = refl

all_of : (left : Option (List ℕ)) (text : List ℕ) → IfSome left (λ bytes. text ≡ [] ++ bytes) → IfSome left (λ bytes. bytes ≡ text)
all_of None text is = tt
all_of (Some bytes) text is = sym is

-- all that was left was read
pub whole_of : (left left' : Option (List ℕ)) (text : List ℕ) → Consumes left left' text → IsAtEnd left' → IfSome left (λ bytes. bytes ≡ text)
whole_of left left' text consumes end = all_of left text (Consumes-all left left' text [] text consumes end refl)

-- a text means what its known bytes mean
means_left : (left : Option (List ℕ)) (text meant : List ℕ) → IfSome left (λ bytes. bytes ≡ text) → length text ≤ 1048576 → meant_of text ≡ meant
    → IfSome left (λ bytes. (length bytes ≤ 1048576) × (meant_of bytes ≡ meant))
means_left None text meant is short same = tt
means_left (Some bytes) text meant is short same = (subst (λ (b : List ℕ). length b ≤ 1048576) (sym is) short, ap meant_of is ∙ same)

-- a schedule that a text means
abbrev spelled_by : Schedule → Header × List Step
spelled_by schedule = (schedule.header, schedule.steps.items)

spells : (text : List ℕ) (left : Option (List ℕ)) (schedule : Schedule) → IfSome left (λ bytes. bytes ≡ text) → length text ≤ 1048576 → MeansSchedule text schedule
    → Spells (expectations text) left (spelled_by schedule)
spells text left schedule whole short means = record { good = means.0; text = means_left left text _ whole short means.1 }

-- the expectations of a text that was read are judged, and the report of it is written
pub judged : (text bytes : List ℕ) (left written written' : Option (List ℕ)) (reads reads' writes writes' : Counts) (outcome : Outcome)
    → IfSome left (λ known. known ≡ text) → length text ≤ 1048576 → ExpectsText text (Ok outcome) → bytes ≡ string_bytes outcome.report
    → Appends written written' bytes → IsCalm reads reads' → IsCalm writes writes' → Expects left reads written writes (Ok outcome.is_met) reads' written' writes'
judged text bytes left written written' reads reads' writes writes' outcome whole short found same appends read wrote = record {
  text = text;
  whole = whole;
  answers = (
    (spelled_by found.0, spells text left found.0 whole short found.1, subst (Appends written written') (same ∙ found.2.report) appends),
    read,
    wrote,
  );
  met = (spelled_by found.0, found.1.0, found.2.met);
}

-- a fault, handed up, of a text whose bytes are these, if they are known
faulted : (text : List ℕ) (left written written' : Option (List ℕ)) (reads reads' writes writes' : Counts) (result : Result Bool Fault) (fault : Fault)
    → IfSome left (λ bytes. bytes ≡ text) → IsErrAnd result (λ handed. handed ≡ fault) → Answers (expectations text) left reads written writes (Err fault) reads' written' writes'
    → Expects left reads written writes result reads' written' writes'
faulted text left written written' reads reads' writes writes' (Ok is_met) fault whole is answers = absurd is
faulted text left written written' reads reads' writes writes' (Err handed) fault whole is answers = record {
  text = text;
  whole = whole;
  answers = subst (λ (found : Fault). Answers (expectations text) left reads written writes (Err found) reads' written' writes') (sym is) answers;
  met = tt;
}

-- nothing is written
kept : (written : Option (List ℕ)) → Keeps written written
kept None = tt
kept (Some bytes) = refl

too_long : (left : Option (List ℕ)) (line : ℕ) (IsOther : List ℕ → Type 0) → line ≡ 0 → IfSome left (λ bytes. 1048576 < length bytes)
    → IfSome left (λ bytes. ((line ≡ 0) × (1048576 < length bytes)) ⊎ IsOther bytes)
too_long None line IsOther none long = tt
too_long (Some bytes) line IsOther none long = inl (none, long)

-- the fault of a reader
read_fault : (text : List ℕ) (left left' written : Option (List ℕ)) (reads reads' writes : Counts) (fault : Fault) → ReadsWhole {A = Global} left reads (Err fault) left' reads'
    → Answers (expectations text) left reads written writes (Err fault) reads' written writes
read_fault text left left' written reads reads' writes (TooLong line) is = (too_long left line _ is.0 is.1, kept written)
read_fault text left left' written reads reads' writes Reader is = (is, kept written)
read_fault text left left' written reads reads' writes NoMemory is = kept written
read_fault text left left' written reads reads' writes Writer is = absurd is
read_fault text left left' written reads reads' writes (NotALine line) is = absurd is
read_fault text left left' written reads reads' writes (NoLabel line) is = absurd is

pub unread : (left left' written : Option (List ℕ)) (reads reads' writes : Counts) (result : Result Bool Fault) (fault : Fault)
    → IsErrAnd result (λ handed. handed ≡ fault) → ReadsWhole {A = Global} left reads (Err fault) left' reads' → Expects left reads written writes result reads' written writes
unread left left' written reads reads' writes result fault is read =
    faulted (known left) left written written reads reads' writes writes result fault (known_whole left) is (read_fault (known left) left left' written reads reads' writes fault read)

-- the fault of a writer
write_fault : (text bytes : List ℕ) (left written written' : Option (List ℕ)) (reads reads' writes writes' : Counts) (outcome : Outcome) (fault : Fault)
    → IfSome left (λ known. known ≡ text) → length text ≤ 1048576 → ExpectsText text (Ok outcome) → bytes ≡ string_bytes outcome.report
    → WritesWhole written writes bytes (Err fault) written' writes' → Answers (expectations text) left reads written writes (Err fault) reads' written' writes'
write_fault text bytes left written written' reads reads' writes writes' outcome Writer whole short found same wrote =
    let report : List ℕ = report_of text found.0.header found.0.steps.items in
    let is : bytes ≡ report = same ∙ found.2.report in (
      (
        spelled_by found.0,
        wrote.0.0,
        spells text left found.0 whole short found.1,
        record {
          inside = subst (λ (b : List ℕ). wrote.0.0 ≤ length b) is wrote.0.1;
          bytes = subst (λ (b : List ℕ). Appends written written' (take wrote.0.0 b)) is wrote.0.2;
        },
      ),
      wrote.1,
    )
write_fault text bytes left written written' reads reads' writes writes' outcome (NotALine line) whole short found same wrote = absurd wrote
write_fault text bytes left written written' reads reads' writes writes' outcome (NoLabel line) whole short found same wrote = absurd wrote
write_fault text bytes left written written' reads reads' writes writes' outcome (TooLong line) whole short found same wrote = absurd wrote
write_fault text bytes left written written' reads reads' writes writes' outcome Reader whole short found same wrote = absurd wrote
write_fault text bytes left written written' reads reads' writes writes' outcome NoMemory whole short found same wrote = absurd wrote

pub unwritten : (text bytes : List ℕ) (left written written' : Option (List ℕ)) (reads reads' writes writes' : Counts) (outcome : Outcome) (result : Result Bool Fault) (fault : Fault)
    → IfSome left (λ known. known ≡ text) → length text ≤ 1048576 → ExpectsText text (Ok outcome) → bytes ≡ string_bytes outcome.report
    → IsErrAnd result (λ handed. handed ≡ fault) → WritesWhole written writes bytes (Err fault) written' writes' → Expects left reads written writes result reads' written' writes'
unwritten text bytes left written written' reads reads' writes writes' outcome result fault whole short found same is wrote =
    faulted text left written written' reads reads' writes writes' result fault whole is
    (write_fault text bytes left written written' reads reads' writes writes' outcome fault whole short found same wrote)
