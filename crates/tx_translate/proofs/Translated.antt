-- A text that was read to its end, and what came of the writing of what it means.
use Rattle.std.proofs.Common.{◌≡◌, ◌++◌, ℕ, List, [], Option, Some, None, IfSome, Result, Ok, Err, refl, sym}
use Rattle.std.proofs.KnownBytes.{Consumes-all}
use Rattle.std.specs.Io.KnownBytes.{Consumes, IsAtEnd}
use Rattle.tx_lines.specs.Ends.{Counts}
use Rattle.tx_lines.specs.Whole.{IsCalm, WritesWhole}
use Rattle.tx_lines.specs.declared.faults.Fault.{Fault}
use Rattle.tx_lines.specs.declared.faults.Fault.TheVariants.{NotALine, NoLabel, TooLong, Reader, Writer, NoMemory}
use Rattle.tx_translate.specs.Command.{IsMeantOfLeft, TranslatesText}
use Rattle.tx_translate.specs.Meant.{meant_of}

all_of : (left : Option (List ℕ)) (text : List ℕ) → IfSome left (λ bytes. text ≡ [] ++ bytes) → IfSome left (λ bytes. bytes ≡ text)
all_of None text is = tt
all_of (Some bytes) text is = sym is

pub meant_of_left : (left left' : Option (List ℕ)) (text meant : List ℕ) → Consumes left left' text → IsAtEnd left' → meant ≡ meant_of text → IsMeantOfLeft left meant
meant_of_left left left' text meant consumes end same = record {
  text = text;
  whole = all_of left text (Consumes-all left left' text [] text consumes end refl);
  same = same;
}

pub translated : (left written written' : Option (List ℕ)) (reads reads' writes writes' : Counts) (meant : List ℕ) (result : Result (Unit {0}) Fault)
    → IsMeantOfLeft left meant → IsCalm reads reads' → WritesWhole written writes meant result written' writes'
    → TranslatesText left reads written writes result reads' written' writes'
translated left written written' reads reads' writes writes' meant (Ok done) of_left calm wrote = (record { meant = meant; of_left = of_left; bytes = wrote.0 }, calm, wrote.1)
translated left written written' reads reads' writes writes' meant (Err (NotALine line)) of_left calm none = absurd none
translated left written written' reads reads' writes writes' meant (Err (NoLabel line)) of_left calm none = absurd none
translated left written written' reads reads' writes writes' meant (Err (TooLong line)) of_left calm none = absurd none
translated left written written' reads reads' writes writes' meant (Err Reader) of_left calm none = absurd none
translated left written written' reads reads' writes writes' meant (Err NoMemory) of_left calm none = absurd none
translated left written written' reads reads' writes writes' meant (Err Writer) of_left calm wrote =
    (record { meant = meant; count = wrote.0.0; of_left = of_left; inside = wrote.0.1; bytes = wrote.0.2 }, wrote.1)
