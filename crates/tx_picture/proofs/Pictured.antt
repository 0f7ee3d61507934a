-- A text that was read from one end, and its picture.
use Rattle.std.proofs.Common.{◌≡◌, ◌++◌, ℕ, List, [], Option, Some, None, IfSome, Result, refl, sym}
use Rattle.std.proofs.KnownBytes.{Consumes-all}
use Rattle.std.specs.Io.KnownBytes.{Consumes, IsAtEnd}
use Rattle.tx_lines.specs.Ends.{Counts}
use Rattle.tx_lines.specs.declared.faults.Fault.{Fault}
use Rattle.tx_picture.specs.Command.{Pictures}
use Rattle.tx_picture.specs.Grammars.{pictures}
use Rattle.tx_picture.specs.declared.excerpts.Excerpt.{Excerpt}
use Rattle.tx_translate.specs.Written.{notes_of}
use Rattle.tx_script.specs.Answered.{Answers}

-- the bytes that are known to be left
abbrev pub known : Option (List ℕ) → List ℕ
known None = []
known (Some bytes) = bytes

known_whole : (left : Option (List ℕ)) → IfSome left (λ bytes. bytes ≡ known left)
known_whole None = tt
known_whole (Some bytes) = refl

all_of : (left : Option (List ℕ)) (text : List ℕ) → IfSome left (λ bytes. text ≡ [] ++ bytes) → IfSome left (λ bytes. bytes ≡ text)
all_of None text is = tt
all_of (Some bytes) text is = sym is

-- all that was left was read
pub whole_of : (left left' : Option (List ℕ)) (text : List ℕ) → Consumes left left' text → IsAtEnd left' → IfSome left (λ bytes. bytes ≡ text)
whole_of left left' text consumes end = all_of left text (Consumes-all left left' text [] text consumes end refl)

pub pictured : (excerpt : Excerpt) (text : List ℕ) (left written written' : Option (List ℕ)) (reads reads' writes writes' : Counts) (result : Result (Unit {0}) Fault)
    → IfSome left (λ bytes. bytes ≡ text) → Answers (pictures excerpt (notes_of text)) left reads written writes result reads' written' writes'
    → Pictures excerpt left reads written writes result reads' written' writes'
pictured excerpt text left written written' reads reads' writes writes' result whole answers = record { text = text; whole = whole; answers = answers }

-- of one that was not read to its end
pub unread : (excerpt : Excerpt) (left written written' : Option (List ℕ)) (reads reads' writes writes' : Counts) (result : Result (Unit {0}) Fault)
    → Answers (pictures excerpt (notes_of (known left))) left reads written writes result reads' written' writes' → Pictures excerpt left reads written writes result reads' written' writes'
unread excerpt left written written' reads reads' writes writes' result answers = pictured excerpt (known left) left written written' reads reads' writes writes' result (known_whole left) answers
