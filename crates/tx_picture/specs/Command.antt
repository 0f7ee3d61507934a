-- How a text is read from one end, and its picture written to another.
use Rattle.std.specs.Prelude.{◌≡◌, ℕ, List, Option, Result, IfSome}
use Rattle.tx_lines.specs.Ends.{Counts}
use Rattle.tx_lines.specs.declared.faults.Fault.{Fault}
use Rattle.tx_picture.specs.Grammars.{pictures}
use Rattle.tx_picture.specs.declared.excerpts.Excerpt.{Excerpt}
use Rattle.tx_translate.specs.Written.{notes_of}
use Rattle.tx_script.specs.Answered.{Answers}

-- a text is read, and the picture of an excerpt of it written, with what its author wrote, or a
-- front of that, or nothing, as the fault says
pub record Pictures (excerpt : Excerpt) (left : Option (List ℕ)) (reads : Counts)
    (written : Option (List ℕ)) (writes : Counts) (result : Result (Unit {0}) Fault)
    (reads' : Counts) (written' : Option (List ℕ)) (writes' : Counts) : Type 0 where
  pub text : List ℕ
  pub whole : IfSome left (λ bytes. bytes ≡ text)
  pub answers :
      Answers (pictures excerpt (notes_of text)) left reads written writes result reads' written'
      writes'
