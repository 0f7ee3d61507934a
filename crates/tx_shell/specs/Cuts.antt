-- What a terminal takes of the bytes that its reader has left: line by line, and of a long one the
-- front.
use Rattle.std.specs.Prelude.{◌≡◌, ℕ, Bool, List, [], ◌++◌, take, is_some, Option, Some, None}
use Rattle.tx_lines.specs.Schedule.{after_line, first_line}
use Rattle.tx_translate.specs.MeantLines.{behind}
use Rattle.tx_shell.specs.declared.sessions.taking.Next.{Next}
use Rattle.tx_shell.specs.declared.sessions.taking.Next.TheVariants.{Ended, Nothing, Open}

-- the first line of a text, or of a long one as many bytes as a terminal hands on
abbrev pub front_line : List ℕ → List ℕ
front_line text = take 514 (first_line text)

-- a part of the first line of some bytes, and what is left of them: all of the line, which has an
-- end; a part before that; or nothing, of no bytes
abbrev pub IsPart : Next → List ℕ → List ℕ → List ℕ → Type 0
IsPart Ended bytes part rest = (first_line bytes ≡ part) × (after_line bytes ≡ Some rest)
IsPart Open bytes part rest = (bytes ≡ part ++ rest) × (after_line part ≡ None)
IsPart Nothing bytes part rest = (bytes ≡ []) × (part ≡ []) × (rest ≡ [])

-- a part of a line was taken, and as many of its bytes appended as there was room for
pub record TakesPart (next : Next) (left : List ℕ) (left' : Option (List ℕ)) (line line' : List ℕ)
    : Type 0 where
  pub part : List ℕ
  pub rest : List ℕ
  pub is : IsPart next left part rest
  pub goes : left' ≡ Some rest
  pub kept : line' ≡ take 514 (line ++ part)

-- a line was taken, with its end where it has one, and as many of its bytes appended as there was
-- room for
pub record TakesLine (is_ended : Bool) (left : List ℕ) (left' : Option (List ℕ))
    (line line' : List ℕ) : Type 0 where
  pub ended : is_ended ≡ is_some (after_line left)
  pub goes : left' ≡ Some (behind left)
  pub kept : line' ≡ take 514 (line ++ first_line left)
