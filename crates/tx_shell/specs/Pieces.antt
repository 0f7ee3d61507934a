-- How a piece of a state is named in a line.
use Rattle.std.specs.Prelude.{◌≢◌, ℕ, ◌<◌, ◌^◌, List, ◌∷◌, ◌++◌, codes}
use Rattle.std.specs.Fmt.{decimal}
use Rattle.tx_journal.specs.declared.pieces.Piece.{Piece}
use Rattle.tx_journal.specs.declared.pieces.Piece.TheVariants.{Proc, Page, Fd, Pending, Queue, Ids, Desc, Pipe, Txn}

-- two numbers with a space between them
abbrev pub two_text : ℕ → ℕ → List ℕ
two_text one two = decimal one ++ 32 ∷ decimal two

abbrev pub piece_name : Piece → List ℕ
piece_name (Proc p) = codes "proc " ++ decimal p.0
piece_name (Page p number) = codes "page " ++ two_text p.0 number
piece_name (Fd p fd) = codes "fd " ++ two_text p.0 fd
piece_name (Pending p) = codes "pending " ++ decimal p.0
piece_name (Queue p) = codes "queue " ++ decimal p.0
piece_name (Ids p) = codes "ids " ++ decimal p.0
piece_name (Desc number) = codes "desc " ++ decimal number.0
piece_name (Pipe number) = codes "pipe " ++ decimal number.0
piece_name (Txn starter) = codes "txn " ++ decimal starter.0

-- its numbers are ones that a line can hold
abbrev pub FitsPiece : Piece → Type 0
FitsPiece (Proc p) = p.0 < 2 ^ 16
FitsPiece (Page p number) = (p.0 < 2 ^ 16) × (number < 2 ^ 8)
FitsPiece (Fd p fd) = (p.0 < 2 ^ 16) × (fd < 2 ^ 8)
FitsPiece (Pending p) = p.0 < 2 ^ 16
FitsPiece (Queue p) = p.0 < 2 ^ 16
FitsPiece (Ids p) = p.0 < 2 ^ 16
FitsPiece (Desc number) = number.0 < 2 ^ 8
FitsPiece (Pipe number) = number.0 < 2 ^ 8
FitsPiece (Txn starter) = starter.0 < 2 ^ 16

-- it is a process, or what one has
abbrev pub IsOfProcess : Piece → Type 0
IsOfProcess (Txn starter) = ⊥
IsOfProcess (Desc number) = ⊥
IsOfProcess (Pipe number) = ⊥
IsOfProcess piece = Unit {0}

-- no piece is named so
abbrev pub IsNoPiece : List ℕ → Type 0
IsNoPiece words = (piece : Piece) → FitsPiece piece → words ≢ piece_name piece
