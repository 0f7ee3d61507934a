-- The pieces of a state whose lines are its text, in the order of the text.
use Rattle.std.specs.Prelude.{ℕ, zero, suc, ◌+◌, List, [], ◌∷◌, ◌++◌, map}
use Rattle.tx_base.specs.declared.limits.TheConstants.{DESCRIPTIONS, PIPES}
use Rattle.tx_journal.specs.Pieces.{piece_text}
use Rattle.tx_journal.specs.declared.pieces.Piece.{Piece}
use Rattle.tx_journal.specs.declared.pieces.Piece.TheVariants as pieces
use Rattle.tx_journal.specs.declared.rows.Row.{Row}
use Rattle.tx_journal.specs.declared.rows.Row.TheVariants.{Procs, Descs, Pipes, Txns}
use Rattle.tx_model.specs.View.{View}

-- the piece of a row that comes after this many
abbrev pub piece_in : Row → ℕ → Piece
piece_in Procs n = pieces.Proc (record { 0 = n + 1 })
piece_in Descs n = pieces.Desc (record { 0 = n })
piece_in Pipes n = pieces.Pipe (record { 0 = n })
piece_in Txns n = pieces.Txn (record { 0 = n + 1 })

-- how many a row has, with this many process numbers
abbrev pub limit_of : Row → ℕ → ℕ
limit_of Procs width = width
limit_of Descs width = DESCRIPTIONS
limit_of Pipes width = PIPES
limit_of Txns width = width

-- the first of a row, this many
unfoldable pub first_pieces : Row → ℕ → List Piece
first_pieces row zero = []
first_pieces row (suc n) = first_pieces row n ++ piece_in row n ∷ []

abbrev pub row_pieces : Row → ℕ → List Piece
row_pieces row width = first_pieces row (limit_of row width)

-- the processes, descriptions, pipes and live transactions of a state, by rising numbers
abbrev pub state_pieces : ℕ → List Piece
state_pieces width =
    row_pieces Procs width
    ++ (row_pieces Descs width ++ (row_pieces Pipes width ++ row_pieces Txns width))

-- the lines that each of some pieces has
abbrev pub lines_of : List Piece → View → List (List ℕ)
lines_of found V = map (λ piece. piece_text piece V) found
