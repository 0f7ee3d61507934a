-- The pieces of a state that are chosen, as far as they are found.
use Rattle.std.proofs.Common.{◌≡◌, ℕ, ◌+◌, Bool, false, List, [], ◌∷◌, ◌++◌, add-one, if◌then◌else◌, sym, append_assoc, arith}
use Rattle.std.proofs.lemmas.List.{append-nil}
use Rattle.std.proofs.lemmas.List.Elements.{filter-append}
use Rattle.std.specs.List.{filter}
use Rattle.tx_journal.specs.Rows.{first_pieces, piece_in, row_pieces, state_pieces}
use Rattle.tx_journal.specs.declared.pieces.Piece.{Piece}
use Rattle.tx_journal.specs.declared.rows.Row.{Row}
use Rattle.tx_journal.specs.declared.rows.Row.TheVariants.{Procs, Descs, Pipes, Txns}

module _ (chosen : Piece → Bool) (row : Row) where
  pub none_found : (found : List Piece) → found ≡ found ++ filter chosen (first_pieces row 0)
  unfolding first_pieces
  none_found found = sym (append-nil found)

  -- by whether the next one is chosen
  abbrev one : ℕ → Bool → List Piece
  one i b = if b then piece_in row i ∷ [] else []

  first_more : (i : ℕ) → filter chosen (first_pieces row (i + 1)) ≡ filter chosen (first_pieces row i) ++ one i (chosen (piece_in row i))
  unfolding first_pieces
  first_more i = grind (arith, add-one, filter-append)

  pub one_found : (i : ℕ) (before now after : List Piece) (b : Bool) → now ≡ before ++ filter chosen (first_pieces row i) → chosen (piece_in row i) ≡ b → after ≡ now ++ one i b → after ≡ before ++ filter chosen (first_pieces row (i + 1))
  one_found i before now after b so is put = grind (arith, append_assoc, first_more)

  pub one_passed : (i : ℕ) (before now : List Piece) → now ≡ before ++ filter chosen (first_pieces row i) → chosen (piece_in row i) ≡ false → now ≡ before ++ filter chosen (first_pieces row (i + 1))
  one_passed i before now so is = one_found i before now now false so is (sym (append-nil now))

-- the pieces of a row, as far as they are listed
pub none_listed : (row : Row) (found : List Piece) → found ≡ found ++ first_pieces row 0
unfolding first_pieces
none_listed row found = sym (append-nil found)

pub one_listed : (row : Row) (i : ℕ) (before now after : List Piece) → now ≡ before ++ first_pieces row i → after ≡ now ++ piece_in row i ∷ [] → after ≡ before ++ first_pieces row (i + 1)
unfolding first_pieces
one_listed row i before now after so put = grind (arith, add-one, append_assoc)

-- the rows one after another
pub all_listed : (width : ℕ) (one two three four : List Piece) → one ≡ [] ++ row_pieces Procs width → two ≡ one ++ row_pieces Descs width → three ≡ two ++ row_pieces Pipes width → four ≡ three ++ row_pieces Txns width →
    four ≡ state_pieces width
all_listed width one two three four first second third fourth = grind (arith, append_assoc)

pub all_found : (chosen : Piece → Bool) (width : ℕ) (one two three four : List Piece) → one ≡ [] ++ filter chosen (row_pieces Procs width) → two ≡ one ++ filter chosen (row_pieces Descs width) →
    three ≡ two ++ filter chosen (row_pieces Pipes width) → four ≡ three ++ filter chosen (row_pieces Txns width) → four ≡ filter chosen (state_pieces width)
all_found chosen width one two three four first second third fourth = grind (arith, append_assoc, filter-append)
