-- The rows of a picture, one more and all.
use Rattle.std.proofs.Common.{◌≡◌, ℕ, ◌+◌, ◌<◌, ◌≤◌, List, ◌∷◌, ◌++◌, drop, get_or, length, ap, ◌∙◌, sym, append_assoc, add-one, drop-cons}
use Rattle.std.proofs.lemmas.List.{append-nil}
use Rattle.std.proofs.Math.ListN.{drop_of_length-le}
use Rattle.tx_picture.specs.Pictures.{longer, widest}
use Rattle.tx_picture.specs.Sheets.{Page}
use Rattle.tx_picture.specs.Steps.{row_text, rows_text, shown_words}
use Rattle.tx_picture.specs.declared.rows.Row.{Row}

pub row_more : (page : Page) (rows : List Row) (i : ℕ) (d : Row) (before now after : List ℕ) → i < length rows
    → before ++ rows_text page 1 rows ≡ now ++ rows_text page (i + 1) (drop i rows)
    → after ≡ now ++ row_text page (i + 1) (get_or rows i d)
    → before ++ rows_text page 1 rows ≡ after ++ rows_text page (i + 1 + 1) (drop (i + 1) rows)
row_more page rows i d before now after inside so_far more =
    let row = get_or rows i d in
    let cut : drop i rows ≡ row ∷ drop (i + 1) rows = drop-cons rows i d inside ∙ ap (λ (n : ℕ). row ∷ drop n rows) (sym (add-one i)) in
    let rest = rows_text page (i + 1 + 1) (drop (i + 1) rows) in
    so_far ∙ ap (λ (left : List Row). now ++ rows_text page (i + 1) left) cut
    ∙ sym (append_assoc now (row_text page (i + 1) row) rest) ∙ ap (λ (text : List ℕ). text ++ rest) (sym more)

pub rows_whole : (page : Page) (rows : List Row) (i : ℕ) (before now : List ℕ) → length rows ≤ i
    → before ++ rows_text page 1 rows ≡ now ++ rows_text page (i + 1) (drop i rows) → now ≡ before ++ rows_text page 1 rows
rows_whole page rows i before now done so_far =
    sym (so_far ∙ ap (λ (left : List Row). now ++ rows_text page (i + 1) left) (drop_of_length-le rows done) ∙ append-nil now)

-- the longest text, of one row more and of all
pub wider : (page : Page) (rows : List Row) (i : ℕ) (d : Row) (whole most more : ℕ) → i < length rows → whole ≡ widest page (i + 1) most (drop i rows)
    → more ≡ longer most (length (shown_words page (i + 1) (get_or rows i d))) → whole ≡ widest page (i + 1 + 1) more (drop (i + 1) rows)
wider page rows i d whole most more inside so_far is =
    let row = get_or rows i d in
    let cut : drop i rows ≡ row ∷ drop (i + 1) rows = drop-cons rows i d inside ∙ ap (λ (n : ℕ). row ∷ drop n rows) (sym (add-one i)) in
    so_far ∙ ap (widest page (i + 1) most) cut ∙ ap (λ (wide : ℕ). widest page (i + 1 + 1) wide (drop (i + 1) rows)) (sym is)

pub widest_whole : (page : Page) (rows : List Row) (i whole most : ℕ) → length rows ≤ i → whole ≡ widest page (i + 1) most (drop i rows) → most ≡ whole
widest_whole page rows i whole most done so_far = sym (so_far ∙ ap (widest page (i + 1) most) (drop_of_length-le rows done))
