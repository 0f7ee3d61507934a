-- The first word of a line, and what is left after it.
use Rattle.std.proofs.Common.{◌≡◌, ℕ, ◌+◌, ◌-◌, List, [], ◌∷◌, ◌++◌, drop, length, ap, sym, ◌∙◌, append_assoc, arith}
use Rattle.std.proofs.Math.Seq.{drop-append_seam}
use Rattle.std.proofs.lemmas.List.{length-append}
use Rattle.tx_translate.specs.Words.{columns_in, words_in}
use Rattle.tx_shell.specs.Meanings.{after_word, first_or, first_word}

-- what is dropped are the blanks and the word
after_gap : (gap word rest : List ℕ) (n : ℕ) → n ≡ length (gap ++ word) → drop n (gap ++ (word ++ rest)) ≡ rest
after_gap gap word rest n long = ap (λ (m : ℕ). drop m (gap ++ (word ++ rest))) long ∙ ap (drop (length (gap ++ word))) (sym (append_assoc gap word rest)) ∙ drop-append_seam (gap ++ word) rest

pub left_after : (line word rest : List ℕ) (words : List (List ℕ)) (columns : List ℕ) → words_in line ≡ word ∷ words →
    columns_in line ≡ (1 + (length line - length rest - length word)) ∷ columns → (gap : List ℕ) × (line ≡ gap ++ (word ++ rest)) → after_word line ≡ rest
left_after line word rest words columns split at place =
    let first : first_word line ≡ word = ap (first_or []) split in
    let column : first_or 1 (columns_in line) ≡ 1 + (length line - length rest - length word) = ap (first_or 1) at in
    let long : length line ≡ length place.0 + (length word + length rest) = ap length place.1 ∙ length-append place.0 (word ++ rest) ∙ ap (λ (n : ℕ). length place.0 + n) (length-append word rest) in
    let count : first_or 1 (columns_in line) - 1 + length (first_word line) ≡ length (place.0 ++ word) =
    (λ j. column j - 1 + length (first j)) ∙ omega (arith, long) ∙ sym (length-append place.0 word) in
    (λ j. drop (first_or 1 (columns_in line) - 1 + length (first_word line)) (place.1 j)) ∙ after_gap place.0 word rest (first_or 1 (columns_in line) - 1 + length (first_word line)) count
