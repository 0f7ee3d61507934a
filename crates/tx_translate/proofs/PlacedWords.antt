-- The words of a line, by their places, one after another.
use Rattle.std.proofs.Common.{◌≡◌, ℕ, ◌+◌, ◌-◌, ◌≤◌, List, [], ◌∷◌, ◌++◌, length, map, take, drop, ap, sym, ◌∙◌, arith, append_assoc, length-append}
use Rattle.std.proofs.lemmas.List.{map-append}
use Rattle.std.proofs.lemmas.List.Elements.{All-push}
use Rattle.std.specs.List.{All}
use Rattle.tx_translate.specs.Words.{bytes_at, columns_from, columns_in, words_in}
use Rattle.tx_translate.specs.declared.reading.Reading.TheVariants.{Between}
use Rattle.tx_translate.specs.declared.words.Word.{Word}
use Rattle.tx_translate.proofs.WordParts.{rest_at, word_at}

-- so far: these words of a line were found, and this is left of it
pub record Found (line left : List ℕ) (words : List Word) : Type 0 where
  pub columns : columns_in line ≡ map (λ (word : Word). word.column) words ++ columns_from (1 + (length line - length left)) Between left
  pub bytes : words_in line ≡ map (bytes_at line) words ++ words_in left
  pub place : (before : List ℕ) × (line ≡ before ++ left)
  pub inside : All (λ (word : Word). word.column + word.length ≤ length line + 1) words

-- what a line that is left splits into: a word, and the rest
pub record Splits (left word rest : List ℕ) : Type 0 where
  pub words : words_in left ≡ word ∷ words_in rest
  pub columns : (first : ℕ) → columns_from first Between left ≡ (first + (length left - length rest - length word)) ∷ columns_from (first + (length left - length rest)) Between rest
  pub place : (gap : List ℕ) × (left ≡ gap ++ (word ++ rest))

pushed : {A : Type 0} (f : Word → A) (words : List Word) (word : Word) (rest : List A) → map f words ++ (f word ∷ rest) ≡ map f (words ++ word ∷ []) ++ rest
pushed {A} f words word rest =
    sym (append_assoc (map f words) (f word ∷ []) rest) ∙ ap (λ (front : List A). front ++ rest) (sym (map-append f words (word ∷ [])))

-- one word more
pub found_more : (line left word rest : List ℕ) (words words' : List Word) (placed : Word) → Found line left words → Splits left word rest → words' ≡ words ++ placed ∷ [] →
    placed.column ≡ length line - length rest - length word + 1 → placed.length ≡ length word → Found line rest words'
found_more line left word rest words words' placed so splits more column size =
    let before = so.place.0 in
    let gap = splits.place.0 in
    let whole : length line ≡ length before + length left = ap length so.place.1 ∙ length-append before left in
    let parts : length left ≡ length gap + (length word + length rest) =
    ap length splits.place.1 ∙ length-append gap (word ++ rest) ∙ ap (λ (n : ℕ). length gap + n) (length-append word rest) in
    let first : ℕ = 1 + (length line - length left) in
    let at : first + (length left - length rest - length word) ≡ placed.column = omega (arith, whole, parts, column) in
    let after : first + (length left - length rest) ≡ 1 + (length line - length rest) = omega (arith, whole, parts) in
    let taken : bytes_at line placed ≡ word = placed_bytes (word_at line before left gap word rest so.place.1 splits.place.1) in
    let new : Found line rest (words ++ placed ∷ []) = record {
      columns = so.columns
          ∙ ap (λ (cs : List ℕ). map (λ (w : Word). w.column) words ++ cs)
          (splits.columns first
          ∙ ap (λ (n : ℕ). n ∷ columns_from (first + (length left - length rest)) Between rest) at
          ∙ ap (λ (n : ℕ). placed.column ∷ columns_from n Between rest) after)
          ∙ pushed (λ (w : Word). w.column) words placed (columns_from (1 + (length line - length rest)) Between rest);
      bytes = so.bytes
          ∙ ap (λ (ws : List (List ℕ)). map (bytes_at line) words ++ ws) (splits.words ∙ ap (λ (w : List ℕ). w ∷ words_in rest) (sym taken))
          ∙ pushed (bytes_at line) words placed (words_in rest);
      place = (before ++ (gap ++ word), rest_at line before left gap word rest so.place.1 splits.place.1);
      inside = All-push (λ (w : Word). w.column + w.length ≤ length line + 1) words placed so.inside (omega (arith, whole, parts, column, size));
    } in
    rw more new
  where
    placed_bytes : take (length word) (drop (length line - length rest - length word) line) ≡ word → bytes_at line placed ≡ word
    placed_bytes is =
        let from : placed.column - 1 ≡ length line - length rest - length word = omega (arith, column) in
        let count : placed.column - 1 + placed.length - (placed.column - 1) ≡ length word = omega (arith, size) in
        ap (λ (n : ℕ). take n (drop (placed.column - 1) line)) count ∙ ap (λ (n : ℕ). take (length word) (drop n line)) from ∙ is
