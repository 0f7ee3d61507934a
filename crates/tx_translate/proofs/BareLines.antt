-- Lines of words of the alphabet of version 2, with a space between each two: their words are these.
use Rattle.std.proofs.Common.{◌≡◌, ℕ, ◌<◌, List, [], ◌∷◌, ◌++◌, append_assoc, refl, ap, sym, ◌∙◌, arith}
use Rattle.std.proofs.lemmas.Bool.{ne_eqb}
use Rattle.std.proofs.lemmas.List.{append-nil}
use Rattle.tx_lines.specs.Schedule.{first_line}
use Rattle.tx_lines.specs.Words.{joined}
use Rattle.tx_translate.specs.Lines.{spaced}
use Rattle.tx_translate.specs.OwnLines.{ended_lines, with_byte, without_return}
use Rattle.tx_translate.specs.Words.{after_blank, after_word_byte, word_from, words_from, words_in}
use Rattle.tx_translate.specs.declared.reading.Reading.TheVariants.{InWord}
use Rattle.tx_translate.proofs.Bytes.{within_append, within_wider, AllBare, AreWithin, IsBare}

after_bare : (byte : ℕ) → 35 < byte → after_blank byte ≡ InWord
after_bare byte above =
    let space = ne_eqb byte 32 (λ e. omega arith) in
    let tab = ne_eqb byte 9 (λ e. omega arith) in
    let hash = ne_eqb byte 35 (λ e. omega arith) in
    let quote = ne_eqb byte 34 (λ e. omega arith) in
    rw (space, tab, hash, quote) refl

within_word : (byte : ℕ) → 35 < byte → after_word_byte byte ≡ InWord
within_word byte above =
    let space = ne_eqb byte 32 (λ e. omega arith) in
    let tab = ne_eqb byte 9 (λ e. omega arith) in
    let hash = ne_eqb byte 35 (λ e. omega arith) in
    rw (space, tab, hash) refl

-- no other word begins in a word
words_after : (bytes rest : List ℕ) → AreWithin 35 128 bytes → words_from InWord (bytes ++ rest) ≡ words_from InWord rest
words_after [] rest are = refl
words_after (byte ∷ bytes) rest are = rw (within_word byte are.0) (words_after bytes rest are.2)

-- a word goes up to the next space
word_whole : (bytes : List ℕ) (words : List (List ℕ)) → AreWithin 35 128 bytes → word_from InWord (bytes ++ spaced words) ≡ bytes
word_whole [] [] are = refl
word_whole [] (word ∷ words) are = refl
word_whole (byte ∷ bytes) words are = rw (within_word byte are.0) (ap (λ (t : List ℕ). byte ∷ t) (word_whole bytes words are.2))

first_spaced : (word : List ℕ) (words : List (List ℕ)) → IsBare word → words_in (word ++ spaced words) ≡ word ∷ words_from InWord (spaced words)
first_spaced [] words bare = absurd (omega (arith, bare.some))
first_spaced (byte ∷ bytes) words bare =
    rw (after_bare byte bare.within.0)
    (ap (λ (w : List ℕ). (byte ∷ w) ∷ words_from InWord (bytes ++ spaced words)) (word_whole bytes words bare.within.2)
    ∙ ap (λ (ws : List (List ℕ)). (byte ∷ bytes) ∷ ws) (words_after bytes (spaced words) bare.within.2))

pub words_spaced : (word : List ℕ) (words : List (List ℕ)) → IsBare word → AllBare words → words_in (word ++ spaced words) ≡ word ∷ words
words_spaced word [] bare others = first_spaced word [] bare
words_spaced word (next ∷ words) bare others =
    first_spaced word (next ∷ words) bare ∙ ap (λ (ws : List (List ℕ)). word ∷ ws) (words_spaced next words others.0 others.1)

-- words, and what follows after one more space
before_space : (bytes rest : List ℕ) → AreWithin 35 128 bytes → word_from InWord (bytes ++ 32 ∷ rest) ≡ bytes
before_space [] rest are = refl
before_space (byte ∷ bytes) rest are = rw (within_word byte are.0) (ap (λ (t : List ℕ). byte ∷ t) (before_space bytes rest are.2))

first_before : (word rest : List ℕ) → IsBare word → words_in (word ++ 32 ∷ rest) ≡ word ∷ words_in rest
first_before [] rest bare = absurd (omega (arith, bare.some))
first_before (byte ∷ bytes) rest bare =
    rw (after_bare byte bare.within.0)
    (ap (λ (w : List ℕ). (byte ∷ w) ∷ words_from InWord (bytes ++ 32 ∷ rest)) (before_space bytes rest bare.within.2)
    ∙ ap (λ (ws : List (List ℕ)). (byte ∷ bytes) ∷ ws) (words_after bytes (32 ∷ rest) bare.within.2))

pub words_before : (word : List ℕ) (words : List (List ℕ)) (rest : List ℕ) → IsBare word → AllBare words →
    words_in (word ++ (spaced words ++ 32 ∷ rest)) ≡ word ∷ (words ++ words_in rest)
words_before word [] rest bare others = first_before word rest bare
words_before word (next ∷ words) rest bare others =
    ap (λ (t : List ℕ). words_in (word ++ 32 ∷ t)) (append_assoc next (spaced words) (32 ∷ rest))
    ∙ first_before word (next ++ (spaced words ++ 32 ∷ rest)) bare
    ∙ ap (λ (ws : List (List ℕ)). word ∷ ws) (words_before next words rest others.0 others.1)

pub joined_spaced : (word : List ℕ) (words : List (List ℕ)) → joined word words ≡ word ++ spaced words
joined_spaced word [] = sym (append-nil word)
joined_spaced word (next ∷ words) = ap (λ (t : List ℕ). word ++ 32 ∷ t) (joined_spaced next words)

-- a line has no byte that ends one
spaced_within : (words : List (List ℕ)) → AllBare words → AreWithin 13 128 (spaced words)
spaced_within [] bare = tt
spaced_within (word ∷ words) bare =
    (omega arith, omega arith, within_append 13 128 word (spaced words) (within_wider 35 128 13 128 word (omega arith) (omega arith) bare.0.within) (spaced_within words bare.1))

pub line_within : (word : List ℕ) (words : List (List ℕ)) → IsBare word → AllBare words → AreWithin 13 128 (word ++ spaced words)
line_within word words bare others =
    within_append 13 128 word (spaced words) (within_wider 35 128 13 128 word (omega arith) (omega arith) bare.within) (spaced_within words others)

pub ended_line : (line rest : List ℕ) → AreWithin 13 128 line → ended_lines (line ++ 10 ∷ rest) ≡ line ∷ ended_lines rest
ended_line [] rest are = refl
ended_line (byte ∷ bytes) rest are =
    let above : 13 < byte = are.0 in
    let other = ne_eqb byte 10 (λ e. omega arith) in
    rw other (ap (with_byte byte) (ended_line bytes rest are.2))

pub first_whole : (line : List ℕ) → AreWithin 13 128 line → first_line line ≡ line
first_whole [] are = refl
first_whole (byte ∷ bytes) are =
    let above : 13 < byte = are.0 in
    let other = ne_eqb byte 10 (λ e. omega arith) in
    rw other (ap (λ (t : List ℕ). byte ∷ t) (first_whole bytes are.2))

pub no_return : (line : List ℕ) → AreWithin 13 128 line → without_return line ≡ line
no_return [] are = refl
no_return (byte ∷ []) are =
    let above : 13 < byte = are.0 in
    let other = ne_eqb byte 13 (λ e. omega arith) in
    rw other refl
no_return (byte ∷ next ∷ bytes) are = ap (λ (t : List ℕ). byte ∷ t) (no_return (next ∷ bytes) are.2)
