use Rattle.std.proofs.Common.{◌≡◌, ◌++◌, ◌∷◌, [], ℕ, List, length, map, ap, sym, ◌∙◌, arith, append_assoc, length-append}
use Rattle.tx_lines.specs.Instructions as spec
use Rattle.tx_lines.specs.Instructions.{plain_word, words_of}
use Rattle.tx_lines.specs.Words.{joined}
use Rattle.tx_lines.specs.declared.instructions.Spelling.{Spelling}
use Rattle.tx_lines.proofs.LineWords.{count_last, count_more, not_full, plain_short, split_length, words_split, words_whole}
use Rattle.tx_lines.proofs.read.spellings.+put_arguments.Goals as goal

pub put_argument-requires-clause-room : goal.put_argument-requires-clause-room
put_argument-requires-clause-room t c =
    omega (arith, split_length c.args.text.now c.in-Some.word.now c.in-Some.rest.now (sym c.in-Some.ensures), c.requires.room)

pub put_arguments-requires : goal.put_arguments-requires
put_arguments-requires t c =
    let size = split_length c.args.text.now c.in-Some.word.now c.in-Some.rest.now (sym c.in-Some.ensures) in
    let plain : c.put_argument.new.plain.items ≡ c.args.plain.now.items ++ 32 ∷ plain_word c.in-Some.word.now = c.put_argument.ensures.plain in
    let spellings : c.put_argument.new.spellings.items ≡ c.args.spellings.now.items ++ spec.spelling_of c.in-Some.word.now ∷ [] = c.put_argument.ensures.spellings in
    omega (
      arith,
      size,
      ap length plain,
      length-append c.args.plain.now.items (32 ∷ plain_word c.in-Some.word.now),
      plain_short c.in-Some.word.now,
      ap length spellings,
      length-append c.args.spellings.now.items (spec.spelling_of c.in-Some.word.now ∷ []),
      c.requires.room,
      c.requires.few,
      not_full (length c.args.spellings.now.items) c.requires.few c.if-is_full.ensures.value,
    )

pub returns-in-Some-clause-few : goal.returns-in-Some-clause-few
returns-in-Some-clause-few t c =
    let words = words_split c.args.text.now c.in-Some.word.now c.in-Some.rest.now (sym c.in-Some.ensures) in
    let spellings : c.put_argument.new.spellings.items ≡ c.args.spellings.now.items ++ spec.spelling_of c.in-Some.word.now ∷ [] = c.put_argument.ensures.spellings in
    let others : ℕ = length (words_of c.in-Some.rest.now).1 in
    rw words (c.put_arguments.ensures.few ∙ count_more c.args.spellings.now.items (spec.spelling_of c.in-Some.word.now) c.put_argument.new.spellings.items others spellings)

pub returns-in-Some-clause-plain : goal.returns-in-Some-clause-plain
returns-in-Some-clause-plain t c holds =
    let words = words_split c.args.text.now c.in-Some.word.now c.in-Some.rest.now (sym c.in-Some.ensures) in
    let plain : c.put_argument.new.plain.items ≡ c.args.plain.now.items ++ 32 ∷ plain_word c.in-Some.word.now = c.put_argument.ensures.plain in
    let following : List ℕ = 32 ∷ joined (plain_word (words_of c.in-Some.rest.now).0) (map plain_word (words_of c.in-Some.rest.now).1) in
    rw words (
    c.put_arguments.ensures.plain holds ∙ ap (λ (front : List ℕ). front ++ following) plain ∙ append_assoc c.args.plain.now.items (32 ∷ plain_word c.in-Some.word.now) following
    )

pub returns-in-Some-clause-spellings : goal.returns-in-Some-clause-spellings
returns-in-Some-clause-spellings t c holds =
    let words = words_split c.args.text.now c.in-Some.word.now c.in-Some.rest.now (sym c.in-Some.ensures) in
    let spellings : c.put_argument.new.spellings.items ≡ c.args.spellings.now.items ++ spec.spelling_of c.in-Some.word.now ∷ [] = c.put_argument.ensures.spellings in
    let following : List Spelling = spec.spelling_of (words_of c.in-Some.rest.now).0 ∷ map spec.spelling_of (words_of c.in-Some.rest.now).1 in
    rw words (
    c.put_arguments.ensures.spellings holds
    ∙ ap (λ (front : List Spelling). front ++ following) spellings
    ∙ append_assoc c.args.spellings.now.items (spec.spelling_of c.in-Some.word.now ∷ []) following
    )

pub returns-in-None-clause-few : goal.returns-in-None-clause-few
returns-in-None-clause-few t c =
    let whole = words_whole c.args.text.now (sym c.in-None.ensures) in
    rw whole (count_last (length c.args.spellings.now.items) c.requires.few c.if-is_full.ensures.value)

pub returns-in-None-clause-plain : goal.returns-in-None-clause-plain
returns-in-None-clause-plain t c holds =
    let whole = words_whole c.args.text.now (sym c.in-None.ensures) in
    rw whole c.put_argument-in-None.ensures.plain

pub returns-in-None-clause-spellings : goal.returns-in-None-clause-spellings
returns-in-None-clause-spellings t c holds =
    let whole = words_whole c.args.text.now (sym c.in-None.ensures) in
    rw whole c.put_argument-in-None.ensures.spellings
