use Rattle.std.proofs.Common.{◌≡◌, ◌+◌, ◌++◌, ◌∷◌, ℕ, suc, List, length, map, nat_le, ap, sym, ◌∙◌, refl, arith}
use Rattle.tx_lines.specs.Instructions as spec
use Rattle.tx_lines.specs.Instructions.{plain_word, words_of}
use Rattle.tx_lines.specs.Words.{joined}
use Rattle.tx_lines.specs.declared.instructions.Spelling.{Spelling}
use Rattle.tx_lines.proofs.LineWords.{split_length, words_split, words_whole}
use Rattle.tx_lines.proofs.read.spellings.put_plain.Goals as goal

pub put_bytes-requires : goal.put_bytes-requires
put_bytes-requires c =
    let size = split_length c.args.line.now c.in-Some.name.now c.in-Some.arguments.now (sym c.in-Some.ensures) in
    omega (arith, size, ap length c.requires.no_text, c.requires.short)

pub put_arguments-requires-clause-room : goal.put_arguments-requires-clause-room
put_arguments-requires-clause-room c =
    let size = split_length c.args.line.now c.in-Some.name.now c.in-Some.arguments.now (sym c.in-Some.ensures) in
    let name : c.put_bytes.new.plain.items ≡ c.in-Some.name.now = c.put_bytes.ensures ∙ ap (λ (front : List ℕ). front ++ c.in-Some.name.now) c.requires.no_text in
    omega (arith, size, ap length name, c.requires.short)

pub returns-in-Some-clause-few : goal.returns-in-Some-clause-few
returns-in-Some-clause-few c =
    let words = words_split c.args.line.now c.in-Some.name.now c.in-Some.arguments.now (sym c.in-Some.ensures) in
    let others : ℕ = length (words_of c.in-Some.arguments.now).1 in
    let size : length c.args.spellings.now.items + 1 + others ≡ suc others = omega (arith, ap length c.requires.no_spelling) in
    rw words (c.put_arguments.ensures.few ∙ ap (λ (n : ℕ). nat_le n 4) size)

pub returns-in-Some-clause-plain : goal.returns-in-Some-clause-plain
returns-in-Some-clause-plain c holds =
    let words = words_split c.args.line.now c.in-Some.name.now c.in-Some.arguments.now (sym c.in-Some.ensures) in
    let name : c.put_bytes.new.plain.items ≡ c.in-Some.name.now = c.put_bytes.ensures ∙ ap (λ (front : List ℕ). front ++ c.in-Some.name.now) c.requires.no_text in
    let following : List ℕ = 32 ∷ joined (plain_word (words_of c.in-Some.arguments.now).0) (map plain_word (words_of c.in-Some.arguments.now).1) in
    rw words (c.put_arguments.ensures.plain holds ∙ ap (λ (front : List ℕ). front ++ following) name)

pub returns-in-Some-clause-spellings : goal.returns-in-Some-clause-spellings
returns-in-Some-clause-spellings c holds =
    let words = words_split c.args.line.now c.in-Some.name.now c.in-Some.arguments.now (sym c.in-Some.ensures) in
    let following : List Spelling = spec.spelling_of (words_of c.in-Some.arguments.now).0 ∷ map spec.spelling_of (words_of c.in-Some.arguments.now).1 in
    rw words (c.put_arguments.ensures.spellings holds ∙ ap (λ (front : List Spelling). front ++ following) c.requires.no_spelling)

pub returns-in-None-clause-few : goal.returns-in-None-clause-few
returns-in-None-clause-few c = let whole = words_whole c.args.line.now (sym c.in-None.ensures) in rw whole refl

pub returns-in-None-clause-plain : goal.returns-in-None-clause-plain
returns-in-None-clause-plain c holds =
    let whole = words_whole c.args.line.now (sym c.in-None.ensures) in
    rw whole (c.put_bytes-in-None.ensures ∙ ap (λ (front : List ℕ). front ++ c.args.line.now) c.requires.no_text)

pub returns-in-None-clause-spellings : goal.returns-in-None-clause-spellings
returns-in-None-clause-spellings c holds = let whole = words_whole c.args.line.now (sym c.in-None.ensures) in rw whole c.requires.no_spelling
