use Rattle.std.proofs.Common.{rules, ◌≡◌, ◌∙◌, ◌∷◌, List, ℕ, false, not, nat_lt, length, is_some, ap, sym}
use Rattle.std.proofs.lemmas.Bool.{ne_eqb}
use Rattle.tx_translate.proofs.NextMeant.{means_some, other_means}
use Rattle.tx_translate.proofs.WordParts.{none_words}
use Rattle.tx_translate.specs.Lines.{plain_of_words}
use Rattle.tx_translate.specs.Words.{next_from}
use Rattle.tx_translate.proofs.meant_lines.means_one.Goals as goal

pub returns-in_default : goal.returns-in_default
returns-in_default c =
    let line = c.args.line.now in
    let short : nat_lt 512 (length line) ≡ false = search rules in
    let words = none_words line c.from_word.result.now c.from_word.ensures c.in_default.ensures.cases in
    sym (means_some c.args.stage line short ∙ ap (λ (ws : List (List ℕ)). is_some (plain_of_words c.args.stage ws)) words)

pub returns-then-byte-ne110 : goal.returns-then-byte-ne110
returns-then-byte-ne110 c =
    let line = c.args.line.now in
    let byte = c.in-Some.byte.now in
    let short : nat_lt 512 (length line) ≡ false = search rules in
    let parts : c.from_word.result.now ≡ byte ∷ c.in-Some._rest.now = search rules in
    let next : next_from line ≡ byte ∷ c.in-Some._rest.now = sym c.from_word.ensures ∙ parts in
    ap not (ne_eqb byte 110 c.if-byte-ne110.true) ∙ sym (means_some c.args.stage line short ∙ other_means c.args.stage line byte c.in-Some._rest.now next c.if-byte-ne110.true)
