use Rattle.std.proofs.Common.{◌≡◌, ◌<◌, length, rules}
use Rattle.tx_translate.proofs.WordParts.{first_columns, first_inside, first_place, first_some, first_words, none_columns, none_words, rest_short}
use Rattle.tx_translate.proofs.words.split_word.Goals as goal

pub returns-then-is_empty-clause-words : goal.returns-then-is_empty-clause-words
returns-then-is_empty-clause-words c =
    let none : length c.from_word-left.result.now ≡ 0 = search rules in
    none_words c.args.line.now c.from_word-left.result.now c.from_word-left.ensures none

pub returns-then-is_empty-clause-columns : goal.returns-then-is_empty-clause-columns
returns-then-is_empty-clause-columns c first =
    let none : length c.from_word-left.result.now ≡ 0 = search rules in
    none_columns c.args.line.now c.from_word-left.result.now first c.from_word-left.ensures none

pub slice_bounds-result-count : goal.slice_bounds-result-count
slice_bounds-result-count c = rest_short c.from_word-left.result.now c.after_word-rest.result.now c.after_word-rest.ensures

pub returns-clause-words : goal.returns-clause-words
returns-clause-words c =
    let some : 0 < length c.from_word-left.result.now = search rules in
    first_words c.args.line.now c.from_word-left.result.now c.after_word-rest.result.now c.from_word-left.ensures c.after_word-rest.ensures some

pub returns-clause-columns : goal.returns-clause-columns
returns-clause-columns c first =
    let some : 0 < length c.from_word-left.result.now = search rules in
    first_columns c.args.line.now c.from_word-left.result.now c.after_word-rest.result.now first c.from_word-left.ensures c.after_word-rest.ensures some

pub returns-clause-inside : goal.returns-clause-inside
returns-clause-inside c = first_inside c.args.line.now c.from_word-left.result.now c.after_word-rest.result.now c.from_word-left.ensures c.after_word-rest.ensures

pub returns-clause-some : goal.returns-clause-some
returns-clause-some c =
    let some : 0 < length c.from_word-left.result.now = search rules in
    first_some c.args.line.now c.from_word-left.result.now c.after_word-rest.result.now c.from_word-left.ensures c.after_word-rest.ensures some

pub returns-clause-place : goal.returns-clause-place
returns-clause-place c =
    let some : 0 < length c.from_word-left.result.now = search rules in
    first_place c.args.line.now c.from_word-left.result.now c.after_word-rest.result.now c.from_word-left.ensures c.after_word-rest.ensures some
