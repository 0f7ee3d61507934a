-- The word that is nearest, by the topic that is found.
use Rattle.std.proofs.Common.{◌≡◌, ◌∙◌, ℕ, ◌<◌, ◌+◌, ◌-◌, suc, zero, false, nat_le, List, map, Option, Some, None, refl, ap, sym, subst, arith, option_map}
use Rattle.std.specs.List.{find}
use Rattle.std.specs.Option.{option_or}
use Rattle.tx_explain.specs.declared.topic.Topic.{Topic}
use Rattle.tx_explain.specs.declared.topic.Group.{Group}
use Rattle.tx_explain.specs.Edits.{edits, is_near, is_near_topic, near_word, nearest_below}
use Rattle.tx_explain.specs.Table.{Row, Text, all_rows}
use Rattle.tx_explain.specs.Topics.{name_in, row_of, rows_of_group, topics_in}
use Rattle.tx_explain.proofs.Asked.{row_found}

-- the first word that is near is that of the first topic whose word is
pub near_among : (most : ℕ) (word : Text) (groups : List Group) → map rows_of_group groups ≡ all_rows
    → near_word most word ≡ option_map (λ (t : Topic). t.word.now) (find (is_near_topic most word) (topics_in groups))
near_among most word groups all =
    ap (option_map name_in) (row_found (λ (row : Row). is_near most word (name_in row)) groups all) ∙ go (find (is_near_topic most word) (topics_in groups))
  where
    go : (found : Option Topic) → option_map name_in (option_map row_of found) ≡ option_map (λ (t : Topic). t.word.now) found
    go None = refl
    go (Some t) = refl

nearest_next : (edits : ℕ) (word : Text) → nearest_below (edits + 1) word ≡ option_or (nearest_below edits word) (near_word edits word)
nearest_next edits word =
    let next : suc edits ≡ edits + 1 = omega arith in
    subst (λ k. nearest_below k word ≡ option_or (nearest_below edits word) (near_word edits word)) next refl

-- none is nearer, and none is as near
pub none_below : (edits : ℕ) (word : Text) → nearest_below edits word ≡ None → near_word edits word ≡ None → nearest_below (edits + 1) word ≡ None
none_below edits word nearer near = nearest_next edits word ∙ ap (λ it. option_or it (near_word edits word)) nearer ∙ near

found_before : (more edits : ℕ) (word name : Text) → nearest_below edits word ≡ None → near_word edits word ≡ Some name → (below : ℕ) → below ≡ suc (more + edits)
    → nearest_below below word ≡ Some name
found_before zero edits word name nearer near below is =
    let next : below ≡ edits + 1 = omega (arith, is) in
    ap (λ k. nearest_below k word) next ∙ nearest_next edits word ∙ ap (λ it. option_or it (near_word edits word)) nearer ∙ near
found_before (suc more) edits word name nearer near zero is = absurd (omega (arith, is))
found_before (suc more) edits word name nearer near (suc below) is =
    ap (λ it. option_or it (near_word below word)) (found_before more edits word name nearer near below (omega (arith, is)))

-- none is nearer than the first that is near, whatever is farther
pub found_below : (edits below : ℕ) (word name : Text) → edits < below → nearest_below edits word ≡ None → near_word edits word ≡ Some name → nearest_below below word ≡ Some name
found_below edits below word name less nearer near = found_before (below - suc edits) edits word name nearer near below (omega (arith, less))

-- more edits than so many
pub is_far : (name word : Text) (found most : ℕ) → found ≡ edits name word → most < found → is_near most word name ≡ false
is_far name word found most is more = ap (λ n. nat_le n most) (sym is) ∙ grind (arith, more)
