-- What is found among topics is the topic of the row that is found in the table.
use Rattle.std.proofs.Common.{◌≡◌, ◌∙◌, Bool, true, false, cond, ◌||◌, ◌&&◌, List, [], ◌∷◌, ◌++◌, map, Option, Some, refl, ap, ap₂, sym, subst, rules, IsTrue, option_map, Bor}
use Rattle.std.specs.Prelude.{IfSome}
use Rattle.std.proofs.lemmas.List.Folds.{list_all-append}
use Rattle.std.specs.List.{find, list_all, list_any}
use Rattle.tx_explain.specs.declared.topic.Topic.{Topic}
use Rattle.tx_explain.specs.declared.topic.Group.{Group}
use Rattle.tx_explain.specs.Table.{Row, Text, all_rows}
use Rattle.tx_explain.specs.Topics.{is_among, is_formed, is_formed_group, is_page, is_same_word, opens, row_asked, row_of, rows_in, rows_of_group, spells, topics_in}

-- a topic is asked for by its word, or by another of its words
pub spelled_by : (word : Text) (topic : Topic) → spells word topic ≡ (is_same_word topic.word.now word || list_any (λ (w : Bor Text). is_same_word w.now word) topic.also.now)
spelled_by word topic = ap (λ b. is_same_word topic.word.now word || b) (go topic.also.now)
  where
    go : (also : List (Bor Text)) → list_any (λ one. is_same_word one word) (map (λ (w : Bor Text). w.now) also) ≡ list_any (λ (w : Bor Text). is_same_word w.now word) also
    go [] = refl
    go (w ∷ ws) = ap (λ b. is_same_word w.now word || b) (go ws)

found_row : (test : Row → Bool) (topics : List Topic) → find test (map row_of topics) ≡ option_map row_of (find (λ t. test (row_of t)) topics)
found_row test [] = refl
found_row test (t ∷ ts) = go (test (row_of t)) (found_row test ts)
  where
    go : (b : Bool) → find test (map row_of ts) ≡ option_map row_of (find (λ t. test (row_of t)) ts)
        → cond b (Some (row_of t)) (find test (map row_of ts)) ≡ option_map row_of (cond b (Some t) (find (λ t. test (row_of t)) ts))
    go true is = refl
    go false is = is

appended : (xs ys : List Topic) → map row_of (xs ++ ys) ≡ map row_of xs ++ map row_of ys
appended [] ys = refl
appended (x ∷ xs) ys = ap (λ zs. row_of x ∷ zs) (appended xs ys)

in_groups : (groups : List Group) → rows_in (map rows_of_group groups) ≡ map row_of (topics_in groups)
in_groups [] = refl
in_groups (g ∷ gs) = ap (λ zs. map row_of g.topics.now ++ zs) (in_groups gs) ∙ sym (appended g.topics.now (topics_in gs))

-- what is found in the table is the row of the topic that is found
pub row_found : (test : Row → Bool) (groups : List Group) → map rows_of_group groups ≡ all_rows
    → find test (rows_in all_rows) ≡ option_map row_of (find (λ t. test (row_of t)) (topics_in groups))
row_found test groups all =
    ap (λ rows. find test (rows_in rows)) (sym all) ∙ ap (find test) (in_groups groups) ∙ found_row test (topics_in groups)

-- the same of what a word asks for
pub row_is : (word : Text) (groups : List Group) (found : Option Topic) → map rows_of_group groups ≡ all_rows → found ≡ find (spells word) (topics_in groups)
    → row_asked word ≡ option_map row_of found
row_is word groups found all is = row_found (λ (row : Row). is_among word row.0) groups all ∙ ap (option_map row_of) (sym is)

both_true : (a b : Bool) → (a && b) ≡ true → (a ≡ true) × (b ≡ true)
both_true true true is = (refl, refl)
both_true true false is = cc
both_true false b is = cc

-- what is found among topics that are well formed is so
formed_one : (test : Topic → Bool) (topics : List Topic) → list_all is_formed topics ≡ true → IfSome (find test topics) (λ t. is_formed t ≡ true)
formed_one test [] all = tt
formed_one test (t ∷ ts) all =
    let both = both_true (is_formed t) (list_all is_formed ts) all in
    go (test t) both.0 (formed_one test ts both.1)
  where
    go : (b : Bool) → is_formed t ≡ true → IfSome (find test ts) (λ x. is_formed x ≡ true) → IfSome (cond b (Some t) (find test ts)) (λ x. is_formed x ≡ true)
    go true is rest = is
    go false is rest = rest

all_formed : (groups : List Group) → list_all is_formed_group groups ≡ true → list_all is_formed (topics_in groups) ≡ true
all_formed [] all = refl
all_formed (g ∷ gs) all =
    let both = both_true (is_formed_group g) (list_all is_formed_group gs) all in
    list_all-append is_formed g.topics.now (topics_in gs) ∙ ap₂ (λ a b. a && b) both.0 (all_formed gs both.1)

-- a topic that is found is well formed
pub found_formed : (word : Text) (groups : List Group) (topic : Topic) → IsTrue (list_all is_formed_group groups)
    → Some topic ≡ find (spells word) (topics_in groups)
    → IsTrue (opens topic.word.now topic.text.now) × IsTrue (is_page topic.text.now)
found_formed word groups topic all is =
    let formed : is_formed topic ≡ true =
    subst (λ found. IfSome found (λ t. is_formed t ≡ true)) (sym is) (formed_one (spells word) (topics_in groups) (all_formed groups (search (rules, all)))) in
    both_true _ _ formed
