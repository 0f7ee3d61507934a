-- What is found among topics is found by going over them, and over groups, in order.
use Rattle.std.proofs.Common.{◌≡◌, ◌∙◌, ℕ, ◌<◌, ◌+◌, suc, zero, Bool, true, false, cond, List, [], ◌∷◌, length, get_or, take, Option, Some, None, refl, ap, sym, subst, arith}
use Rattle.std.proofs.lemmas.List.Folds.{find-append}
use Rattle.std.specs.List.{find}
use Rattle.std.specs.Option.{option_or}
use Rattle.tx_explain.specs.declared.topic.Topic.{Topic}
use Rattle.tx_explain.specs.declared.topic.Group.{Group}
use Rattle.tx_explain.specs.Topics.{topics_in}

-- none is found in front
passes_by : {X : Type 0} (b : Bool) (x : X) (rest : Option X) → cond b (Some x) rest ≡ None → (b ≡ false) × (rest ≡ None)
passes_by true x rest is = cc
passes_by false x rest is = (refl, is)

-- the first that passes, after those that do not
pub found_at : (test : Topic → Bool) (topics : List Topic) (i : ℕ) (d : Topic) → i < length topics → find test (take i topics) ≡ None
    → test (get_or topics i d) ≡ true → find test topics ≡ Some (get_or topics i d)
found_at test [] i d below before passes = absurd (omega arith)
found_at test (t ∷ ts) zero d below before passes = ap (λ b. cond b (Some t) (find test ts)) passes
found_at test (t ∷ ts) (suc i) d below before passes =
    let none = passes_by _ _ _ before in
    ap (λ b. cond b (Some t) (find test ts)) none.0 ∙ found_at test ts i d (omega arith) none.1 passes

-- one more that does not pass
none_up_to : (test : Topic → Bool) (topics : List Topic) (i : ℕ) (d : Topic) → i < length topics → find test (take i topics) ≡ None
    → test (get_or topics i d) ≡ false → find test (take (suc i) topics) ≡ None
none_up_to test [] i d below before passes = absurd (omega arith)
none_up_to test (t ∷ ts) zero d below before passes = ap (λ b. cond b (Some t) None) passes
none_up_to test (t ∷ ts) (suc i) d below before passes =
    let none = passes_by _ _ _ before in
    ap (λ b. cond b (Some t) (find test (take (suc i) ts))) none.0 ∙ none_up_to test ts i d (omega arith) none.1 passes

pub none_and_one : (test : Topic → Bool) (topics : List Topic) (i : ℕ) (d : Topic) → i < length topics → find test (take i topics) ≡ None
    → test (get_or topics i d) ≡ false → find test (take (i + 1) topics) ≡ None
none_and_one test topics i d below before passes =
    let next : suc i ≡ i + 1 = omega arith in
    subst (λ k. find test (take k topics) ≡ None) next (none_up_to test topics i d below before passes)

neither : (one other : Option Topic) → option_or one other ≡ None → (one ≡ None) × (other ≡ None)
neither None other is = (refl, is)
neither (Some t) other is = cc

-- the first group that has one that passes, after those that have none
pub found_in : (test : Topic → Bool) (groups : List Group) (i : ℕ) (d : Group) (topic : Topic) → i < length groups → find test (topics_in (take i groups)) ≡ None
    → find test (get_or groups i d).topics.now ≡ Some topic → find test (topics_in groups) ≡ Some topic
found_in test [] i d topic below before found = absurd (omega arith)
found_in test (g ∷ gs) zero d topic below before found =
    find-append test g.topics.now (topics_in gs) ∙ ap (λ one. option_or one (find test (topics_in gs))) found
found_in test (g ∷ gs) (suc i) d topic below before found =
    let none = neither _ _ (sym (find-append test g.topics.now (topics_in (take i gs))) ∙ before) in
    find-append test g.topics.now (topics_in gs) ∙ ap (λ one. option_or one (find test (topics_in gs))) none.0
    ∙ found_in test gs i d topic (omega arith) none.1 found

-- one more group that has none
none_in : (test : Topic → Bool) (groups : List Group) (i : ℕ) (d : Group) → i < length groups → find test (topics_in (take i groups)) ≡ None
    → find test (get_or groups i d).topics.now ≡ None → find test (topics_in (take (suc i) groups)) ≡ None
none_in test [] i d below before found = absurd (omega arith)
none_in test (g ∷ gs) zero d below before found =
    find-append test g.topics.now [] ∙ ap (λ one. option_or one None) found
none_in test (g ∷ gs) (suc i) d below before found =
    let none = neither _ _ (sym (find-append test g.topics.now (topics_in (take i gs))) ∙ before) in
    find-append test g.topics.now (topics_in (take (suc i) gs)) ∙ ap (λ one. option_or one (find test (topics_in (take (suc i) gs)))) none.0
    ∙ none_in test gs i d (omega arith) none.1 found

pub none_and_group : (test : Topic → Bool) (groups : List Group) (i : ℕ) (d : Group) → i < length groups → find test (topics_in (take i groups)) ≡ None
    → find test (get_or groups i d).topics.now ≡ None → find test (topics_in (take (i + 1) groups)) ≡ None
none_and_group test groups i d below before found =
    let next : suc i ≡ i + 1 = omega arith in
    subst (λ k. find test (topics_in (take k groups)) ≡ None) next (none_in test groups i d below before found)
