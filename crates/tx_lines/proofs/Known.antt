-- The signals of a set, listed one after another.
use Rattle.std.proofs.Common.{◌≡◌, ℕ, ◌+◌, ◌<◌, ◌≤◌, Bool, false, cond, if◌then◌else◌, List, [], ◌∷◌, ◌++◌, codes, take, get_or, refl, sym, ap, ◌∙◌, append_assoc}
use Rattle.std.proofs.lemmas.List.{append-nil, take_all}
use Rattle.std.proofs.lemmas.List.Elements.{filter_more}
use Rattle.std.specs.List.{filter}
use Rattle.tx_model.specs.SignalSets.{is_in_set, realtime_signals, standard_signals}
use Rattle.tx_lines.specs.Lists.{list_text, member_text, some_after}
use Rattle.tx_lines.specs.ListLaws.{joined, list_end, one_looked, some_in}
use Rattle.tx_lines.specs.Sets.{bits_text, members}

abbrev pub all_signals : List ℕ
all_signals = standard_signals ++ realtime_signals

-- those of the first so many known signals that are in the set
abbrev pub first_of : ℕ → ℕ → List ℕ
first_of set i = filter (is_in_set set) (take i all_signals)

-- so far: these are listed, and whether there is one
pub record SetSoFar (set : ℕ) (before now : List ℕ) (any : Bool) (i : ℕ) : Type 0 where
  pub text : now ≡ before ++ joined (first_of set i)
  pub some : any ≡ some_in (first_of set i)

pub none_looked : (set : ℕ) (before : List ℕ) → SetSoFar set before before false 0
none_looked set before = record { text = sym (append-nil before); some = refl }

-- one signal more
pub one_more_looked : (set : ℕ) (before now after : List ℕ) (any any' : Bool) (i n : ℕ) → SetSoFar set before now any i → i < 19 → n ≡ get_or all_signals i 0 →
    after ≡ now ++ member_text any (is_in_set set n) n → any' ≡ some_after any (is_in_set set n) → SetSoFar set before after any' (i + 1)
one_more_looked set before now after any any' i n so inside at more is_some =
    let is : Bool = is_in_set set n in
    let ns : List ℕ = first_of set i in
    let one : first_of set (i + 1) ≡ ns ++ cond is (n ∷ []) [] = rw at (filter_more (is_in_set set) all_signals i 0 inside) in
    let both = one_looked ns n is in
    record {
      text = more
          ∙ ap (λ (t : List ℕ). t ++ member_text any is n) so.text
          ∙ append_assoc before (joined ns) (member_text any is n)
          ∙ ap (λ (b : Bool). before ++ (joined ns ++ member_text b is n)) so.some
          ∙ ap (λ (t : List ℕ). before ++ t) (sym both.0 ∙ ap joined (sym one));
      some = is_some ∙ ap (λ (b : Bool). some_after b is) so.some ∙ sym both.1 ∙ ap some_in (sym one);
    }

-- no signal is left
pub all_looked : (set : ℕ) (before now after : List ℕ) (any : Bool) (i : ℕ) → SetSoFar set before now any i → 19 ≤ i →
    after ≡ now ++ (if any then [] else codes "-") → after ≡ before ++ bits_text set
unfolding members
all_looked set before now after any i so none more =
    let whole : first_of set i ≡ members set = ap (filter (is_in_set set)) (take_all i all_signals none) in
    more
    ∙ ap (λ (t : List ℕ). t ++ (if any then [] else codes "-")) so.text
    ∙ append_assoc before (joined (first_of set i)) (if any then [] else codes "-")
    ∙ ap (λ (b : Bool). before ++ (joined (first_of set i) ++ (if b then [] else codes "-"))) so.some
    ∙ ap (λ (t : List ℕ). before ++ t) (list_end (first_of set i) ∙ ap list_text whole)
