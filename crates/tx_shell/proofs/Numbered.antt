-- The numbers that are listed, as far as they are looked at.
use Rattle.std.proofs.Common.{◌≡◌, ℕ, ◌+◌, Bool, true, false, cond, if◌then◌else◌, List, [], ◌∷◌, ◌++◌, codes, refl, sym, ap, ◌∙◌, add-one, append_assoc}
use Rattle.std.proofs.lemmas.List.{append-nil}
use Rattle.tx_lines.specs.Lists.{some_after}
use Rattle.tx_lines.specs.ListLaws.{some_in}
use Rattle.tx_shell.specs.Owners.{list_said, listed_below, member_said, more_said}

module _ (say : ℕ → List ℕ) where
  -- numbers joined by commas, or nothing for none
  abbrev pub joined : List ℕ → List ℕ
  joined [] = []
  joined (n ∷ ns) = say n ++ more_said say ns

  more_push : (ns : List ℕ) (n : ℕ) → more_said say (ns ++ n ∷ []) ≡ more_said say ns ++ 44 ∷ say n
  more_push [] n = ap (λ (t : List ℕ). 44 ∷ t) (append-nil (say n))
  more_push (m ∷ ms) n =
      ap (λ (t : List ℕ). 44 ∷ (say m ++ t)) (more_push ms n) ∙ ap (λ (t : List ℕ). 44 ∷ t) (sym (append_assoc (say m) (more_said say ms) (44 ∷ say n)))

  joined_push : (ns : List ℕ) (n : ℕ) → joined (ns ++ n ∷ []) ≡ joined ns ++ member_said (some_in ns) true (say n)
  joined_push [] n = append-nil (say n)
  joined_push (m ∷ ms) n = ap (λ (t : List ℕ). say m ++ t) (more_push ms n) ∙ sym (append_assoc (say m) (more_said say ms) (44 ∷ say n))

  some_push : (ns : List ℕ) (n : ℕ) → some_in (ns ++ n ∷ []) ≡ true
  some_push [] n = refl
  some_push (m ∷ ms) n = refl

  one_looked : (ns : List ℕ) (n : ℕ) (is : Bool) →
      (joined (ns ++ cond is (n ∷ []) []) ≡ joined ns ++ member_said (some_in ns) is (say n)) × (some_in (ns ++ cond is (n ∷ []) []) ≡ some_after (some_in ns) is)
  one_looked ns n true = (joined_push ns n, some_push ns n)
  one_looked ns n false = (ap joined (append-nil ns) ∙ sym (append-nil (joined ns)), ap some_in (append-nil ns))

  list_end : (ns : List ℕ) → joined ns ++ (if some_in ns then [] else codes "-") ≡ list_said say ns
  list_end [] = refl
  list_end (n ∷ ns) = append-nil (say n ++ more_said say ns)

  -- those of the first i numbers that are listed are after what there was before, and whether there is one
  pub record NumberedTo (listed : ℕ → Bool) (before now : List ℕ) (any : Bool) (i : ℕ) : Type 0 where
    pub text : now ≡ before ++ joined (listed_below listed i)
    pub some : any ≡ some_in (listed_below listed i)

  pub none_numbered : (listed : ℕ → Bool) (before : List ℕ) → NumberedTo listed before before false 0
  unfolding listed_below
  none_numbered listed before = record { text = sym (append-nil before); some = refl }

  -- one number more
  pub one_numbered : (listed : ℕ → Bool) (before now after : List ℕ) (any any' is : Bool) (i : ℕ) → NumberedTo listed before now any i → is ≡ listed i →
      after ≡ now ++ member_said any is (say i) → any' ≡ some_after any is → NumberedTo listed before after any' (i + 1)
  unfolding listed_below
  one_numbered listed before now after any any' is i so same more is_some =
      let ns : List ℕ = listed_below listed i in
      let one : listed_below listed (i + 1) ≡ ns ++ (if is then i ∷ [] else []) = ap (listed_below listed) (add-one i) ∙ ap (λ (b : Bool). ns ++ (if b then i ∷ [] else [])) (sym same) in
      let both = one_looked ns i is in
      record {
        text = more
            ∙ ap (λ (t : List ℕ). t ++ member_said any is (say i)) so.text
            ∙ append_assoc before (joined ns) (member_said any is (say i))
            ∙ ap (λ (b : Bool). before ++ (joined ns ++ member_said b is (say i))) so.some
            ∙ ap (λ (t : List ℕ). before ++ t) (sym both.0 ∙ ap joined (sym one));
        some = is_some ∙ ap (λ (b : Bool). some_after b is) so.some ∙ sym both.1 ∙ ap some_in (sym one);
      }

  -- no number is left
  pub all_numbered : (listed : ℕ → Bool) (before now after : List ℕ) (any : Bool) (i limit : ℕ) → NumberedTo listed before now any i → i ≡ limit →
      after ≡ now ++ (if any then [] else codes "-") → after ≡ before ++ list_said say (listed_below listed limit)
  all_numbered listed before now after any i limit so last more =
      more
      ∙ ap (λ (t : List ℕ). t ++ (if any then [] else codes "-")) so.text
      ∙ append_assoc before (joined (listed_below listed i)) (if any then [] else codes "-")
      ∙ ap (λ (b : Bool). before ++ (joined (listed_below listed i) ++ (if b then [] else codes "-"))) so.some
      ∙ ap (λ (t : List ℕ). before ++ t) (list_end (listed_below listed i) ∙ ap (λ (n : ℕ). list_said say (listed_below listed n)) last)
