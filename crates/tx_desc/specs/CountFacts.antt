-- Facts of counts of names. They are proved here, so nobody has to believe them.
use Rattle.std.proofs.Common.{◌≡◌, ℕ, ◌+◌, List, ◌∷◌, Option, get_or, None, sym, subst}
use Rattle.std.proofs.lemmas.List.Sums.{sum_by-cons}
use Rattle.tx_desc.specs.Counts.{count_in, names_in, HasNames, KeepsCounts, Agrees}
use Rattle.tx_desc.specs.Places.{Descriptors}
use Rattle.tx_desc.specs.declared.opened.Opened.{Opened}

pub names-cons : (d : ℕ) (t : Descriptors) (ts : List Descriptors)
    → names_in d (t ∷ ts) ≡ count_in d t + names_in d ts
names-cons d t ts = sum_by-cons (count_in d) t ts

pub same_names : (m n : ℕ) (p : Option Opened) → m ≡ n → HasNames n p → HasNames m p
same_names m n p e h = subst (λ (k : ℕ). HasNames k p) (sym e) h

-- the order of the tables does not matter
pub agrees_same : (ts us : List Descriptors) (D : List (Option Opened))
    → ((e : ℕ) → names_in e us ≡ names_in e ts) → Agrees ts D → Agrees us D
agrees_same ts us D same a =
    record {
      counted =
          λ e. same_names (names_in e us) (names_in e ts) (get_or D e None) (same e) (a.counted e);
    }

-- whatever other processes name
pub keeps_over :
    (t u : Descriptors) (ts us : List Descriptors) (D E : List (Option Opened)) (rest : ℕ → ℕ) →
    ((e : ℕ) → names_in e ts ≡ count_in e t + rest e)
    → ((e : ℕ) → names_in e us ≡ count_in e u + rest e) → KeepsCounts t u D E → Agrees ts D
    → Agrees us E
keeps_over t u ts us D E rest before after keeps a = record {
  counted = λ e.
      same_names (names_in e us) (count_in e u + rest e) (get_or E e None) (after e)
      (keeps.each e (rest e)
      (same_names (count_in e t + rest e) (names_in e ts) (get_or D e None) (sym (before e))
      (a.counted e)));
}
