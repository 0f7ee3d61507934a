-- The laws of the counts.
use Rattle.std.proofs.Common.{◌≡◌, ℕ, zero, suc, ◌*◌, ◌<◌, ◌≤◌, ◌↔◌, List, [], ◌∷◌, length, All, Contains, IsSome, Option, Some, None, replicate, get_or, refl, sym, ap, subst, arith, false}
use Rattle.std.proofs.lemmas.List.Sorted.{sum_by-IsPermutation}
use Rattle.std.proofs.lemmas.List.Sums.{count_by-le-length, sum_by-set}
use Rattle.std.proofs.lemmas.List.Elements.{All-head, All-tail}
use Rattle.std.proofs.lemmas.Bool.{both_ways}
use Rattle.std.specs.Prelude.{IsPermutation}
use Rattle.tx_model.specs.State.{is_number}
use Rattle.tx_desc.specs.declared.opened.Opened.{Opened}
use Rattle.tx_desc.specs.Places.{Descriptors}
use Rattle.tx_desc.specs.Counts.{count_in, names_in, HasNames, Agrees, IsEnough, IsBacked}
use Rattle.tx_desc.proofs.Counting.{count-cons}
use Rattle.tx_desc.specs.CountFacts.{agrees_same, names-cons}

get_or-empty : (n d : ℕ) → get_or (replicate {A = Option Opened} n None) d None ≡ None
get_or-empty zero d = refl
get_or-empty (suc n) zero = refl
get_or-empty (suc n) (suc d) = get_or-empty n d

pub none_agrees : (n : ℕ) (ts : List Descriptors) → ((d : ℕ) → names_in d ts ≡ 0) → Agrees ts (replicate n None)
none_agrees n ts none = record { counted = λ d. subst (HasNames (names_in d ts)) (sym (get_or-empty n d)) (none d) }

count-empty : (d n : ℕ) → count_in d (replicate n None) ≡ 0
count-empty d zero = refl
count-empty d (suc n) = let more = count-cons d None (replicate n None) in let less = count-empty d n in omega arith

pub names-empty : (d n k : ℕ) → names_in d (replicate n (replicate k None)) ≡ 0
names-empty d zero k = refl
names-empty d (suc n) k =
    let more = names-cons d (replicate k None) (replicate n (replicate k None)) in
    let less = names-empty d n k in
    let none = count-empty d k in
    omega arith

there : (n : ℕ) (p : Option Opened) → HasNames n p → IsSome p ↔ (0 < n)
there n None h = (λ s. absurd (both_ways false refl s), λ l. absurd (omega (arith, h)))
there n (Some o) h = (λ s. h.0, λ l. refl)

pub there_named : (ts : List Descriptors) (D : List (Option Opened)) (d : ℕ) → Agrees ts D → IsSome (get_or D d None) ↔ (0 < names_in d ts)
there_named ts D d a = there (names_in d ts) (get_or D d None) (a.counted d)

pub names-le : (d : ℕ) (ts : List Descriptors) → All (λ (t : Descriptors). length t ≡ 16) ts → names_in d ts ≤ 16 * length ts
names-le d [] all = omega arith
names-le d (t ∷ ts) all =
    let first : length t ≡ 16 = All-head (λ (each : Descriptors). length each ≡ 16) t ts all in
    let less = names-le d ts (All-tail (λ (each : Descriptors). length each ≡ 16) t ts all) in
    let few = count_by-le-length (is_number d) t in
    let both = names-cons d t ts in
    omega (arith, few)

pub count-le-names : (d : ℕ) (ts : List Descriptors) (t : Descriptors) → Contains ts t → count_in d t ≤ names_in d ts
count-le-names d ts t c =
    let none : count_in d [] ≡ 0 = refl in
    let cut = sum_by-set (count_in d) ts c.0 [] t c.1 in
    let here : count_in d (get_or ts c.0 t) ≡ count_in d t = ap (count_in d) c.2 in
    omega (arith, cut)

enough : (m n : ℕ) (p : Option Opened) → m ≤ n → n ≤ 4096 → HasNames n p → IsEnough m 16 p
enough m n None less few h = omega (arith, h)
enough m n (Some o) less few h = (omega (arith, h.1), omega (arith, h.1))

pub room : (ts : List Descriptors) (D : List (Option Opened)) (t : Descriptors) → Agrees ts D → length ts ≤ 256 →
    All (λ (each : Descriptors). length each ≡ 16) ts → Contains ts t → IsBacked 16 t D
room ts D t a few all among = record {
  enough = λ d.
      let most = names-le d ts all in
      enough (count_in d t) (names_in d ts) (get_or D d None) (count-le-names d ts t among) (omega arith) (a.counted d);
}

pub permuted : (ts us : List Descriptors) (D : List (Option Opened)) → IsPermutation ts us → Agrees ts D → Agrees us D
permuted ts us D p a = agrees_same ts us D (λ d. sum_by-IsPermutation (count_in d) ts us p) a
