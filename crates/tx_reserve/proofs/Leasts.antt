-- The least number that places have.
use Rattle.std.proofs.Common.{◌≡◌, ℕ, ◌+◌, ◌*◌, ◌/◌, ◌%◌, ◌^◌, ◌<◌, true, List, get_or, Option, Some, None, ◌⊎◌, ◌↔◌, ◌==◌, nat_lt, bit_and, w32, arith, refl, sym, ap, ◌∙◌, subst, inl, inr, eqb-true}
use Rattle.std.proofs.lemmas.Bool.{cases_Bool, cases_lt, ltb-true, ltb-false}
use Rattle.std.specs.Int.{bit_at, bit_not, trailing_zeros}
use Rattle.tx_model.specs.State.{Object}
use Rattle.tx_reserve.specs.Objects.{IsInWord, has_place, is_in, object_at, place_of}
use Rattle.tx_reserve.specs.declared.objects.Objects.{Objects}
use Rattle.tx_reserve.specs.Reservations.{lesser_of, IsAtMost, IsLeast, IsLeastWith}
use Rattle.tx_reserve.proofs.Places.{lowest_or_left}
use Rattle.tx_reserve.proofs.Members.{in_by_place, in_small, object_at_place, object_at_is, place_below}

at_most_itself : (a : Option ℕ) → IsAtMost a a
at_most_itself None = tt
at_most_itself (Some s) = omega arith

at_most_both : (a b c : Option ℕ) → IsAtMost a b → IsAtMost b c → IsAtMost a c
at_most_both a b None p q = tt
at_most_both None None (Some t) p q = absurd q
at_most_both None (Some s) (Some t) p q = absurd p
at_most_both (Some r) None (Some t) p q = absurd q
at_most_both (Some r) (Some s) (Some t) p q = omega arith

-- the lesser of two numbers is one of them, and at most either
lesser_is : (a b : Option ℕ) → ((lesser_of a b ≡ b) ⊎ (a ≡ lesser_of a b)) × (IsAtMost (lesser_of a b) a) × (IsAtMost (lesser_of a b) b)
lesser_is None b = (inl refl, tt, at_most_itself b)
lesser_is (Some a) None = (inr refl, at_most_itself (Some a), tt)
lesser_is (Some a) (Some b) = elim (cases_Bool (nat_lt b a)) [
  | inl e ↦ let lt = ltb-true b a e in rw e (inl refl, omega arith, omega arith)
  | inr e ↦ let le = ltb-false b a e in rw e (inr refl, omega arith, omega arith)
]

-- with no places it is the number before
pub least_with_none : (these : ℕ → Type 0) (number : ℕ → Option ℕ) (b : Option ℕ) → ((p : ℕ) → these p → ⊥) → IsLeastWith these number b b
least_with_none these number b none = record { from = inl refl; to_before = at_most_itself b; to_each = λ p there. absurd (none p there) }

-- with one place, the lesser of two
pub least_with_one : (number : ℕ → Option ℕ) (x : ℕ) (b : Option ℕ) → IsLeastWith (λ p. p ≡ x) number b (lesser_of (number x) b)
least_with_one number x b =
    let is = lesser_is (number x) b in
    record {
      from = elim is.0 [ inl e ↦ inl e | inr e ↦ inr (x, (refl, e)) ];
      to_before = is.2;
      to_each = λ p here. let P : ℕ → Type 0 = λ q. IsAtMost (lesser_of (number x) b) (number q) in subst P (sym here) is.1;
    }

-- with some places, and then with more
pub least_with_both : (first more all : ℕ → Type 0) (number : ℕ → Option ℕ) (a b c : Option ℕ) → ((p : ℕ) → all p ↔ (first p ⊎ more p))
    → IsLeastWith first number a b → IsLeastWith more number b c → IsLeastWith all number a c
least_with_both first more all number a b c either one two = record {
  from = elim two.from [
    | inl e ↦ elim one.from [
      | inl f ↦ inl (e ∙ f)
      | inr at ↦ inr (at.0, ((either at.0).1 (inl at.1.0), at.1.1 ∙ sym e))
    ]
    | inr at ↦ inr (at.0, ((either at.0).1 (inr at.1.0), at.1.1))
  ];
  to_before = at_most_both c b a two.to_before one.to_before;
  to_each = λ p there. elim ((either p).0 there) [
    | inl f ↦ at_most_both c b (number p) two.to_before (one.to_each p f)
    | inr m ↦ two.to_each p m
  ];
}

-- with the lowest place of a word, and then with those that are left
pub least_with_lowest : (word bits : ℕ) (number : ℕ → Option ℕ) (a b c x : Option ℕ) → 0 < bits → bits < 2 ^ 32
    → a ≡ number (32 * word + trailing_zeros w32 bits) → c ≡ lesser_of a b
    → IsLeastWith (IsInWord word (bit_and bits (bit_not w32 (1 * 2 ^ trailing_zeros w32 bits % 2 ^ 32)))) number c x → IsLeastWith (IsInWord word bits) number b x
least_with_lowest word bits number a b c x positive fits is next rest =
    let lowest = 32 * word + trailing_zeros w32 bits in
    let P : Option ℕ → Type 0 = λ n. IsLeastWith (λ p. p ≡ lowest) number b n in
    least_with_both (λ p. p ≡ lowest) _ (IsInWord word bits) number b c x (λ p. lowest_or_left word bits p positive fits)
    (subst P (ap (λ n. lesser_of n b) (sym is) ∙ sym next) (least_with_one number lowest b)) rest

-- the place is in one of the first so many words, and its bit is set
pub record IsAmong (words : List ℕ) (count place : ℕ) : Type 0 where
  pub before : place < 32 * count
  pub set : has_place words place ≡ true

-- one word more adds its own places
pub one_more_word : (words : List ℕ) (word bits place : ℕ) → bits ≡ get_or words word 0 → IsAmong words (word + 1) place ↔ (IsAmong words word place ⊎ IsInWord word bits place)
unfolding has_place
one_more_word words word bits place is = (
  λ there. elim (cases_lt place (32 * word)) [
    | inl below ↦ inl (record { before = below; set = there.set })
    | inr above ↦
        let below = there.before in
        let here : place / 32 ≡ word = omega arith in
        inr (record { here = here; set = eqb-true (bit_at bits (place % 32)) 1 (sym (own here) ∙ there.set) })
  ],
  λ either. elim either [
    | inl there ↦ let below = there.before in record { before = omega arith; set = there.set }
    | inr there ↦ let here = there.here in record { before = omega arith; set = own here ∙ ap (λ (b : ℕ). b == 1) there.set }
  ],
)
  where
    own : place / 32 ≡ word → (bit_at (get_or words (place / 32) 0) (place % 32) == 1) ≡ (bit_at bits (place % 32) == 1)
    own here = ap (λ (w : ℕ). bit_at w (place % 32) == 1) (ap (λ (n : ℕ). get_or words n 0) here ∙ sym is)

-- with the places of all words, it is at most the number of each object of the set
least_below : (objects : Objects) (number : Object → Option ℕ) (count : ℕ) (x : Option ℕ) → count ≡ 11
    → IsLeastWith (IsAmong objects.words count) (λ p. number (object_at p)) None x → (o : Object) → is_in objects o ≡ true → IsAtMost x (number o)
least_below objects number count x all least o there =
    let small = in_small objects o there in
    let within : place_of o < 352 = place_below o small in
    let P : Object → Type 0 = λ q. IsAtMost x (number q) in
    subst P (object_at_is o (place_of o) small refl)
    (least.to_each (place_of o) (record { before = omega arith; set = in_by_place objects o (place_of o) small refl ∙ there }))

-- and it is the least that these have
pub least_of_set : (objects : Objects) (number : Object → Option ℕ) (count : ℕ) (x : Option ℕ) → count ≡ 11
    → IsLeastWith (IsAmong objects.words count) (λ p. number (object_at p)) None x → IsLeast (is_in objects) number x
least_of_set objects number count None all least = λ o there. none (number o) (least_below objects number count None all least o there)
  where
    none : (x : Option ℕ) → IsAtMost None x → x ≡ None
    none None most = refl
    none (Some t) most = absurd most
least_of_set objects number count (Some s) all least = elim least.from [
  | inl e ↦ absurd (cc)
  | inr at ↦
      let before = at.1.0.before in
      let object = object_at_place at.0 (omega arith) in
      record {
        at = object_at at.0;
        among = sym (in_by_place objects (object_at at.0) at.0 object.0 (sym object.1)) ∙ at.1.0.set;
        has = at.1.1;
        least = λ o t there has. let P : Option ℕ → Type 0 = λ n. IsAtMost (Some s) n in subst P has (least_below objects number count (Some s) all least o there);
      }
]
