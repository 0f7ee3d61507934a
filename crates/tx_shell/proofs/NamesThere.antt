-- The names that processes have, as far as they are found.
use Rattle.std.proofs.Common.{◌≡◌, ℕ, zero, suc, ◌+◌, ◌<◌, ◌≤◌, ◌||◌, Bool, true, false, cond, if◌then◌else◌, List, [], ◌∷◌, Option, None, Some, arith, count_by, drop, fold, is_some, length, map, nat_le, option_map, take, refl, sym, ap, ◌∙◌, inl, inr}
use Rattle.std.proofs.lemmas.List.{take-map}
use Rattle.std.proofs.lemmas.List.Folds.{fold-map}
use Rattle.std.proofs.Math.ListN.{drop_of_length-le}
use Rattle.std.proofs.lemmas.Bool.Decides.{eqb_tells, nat_tests}
use Rattle.std.specs.List.{filter}
use Rattle.tx_base.specs.declared.steps.Accepted.{Accepted}
use Rattle.tx_journal.specs.Entries.{accepted_of, history_of}
use Rattle.tx_journal.specs.Sessions.{SessionState}
use Rattle.tx_journal.specs.declared.entry.Entry.{Entry}
use Rattle.tx_translate.specs.Written.{NameAt}
use Rattle.tx_shell.proofs.Listed.{oldest_first}
use Rattle.tx_shell.specs.Names.{forked, forks, given_as, has_name, is_given_to, is_it, Names}
use Rattle.tx_shell.specs.declared.names.Given.{Given}

-- the steps that fork one, among entries
counted : (q : ℕ) (entries : List Entry) → count_by (λ (e : Accepted). is_it q (forked e.step)) (map accepted_of entries) ≡ count_by (λ (entry : Entry). is_it q (forked entry.step)) entries
counted q entries = fold-map (λ (n : ℕ) (e : Accepted). n + cond (is_it q (forked e.step)) 1 0) accepted_of 0 entries

pub forks_among : (q n : ℕ) (entries : List Entry) → forks (history_of entries) q n ≡ count_by (λ (entry : Entry). is_it q (forked entry.step)) (take n entries)
forks_among q n entries =
    ap (λ (es : List Accepted). count_by (λ (e : Accepted). is_it q (forked e.step)) (take n es)) (oldest_first entries)
    ∙ ap (count_by (λ (e : Accepted). is_it q (forked e.step))) (take-map accepted_of n entries)
    ∙ counted q (take n entries)

-- a name after another one
abbrev pub name_after : SessionState → ℕ → Option (List ℕ) → NameAt → Option (List ℕ)
name_after k q found given = if is_given_to k q given then Some given.name else found

-- the last of those that are left counts, where the first i led to that
abbrev pub FoundSoFar : SessionState → ℕ → List Given → Option (List ℕ) → ℕ → Type 0
FoundSoFar k q given found i = fold (name_after k q) None (map given_as given) ≡ fold (name_after k q) found (map given_as (drop i given))

pub one_name_more : (k : SessionState) (q : ℕ) (given : List Given) (found next : Option (List ℕ)) (i : ℕ) (one : Given) → FoundSoFar k q given found i → drop i given ≡ one ∷ drop (i + 1) given → next ≡ name_after k q found (given_as one)
    → FoundSoFar k q given next (i + 1)
one_name_more k q given found next i one so cut is =
    so ∙ ap (λ (left : List Given). fold (name_after k q) found (map given_as left)) cut
    ∙ ap (λ (o : Option (List ℕ)). fold (name_after k q) o (map given_as (drop (i + 1) given))) (sym is)

pub all_names : (k : SessionState) (q : ℕ) (given : List Given) (found : Option (List ℕ)) (i : ℕ) → FoundSoFar k q given found i → length given ≤ i → found ≡ fold (name_after k q) None (map given_as given)
all_names k q given found i so past = sym (so ∙ ap (λ (left : List Given). fold (name_after k q) found (map given_as left)) (drop_of_length-le given past))

-- a name that is kept or not, and the others that are
kept_one : (b : Bool) (one : Given) (given : List Given) (names : List NameAt) → map given_as given ≡ names → map given_as (cond b (one ∷ given) given) ≡ cond b (given_as one ∷ names) names
kept_one true one given names rest = ap (λ (others : List NameAt). given_as one ∷ others) rest
kept_one false one given names rest = rest

-- those that are kept
pub kept_names : (at : ℕ) (given : List Given) → map given_as (filter (λ (one : Given). nat_le one.position at) given) ≡ filter (λ (one : NameAt). nat_le one.position at) (map given_as given)
kept_names at [] = refl
kept_names at (one ∷ given) = kept_one (nat_le one.position at) one (filter (λ (other : Given). nat_le other.position at) given) (filter (λ (other : NameAt). nat_le other.position at) (map given_as given)) (kept_names at given)

or_true : (b : Bool) → (b || true) ≡ true
or_true true = refl
or_true false = refl

-- a process below a number has a name
pub has_one : (names : Names) (q n : ℕ) → q < n → is_some (names q) ≡ true → has_name names n ≡ true
unfolding has_name
has_one names q zero below some = absurd (omega (arith, below))
has_one names q (suc n) below some =
    elim (eqb_tells q n) [
      | inl h ↦ ap (λ (b : Bool). has_name names n || b) (ap (λ (m : ℕ). is_some (names m)) (sym h.1) ∙ some) ∙ or_true (has_name names n)
      | inr h ↦ ap (λ (b : Bool). b || is_some (names n)) (has_one names q n (grind (arith, nat_tests, below, h.0)) some)
    ]

-- what is mapped is there where it was
pub some_mapped : {A B : Type 0} (f : A → B) (o : Option A) → is_some (option_map f o) ≡ is_some o
some_mapped f None = refl
some_mapped f (Some x) = refl
