-- Things that are written by rising number, and some left out, are read as they were.
use Rattle.std.proofs.Common.{◌≡◌, ◌≢◌, ◌∙◌, ◌<◌, ◌≤◌, ℕ, zero, suc, List, [], ◌∷◌, ◌++◌, Option, Some, None, ap, arith, append_assoc, get_or, length, refl, sym, take}
use Rattle.std.proofs.lemmas.Bool.{eq-eqb, ne_eqb}
use Rattle.std.proofs.lemmas.List.{append-nil, take_all}
use Rattle.std.proofs.lemmas.List.Elements.{All-append, All-cons, All-nil}
use Rattle.std.proofs.Math.Seq.{take-suc}
use Rattle.std.specs.List.{All}
use Rattle.json.specs.Token.{Token}
use Rattle.tx_json.specs.Each.{each_tokens, upto}
use Rattle.tx_json.specs.Members.{list_member}
use Rattle.tx_reads_back.proofs.MembersRead.{list_read, IsItem}
use Rattle.tx_reads_back.specs.ReadProcesses.{found_at, table}
use Rattle.tx_reads_back.specs.ReadReplies.{or_else}
use Rattle.tx_reads_back.specs.Reading.{list_in, Read}
use Rattle.tx_reads_back.specs.JsonStates.{gathered}

-- what is so of nothing, and of all that may be there
pub each_there : {A : Type 0} (P : Option A → Type 0) (x : Option A) → P None → ((found : A) → x ≡ Some found → P (Some found)) → P x
each_there P None none some = none
each_there P (Some found) none some = some found refl

each_append : {A : Type 0} (tokens : A → List Token) (xs ys : List A) → each_tokens tokens (xs ++ ys) ≡ each_tokens tokens xs ++ each_tokens tokens ys
each_append tokens [] ys = refl
each_append tokens (x ∷ xs) ys = ap (λ (t : List Token). tokens x ++ t) (each_append tokens xs ys) ∙ sym (append_assoc (tokens x) (each_tokens tokens xs) (each_tokens tokens ys))

-- they are written as items
pub gathered_written : {A : Type 0} (written : ℕ → List Token) (tokens : A → List Token) (more : ℕ → List A) → ((n : ℕ) → written n ≡ each_tokens tokens (more n)) → (limit : ℕ)
    → upto written limit ≡ each_tokens tokens (gathered more limit)
unfolding upto gathered
gathered_written written tokens more same zero = refl
gathered_written written tokens more same (suc limit) =
    ap (λ (t : List Token). t ++ written limit) (gathered_written written tokens more same limit) ∙ ap (λ (t : List Token). each_tokens tokens (gathered more limit) ++ t) (same limit)
    ∙ sym (each_append tokens (gathered more limit) (more limit))

pub gathered_good : {A : Type 0} (Good : A → Type 0) (more : ℕ → List A) (limit : ℕ) → ((n : ℕ) → n < limit → All Good (more n)) → All Good (gathered more limit)
unfolding gathered
gathered_good Good more zero good = All-nil Good
gathered_good Good more (suc limit) good = All-append Good (gathered more limit) (more limit) (gathered_good Good more limit (λ n below. good n (omega (arith, below)))) (good limit (omega arith))

-- ---- numbered things

abbrev pub numbered : {A : Type 0} → ℕ → Option A → List (ℕ × A)
numbered number None = []
numbered number (Some x) = (number, x) ∷ []

found_append : {A : Type 0} (xs ys : List (ℕ × A)) (n : ℕ) → found_at (xs ++ ys) n ≡ or_else (found_at xs n) (found_at ys n)
found_append [] ys n = refl
found_append (x ∷ xs) ys n = grind (arith, found_append xs ys n)

not_there : {A : Type 0} (k n : ℕ) (x : Option A) → k ≢ n → found_at (numbered k x) n ≡ None
not_there k n x other = grind (arith, ne_eqb)

there : {A : Type 0} (n : ℕ) (x : Option A) → found_at (numbered n x) n ≡ x
there n x = grind (arith, eq-eqb)

or_none : {A : Type 0} (x : Option A) → or_else x None ≡ x
or_none x = grind arith

module _ {A : Type 0} (key : ℕ → ℕ) (at : ℕ → Option A) where
  abbrev pub all_numbered : ℕ → List (ℕ × A)
  all_numbered limit = gathered (λ n. numbered (key n) (at (key n))) limit

  pub found_nowhere : (limit n : ℕ) → ((i : ℕ) → i < limit → key i ≢ n) → found_at (all_numbered limit) n ≡ None
  unfolding gathered
  found_nowhere zero n other = refl
  found_nowhere (suc limit) n other =
      found_append (all_numbered limit) (numbered (key limit) (at (key limit))) n
      ∙ ap (λ x. or_else x (found_at (numbered (key limit) (at (key limit))) n)) (found_nowhere limit n (λ i below. other i (omega (arith, below))))
      ∙ not_there (key limit) n (at (key limit)) (other limit (omega arith))

  pub found_there : ((i j : ℕ) → key i ≡ key j → i ≡ j) → (limit n : ℕ) → n < limit → found_at (all_numbered limit) (key n) ≡ at (key n)
  unfolding gathered
  found_there apart zero n below = absurd (omega (arith, below))
  found_there apart (suc limit) n below = grind (arith, found_append, found_nowhere, not_there, or_none, there, apart limit n, found_there apart limit n)

  pub numbered_good : (Good : ℕ × A → Type 0) (limit : ℕ) → ((n : ℕ) (x : A) → n < limit → at (key n) ≡ Some x → Good (key n, x)) → All Good (all_numbered limit)
  numbered_good Good limit good =
      gathered_good Good (λ n. numbered (key n) (at (key n))) limit
      (λ n below. each_there (λ x. All Good (numbered (key n) x)) (at (key n)) (All-nil Good) (λ x is. All-cons Good (key n, x) [] (good n x below is) (All-nil Good)))

-- a list that has what is there at each number below a limit
module _ {A : Type 0} (item : Read (ℕ × A)) (written : ℕ → A → List Token) (Good : ℕ × A → Type 0) (is : IsItem item (λ one. written one.0 one.1) Good) where
  abbrev pub or_nothing : ℕ → Option A → List Token
  or_nothing n None = []
  or_nothing n (Some x) = written n x

  one_written : (n : ℕ) (x : Option A) → or_nothing n x ≡ each_tokens (λ one. written one.0 one.1) (numbered n x)
  one_written n x = grind (arith, append-nil)

  pub listed_read : (name : List ℕ) (key : ℕ → ℕ) (at : ℕ → Option A) (limit : ℕ) (tokens : ℕ → List Token) (rest : List Token) → ((n : ℕ) → tokens n ≡ or_nothing (key n) (at (key n)))
      → ((n : ℕ) (x : A) → n < limit → at (key n) ≡ Some x → Good (key n, x)) → list_in name item (list_member name (upto tokens limit) ++ rest) ≡ Some (all_numbered key at limit, rest)
  listed_read name key at limit tokens rest same good =
      ap (λ (items : List Token). list_in name item (list_member name items ++ rest))
      (gathered_written tokens (λ one. written one.0 one.1) (λ n. numbered (key n) (at (key n))) (λ n. same n ∙ one_written (key n) (at (key n))) limit)
      ∙ list_read item (λ one. written one.0 one.1) Good is name (all_numbered key at limit) rest (numbered_good key at Good limit good)

-- ---- things by each number below a limit

table_taken : {A : Type 0} (at : ℕ → A) (xs : List A) (d : A) (limit : ℕ) → limit ≤ length xs → ((n : ℕ) → n < limit → at n ≡ get_or xs n d) → table at limit ≡ take limit xs
unfolding table
table_taken {A = A} at xs d zero inside same = refl
table_taken {A = A} at xs d (suc limit) inside same =
    ap (λ (front : List A). front ++ at limit ∷ []) (table_taken at xs d limit (omega (arith, inside)) (λ n below. same n (omega (arith, below))))
    ∙ ap (λ (x : A). take limit xs ++ x ∷ []) (same limit (omega arith)) ∙ sym (take-suc xs limit d (omega (arith, inside)))

pub table_whole : {A : Type 0} (at : ℕ → A) (xs : List A) (d : A) (limit : ℕ) → length xs ≡ limit → ((n : ℕ) → n < limit → at n ≡ get_or xs n d) → table at limit ≡ xs
table_whole at xs d limit long same = table_taken at xs d limit (omega (arith, long)) same ∙ take_all limit xs (omega (arith, long))
