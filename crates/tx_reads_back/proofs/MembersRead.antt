-- Members, objects and lists are read as they are written.
use Rattle.std.proofs.Common.{◌≡◌, ◌∙◌, ◌<◌, ◌≤◌, ◌^◌, ℕ, ℤ, zero, suc, Bool, List, [], ◌∷◌, ◌++◌, Option, Some, None, ap, append_assoc, arith, length, length-append, refl}
use Rattle.std.proofs.lemmas.List.Elements.{All-head, All-tail}
use Rattle.std.specs.Int.{w64}
use Rattle.std.specs.List.{All}
use Rattle.std.specs.Prelude.{FitsSigned}
use Rattle.json.specs.Json.{after_end_array}
use Rattle.json.specs.Token.{Token}
use Rattle.tx_json.specs.Each.{each_tokens}
use Rattle.tx_json.specs.Members.{begin_list, begin_object, count_member, end_list, end_object, flag_member, list_member, number_member}
use Rattle.tx_reads_back.proofs.NumbersRead.{count_read, number_read, same_bytes}
use Rattle.tx_reads_back.specs.Reading.{◌>>=◌, count_at, count_in, flag_in, items_by, items_step, list_in, number_at, number_in, object_by, Read}

-- ---- members

module _ (name : List ℕ) where
  pub count_in_read : (n : ℕ) (rest : List Token) → n < 2 ^ 64 → count_in name (count_member name n ++ rest) ≡ Some (n, rest)
  unfolding count_at count_in count_member
  count_in_read n rest small = rw (same_bytes name, count_read n small) refl

  pub number_in_read : (z : ℤ) (rest : List Token) → FitsSigned w64 z → number_in name (number_member name z ++ rest) ≡ Some (z, rest)
  unfolding number_at number_in number_member
  number_in_read z rest fits = rw (same_bytes name, number_read z fits) refl

  pub flag_in_read : (flag : Bool) (rest : List Token) → flag_in name (flag_member name flag ++ rest) ≡ Some (flag, rest)
  unfolding flag_in flag_member
  flag_in_read flag rest = rw (same_bytes name) refl

-- ---- one thing after another

module _ {A B : Type 0} (first : Read A) (next : A × List Token → Option B) (written : List Token) (found : A) (reads : (rest : List Token) → first (written ++ rest) ≡ Some (found, rest)) where
  pub goes_on : (more rest : List Token) → (first ((written ++ more) ++ rest) >>= next) ≡ next (found, more ++ rest)
  goes_on more rest = ap (λ read. read >>= next) (ap first (append_assoc written more rest) ∙ reads (more ++ rest))

  pub ends_with : (rest : List Token) → (first (written ++ rest) >>= next) ≡ next (found, rest)
  ends_with rest = ap (λ read. read >>= next) (reads rest)

-- the same, where it is read so before that alone
pub goes_on_there : {A B : Type 0} (first : Read A) (next : A × List Token → Option B) (written : List Token) (found : A) (more rest : List Token) → first (written ++ (more ++ rest)) ≡ Some (found, more ++ rest)
    → (first ((written ++ more) ++ rest) >>= next) ≡ next (found, more ++ rest)
goes_on_there first next written found more rest reads = ap (λ read. read >>= next) (ap first (append_assoc written more rest) ∙ reads)

-- an object, of which the members end before its bracket
pub object_read : {A : Type 0} (members : Read A) (written rest : List Token) (found : A) → members (written ++ rest) ≡ Some (found, end_object ++ rest)
    → object_by members ((begin_object ++ written) ++ rest) ≡ Some (found, rest)
unfolding begin_object end_object object_by
object_read members written rest found reads = rw reads refl

-- ---- lists

-- an item is written by some tokens, of which the first ends no list, and is read from them
pub record IsItem {A : Type 0} (item : Read A) (tokens : A → List Token) (Good : A → Type 0) : Type 0 where
  pub reads : (x : A) (rest : List Token) → Good x → item (tokens x ++ rest) ≡ Some (x, rest)
  pub begins : (x : A) (rest : List Token) → Good x → after_end_array (tokens x ++ rest) ≡ None
  pub some : (x : A) → Good x → 1 ≤ length (tokens x)

module _ {A : Type 0} (item : Read A) (tokens : A → List Token) (Good : A → Type 0) (is : IsItem item tokens Good) where
  more_tokens : (xs : List A) → All Good xs → length xs ≤ length (each_tokens tokens xs)
  more_tokens [] good = omega arith
  more_tokens (x ∷ xs) good = let one = is.some x (All-head Good x xs good) in let more = more_tokens xs (All-tail Good x xs good) in let long = length-append (tokens x) (each_tokens tokens xs) in omega (arith, one, more, long)

  items_read : (xs : List A) (most : ℕ) (rest : List Token) → All Good xs → length xs < most → items_by item most (each_tokens tokens xs ++ Token.end_array ∷ rest) ≡ Some (xs, rest)
  unfolding items_by
  items_read xs zero rest good few = absurd (omega (arith, few))
  items_read [] (suc most) rest good few = refl
  items_read (x ∷ xs) (suc most) rest good few =
      let end : List Token = each_tokens tokens xs ++ Token.end_array ∷ rest in
      ap (λ (ts : List Token). items_step item (items_by item most) ts (after_end_array ts)) (append_assoc (tokens x) (each_tokens tokens xs) (Token.end_array ∷ rest))
      ∙ ap (items_step item (items_by item most) (tokens x ++ end)) (is.begins x end (All-head Good x xs good))
      ∙ ap (λ read. read >>= (λ (one : A × List Token). items_by item most one.1 >>= (λ (items : List A × List Token). Some (one.0 ∷ items.0, items.1)))) (is.reads x end (All-head Good x xs good))
      ∙ ap (λ read. read >>= (λ (items : List A × List Token). Some (x ∷ items.0, items.1))) (items_read xs most rest (All-tail Good x xs good) (omega (arith, few)))

  pub list_read : (name : List ℕ) (xs : List A) (rest : List Token) → All Good xs → list_in name item (list_member name (each_tokens tokens xs) ++ rest) ≡ Some (xs, rest)
  unfolding begin_list end_list list_in
  list_read name xs rest good =
      let shorter = more_tokens xs good in
      let long = length-append (each_tokens tokens xs) (Token.end_array ∷ rest) in
      rw (same_bytes name, append_assoc (each_tokens tokens xs) (Token.end_array ∷ []) rest) (items_read xs _ rest good (omega (arith, shorter, long)))
