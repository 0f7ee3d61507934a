-- Words that give a name to a process, and words that do not.
use Rattle.std.proofs.Common.{◌≡◌, ◌≢◌, ℕ, zero, suc, ◌<◌, ◌≤◌, ◌^◌, false, List, codes, get_or, Option, Some, None, [], ◌∷◌, refl, ap, sym, ◌∙◌, arith, inl, inr}
use Rattle.std.proofs.lemmas.Bool.Decides.{eqb_tells}
use Rattle.std.proofs.lemmas.Fmt.{decimal_injective}
use Rattle.std.proofs.lemmas.Slice.Eq.{bytes_eq-Decides}
use Rattle.std.specs.Fmt.{decimal}
use Rattle.std.specs.Str.{bytes_eq}
use Rattle.tx_lines.specs.declared.read.header.TextKind.TheVariants.{Schedule}
use Rattle.tx_translate.specs.Lines.{line_of_words, plain_of_words}
use Rattle.tx_translate.specs.Names.{names_process, process_in, process_upto}
use Rattle.tx_translate.specs.declared.stage.Stage.{Stage}
use Rattle.tx_translate.specs.declared.stage.Stage.TheVariants.{Within}
use Rattle.tx_translate.proofs.Bytes.{low_decimal}
use Rattle.tx_translate.proofs.Unnamed.{differ}

-- a number is not the word for a name
pub decimal_unnamed : (n : ℕ) → n < 2 ^ 64 → bytes_eq (decimal n) (codes "name") ≡ false
decimal_unnamed n small =
    let low = low_decimal n small in
    differ (decimal n) (codes "name") (λ e. let bad : low.byte ≡ 110 = ap (λ (t : List ℕ). get_or t 0 0) (sym low.parts ∙ e) in omega (arith, bad, low.below))

-- a line that begins with another word names no process
pub other_unnamed : (first : List ℕ) (others : List (List ℕ)) → bytes_eq first (codes "name") ≡ false → names_process (Within Schedule) first others ≡ false
other_unnamed first others other = rw other refl

-- what the words of such a line mean
pub unnamed_means : (stage : Stage) (first : List ℕ) (others : List (List ℕ)) → names_process stage first others ≡ false → plain_of_words stage (first ∷ others) ≡ Some (line_of_words stage first others)
unnamed_means stage first others other = rw other refl

-- the number of a process is found by its spelling
upto_found : (last n : ℕ) → last < 2 ^ 63 → 1 ≤ n → n ≤ last → process_upto last (decimal n) ≡ Some n
upto_found zero n small some inside = absurd (omega (arith, some, inside))
upto_found (suc last) n small some inside =
    elim (eqb_tells (suc last) n) [
      | inl h ↦ let same = (bytes_eq-Decides (decimal n) (decimal (suc last))).1 (ap decimal (sym h.1)) in rw same (ap Some h.1)
      | inr h ↦ let other = differ (decimal n) (decimal (suc last)) (λ e. h.1 (sym (decimal_injective n (suc last) (omega (arith, small, inside)) (omega (arith, small)) e))) in
          let apart : suc last ≢ n = h.1 in
          rw other (upto_found last n (omega (arith, small)) some (omega (arith, inside, apart)))
    ]

upto_none : (last : ℕ) (word : List ℕ) → ((n : ℕ) → 1 ≤ n → n ≤ last → word ≢ decimal n) → process_upto last word ≡ None
upto_none zero word none = refl
upto_none (suc last) word none =
    let other = differ word (decimal (suc last)) (none (suc last) (omega arith) (omega arith)) in
    rw other (upto_none last word (λ n some inside. none n some (omega (arith, inside))))

pub process_found : (word : List ℕ) (n : ℕ) → word ≡ decimal n → 1 ≤ n → n ≤ 256 → process_in word ≡ Some n
unfolding process_in
process_found word n is some inside = ap (process_upto 256) is ∙ upto_found 256 n (omega arith) some inside

pub process_none : (word : List ℕ) → ((n : ℕ) → 1 ≤ n → n ≤ 256 → word ≢ decimal n) → process_in word ≡ None
unfolding process_in
process_none word none = upto_none 256 word none

-- another number is none of a process
pub process_out : (word : List ℕ) (n : ℕ) → word ≡ decimal n → n < 2 ^ 64 → ((m : ℕ) → 1 ≤ m → m ≤ 256 → m ≢ n) → process_in word ≡ None
process_out word n is small out =
    process_none word (λ m some inside same. out m some inside (decimal_injective m n (omega (arith, inside)) small (sym same ∙ is)))
