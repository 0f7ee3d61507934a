-- The live transactions in a text.
use Rattle.std.proofs.Common.{◌≡◌, ℕ, zero, suc, ◌+◌, ◌<◌, ◌≤◌, ◌^◌, Bool, true, false, cond, if◌then◌else◌, List, [], ◌∷◌, ◌++◌, codes, Option, Some, None, drop, map, refl, sym, ap, ◌∙◌, arith, append_assoc, add-one}
use Rattle.std.proofs.lemmas.Bool.Decides.{nat_tests}
use Rattle.std.specs.Prelude.{All}
use Rattle.std.specs.List.{filter}
use Rattle.std.specs.Fmt.{decimal, signed_decimal}
use Rattle.std.proofs.lemmas.Bool.{both_ways}
use Rattle.std.proofs.lemmas.List.Elements.{filter-append}
use Rattle.tx_base.specs.declared.marks.Mark.{Mark}
use Rattle.tx_model.specs.Membership.{defers_in, is_of}
use Rattle.tx_model.specs.SignalSets.{is_one_of}
use Rattle.tx_model.specs.State.{Sending}
use Rattle.tx_lines.specs.ListLaws.{joined, list_end, one_looked, some_in}
use Rattle.tx_lines.specs.Lists.{list_text, member_text, some_after}
use Rattle.tx_state_text.specs.Each.{upto}
use Rattle.tx_state_text.specs.Txns.{flag_of, held_text, helds_text, is_listed_in, listed_text, mark_text, members_text, some_of, txn_lines, txns_text}
use Rattle.tx_reads_back.specs.StateTexts.{HasSentWord, unsigned}
use Rattle.tx_reads_back.proofs.Fronts.{number_unique, other_byte, regroup, signed_unique, Stops}
use Rattle.tx_reads_back.proofs.Items.{AreItems, items_unique}
use Rattle.tx_reads_back.proofs.Lines.{no_word, numbered_rank}
use Rattle.tx_reads_back.proofs.Lists.{AreSmall, in_list, list_unique, same_test, one_of_both}
use Rattle.tx_reads_back.proofs.Numbered.{numbered, numbered_unique, Determines}
use Rattle.tx_reads_back.proofs.Ranks.{rank}
use Rattle.tx_reads_back.proofs.Upto.{keeps_upto}

-- the numbers from 1 on
numbers : ℕ → List ℕ
numbers zero = []
numbers (suc n) = numbers n ++ (n + 1) ∷ []

-- a number that is in a list of the members of a transaction
listed : (ℕ → Bool) → ℕ → Bool
listed test zero = false
listed test (suc i) = test i

listed_spelled : (test : ℕ → Bool) (n : ℕ) → (listed_text test n ≡ joined (filter (listed test) (numbers n))) × (some_of test n ≡ some_in (filter (listed test) (numbers n)))
unfolding listed listed_text numbers upto
listed_spelled test zero = (refl, refl)
listed_spelled test (suc n) =
    let so = listed_spelled test n in
    let ns : List ℕ = filter (listed test) (numbers n) in
    let one : filter (listed test) (numbers n ++ (n + 1) ∷ []) ≡ ns ++ cond (test n) ((n + 1) ∷ []) [] = filter-append (listed test) (numbers n) ((n + 1) ∷ []) ∙ rw add-one refl in
    let both = one_looked ns (n + 1) (test n) in (
      (λ j. so.0 j ++ member_text (so.1 j) (test n) (n + 1)) ∙ sym both.0 ∙ ap joined (sym one),
      ap (λ (some : Bool). some_after some (test n)) so.1 ∙ sym both.1 ∙ ap some_in (sym one),
    )

small_append : (xs ys : List ℕ) → AreSmall xs → AreSmall ys → AreSmall (xs ++ ys)
small_append [] ys x_small y_small = y_small
small_append (x ∷ xs) ys x_small y_small = (x_small.0, small_append xs ys x_small.1 y_small)

numbers_small : (n : ℕ) → n < 2 ^ 16 → AreSmall (numbers n)
unfolding numbers
numbers_small zero inside = tt
numbers_small (suc n) inside = small_append (numbers n) ((n + 1) ∷ []) (numbers_small n (omega arith)) (omega arith, tt)

small_filter : (test : ℕ → Bool) (xs : List ℕ) → AreSmall xs → AreSmall (filter test xs)
small_filter test [] small = tt
small_filter test (x ∷ xs) small = grind (arith, small_filter test xs)

among_numbers : (n i : ℕ) → i < n → is_one_of (numbers n) (suc i) ≡ true
unfolding numbers
among_numbers zero i below = absurd (omega arith)
among_numbers (suc n) i below = grind (arith, nat_tests, one_of_both, among_numbers n i)

-- the members of a list say of each number whether it is there
members_unique : (width : ℕ) (marks others : ℕ → Option Mark) (starter : ℕ) (ended : Bool) (R S : List ℕ) → width < 2 ^ 16 → Stops in_list R → Stops in_list S →
    members_text width marks starter ended ++ R ≡ members_text width others starter ended ++ S →
    ((i : ℕ) → i < width → is_listed_in (marks (i + 1)) starter ended ≡ is_listed_in (others (i + 1)) starter ended) × (R ≡ S)
unfolding listed
members_unique width marks others starter ended R S small r s e =
    let test : (ℕ → Option Mark) → ℕ → Bool = λ marks i. is_listed_in (marks (i + 1)) starter ended in
    let ns : (ℕ → Option Mark) → List ℕ = λ marks. filter (listed (test marks)) (numbers width) in
    let spelled : (marks : ℕ → Option Mark) → members_text width marks starter ended ≡ list_text (ns marks) = λ marks.
    (let so = listed_spelled (test marks) width in
    (λ j. so.0 j ++ (if so.1 j then [] else codes "-")) ∙ list_end (ns marks)) in
    let are_small : (marks : ℕ → Option Mark) → AreSmall (ns marks) = λ marks. small_filter (listed (test marks)) (numbers width) (numbers_small width small) in
    let unique = list_unique (ns marks) (ns others) R S (are_small marks) (are_small others) r s
    (ap (λ (t : List ℕ). t ++ R) (sym (spelled marks)) ∙ e ∙ ap (λ (t : List ℕ). t ++ S) (spelled others)) in
    ((λ i below. same_test (listed (test marks)) (listed (test others)) (numbers width) (suc i) unique.0 (among_numbers width i below)), unique.1)

-- a signal that a line of a send shows
pub record IsPrintableSending (sending : Sending) : Type 0 where
  pub target : sending.target < 2 ^ 64
  pub signo : sending.signo < 2 ^ 64
  pub value : HasSentWord sending

sends_are : AreItems held_text unsigned IsPrintableSending (λ t. 13 ≤ rank t) (λ t. 13 < rank t)
sends_are = record {
  unique = λ x y R S in_x in_y r s e.
      (let x_value : List ℕ = signed_decimal x.value ++ 10 ∷ [] in
      let y_value : List ℕ = signed_decimal y.value ++ 10 ∷ [] in
      let target = number_unique x.target y.target (58 ∷ ((decimal x.signo ++ 58 ∷ x_value) ++ R)) (58 ∷ ((decimal y.signo ++ 58 ∷ y_value) ++ S)) in_x.target in_y.target refl refl
      (regroup (decimal x.target) (58 ∷ (decimal x.signo ++ 58 ∷ x_value)) R (decimal y.target) (58 ∷ (decimal y.signo ++ 58 ∷ y_value)) S (ap (drop 5) e)) in
      let signo = number_unique x.signo y.signo (58 ∷ (x_value ++ R)) (58 ∷ (y_value ++ S)) in_x.signo in_y.signo refl refl
      (regroup (decimal x.signo) (58 ∷ x_value) R (decimal y.signo) (58 ∷ y_value) S (ap (drop 1) target.1)) in
      let value = signed_unique x.value y.value (10 ∷ R) (10 ∷ S) in_x.value in_y.value refl refl
      (regroup (signed_decimal x.value) (10 ∷ []) R (signed_decimal y.value) (10 ∷ []) S (ap (drop 1) signo.1)) in
      ((λ j. record { target = target.0 j; signo = signo.0 j; value = value.0 j; from = None }), ap (drop 1) value.1));
  follows = λ x R. omega arith;
  ends = λ R end. omega arith;
  no_end = λ x R S end e. let at : 13 ≡ rank S = ap rank e in omega arith;
}

flag_rest : Bool → List ℕ
flag_rest true = codes "defer open "
flag_rest false = codes "open "

flag_is : (flag : Bool) → flag_of flag ≡ 32 ∷ flag_rest flag
unfolding flag_rest
flag_is flag = grind arith

flag_unique : (a b : Bool) (r s : List ℕ) → flag_rest a ++ r ≡ flag_rest b ++ s → (a ≡ b) × (r ≡ s)
unfolding flag_rest
flag_unique true true r s e = (refl, ap (drop 11) e)
flag_unique true false r s e = absurd (other_byte 0 e refl)
flag_unique false true r s e = absurd (other_byte 0 e refl)
flag_unique false false r s e = (refl, ap (drop 5) e)

module _ (width : ℕ) (marks : ℕ → Option Mark) (starter : ℕ) where
  abbrev lists : List ℕ
  lists = members_text width marks starter false ++ (codes " ended " ++ (members_text width marks starter true ++ 10 ∷ []))

  line_rest : Bool → Bool → List Sending → Option (List ℕ)
  line_rest true defers held = Some ((flag_rest defers ++ lists) ++ helds_text held)
  line_rest false defers held = None

  line_numbered : (held : List Sending) (mark : Option Mark) → mark_text width marks starter held mark ≡ numbered (codes "txn ") 32 starter (line_rest (is_of starter mark) (defers_in mark) held)
  unfolding line_rest
  line_numbered held mark = grind (arith, append_assoc, flag_is, line_rest, numbered)

-- the lines of the transaction of one starter say the same of two tables
pub record SameTransaction (width : ℕ) (marks others : ℕ → Option Mark) (held holds : List Sending) (starter : ℕ) : Type 0 where
  pub defers : defers_in (marks starter) ≡ defers_in (others starter)
  pub listed : (ended : Bool) (i : ℕ) → i < width → is_listed_in (marks (i + 1)) starter ended ≡ is_listed_in (others (i + 1)) starter ended
  pub sends : map unsigned held ≡ map unsigned holds

-- it is live in both or in neither, and where it is live the same
pub record SameThere (width : ℕ) (marks others : ℕ → Option Mark) (held holds : List Sending) (starter : ℕ) : Type 0 where
  pub live : is_of starter (marks starter) ≡ is_of starter (others starter)
  pub unique : is_of starter (marks starter) ≡ true → SameTransaction width marks others held holds starter

module _ (width : ℕ) (marks others : ℕ → Option Mark) (small : width < 2 ^ 16) where
  line_unique : (starter : ℕ) (held holds : List Sending) (R S : List ℕ) → All IsPrintableSending held → All IsPrintableSending holds → 13 < rank R → 13 < rank S →
      Determines (line_rest width marks starter (is_of starter (marks starter)) (defers_in (marks starter)) held) (line_rest width others starter (is_of starter (others starter)) (defers_in (others starter)) holds) R S
      (SameThere width marks others held holds starter)
  unfolding line_rest
  line_unique starter held holds R S x_good y_good r s = by (is_of starter (marks starter)) (is_of starter (others starter)) refl refl
    where
      by : (b c : Bool) → is_of starter (marks starter) ≡ b → is_of starter (others starter) ≡ c →
          Determines (line_rest width marks starter b (defers_in (marks starter)) held) (line_rest width others starter c (defers_in (others starter)) holds) R S (SameThere width marks others held holds starter)
      by false false is is' = record { live = is ∙ sym is'; unique = λ on. absurd (both_ways (is_of starter (marks starter)) is on) }
      by true false is is' = tt
      by false true is is' = tt
      by true true is is' = λ e.
          (let a : List ℕ = members_text width marks starter true ++ 10 ∷ [] in
          let b : List ℕ = members_text width others starter true ++ 10 ∷ [] in
          let x : List ℕ = helds_text held ++ R in
          let y : List ℕ = helds_text holds ++ S in
          let line = regroup (flag_rest (defers_in (marks starter)) ++ lists width marks starter) (helds_text held) R (flag_rest (defers_in (others starter)) ++ lists width others starter) (helds_text holds) S e in
          let flag = flag_unique (defers_in (marks starter)) (defers_in (others starter)) (lists width marks starter ++ x) (lists width others starter ++ y)
          (regroup (flag_rest (defers_in (marks starter))) (lists width marks starter) x (flag_rest (defers_in (others starter))) (lists width others starter) y line) in
          let open_parts = members_unique width marks others starter false (codes " ended " ++ (a ++ x)) (codes " ended " ++ (b ++ y)) small refl refl
          (regroup (members_text width marks starter false) (codes " ended " ++ a) x (members_text width others starter false) (codes " ended " ++ b) y flag.1) in
          let ended_parts = members_unique width marks others starter true (10 ∷ x) (10 ∷ y) small refl refl
          (regroup (members_text width marks starter true) (10 ∷ []) x (members_text width others starter true) (10 ∷ []) y (ap (drop 7) open_parts.1)) in
          let sends = items_unique sends_are held holds R S x_good y_good r s (ap (drop 1) ended_parts.1) in
          (record { live = is ∙ sym is'; unique = λ on. record { defers = flag.0; listed = λ ended. elim ended as (λ ended. (i : ℕ) → i < width → is_listed_in (marks (i + 1)) starter ended ≡ is_listed_in (others (i + 1)) starter ended) [ true ↦ ended_parts.0 | false ↦ open_parts.0 ]; sends = sends.0 } }, sends.1))

  pub txns_unique : (held holds : ℕ → List Sending) (R S : List ℕ) → ((s : ℕ) → All IsPrintableSending (held s)) → ((s : ℕ) → All IsPrintableSending (holds s)) → 14 < rank R → 14 < rank S →
      txns_text width marks held ++ R ≡ txns_text width others holds ++ S → ((i : ℕ) → i < width → SameThere width marks others (held (i + 1)) (holds (i + 1)) (i + 1)) × (R ≡ S)
  txns_unique held holds R S x_good y_good r s e =
      let x : ℕ → Option (List ℕ) = λ n. line_rest width marks n (is_of n (marks n)) (defers_in (marks n)) (held n) in
      let y : ℕ → Option (List ℕ) = λ n. line_rest width others n (is_of n (others n)) (defers_in (others n)) (holds n) in
      numbered_unique (codes "txn ") 32 refl (λ i. i + 1) (λ i j same. omega arith) (λ t. 14 ≤ rank t) (λ t. omega arith) width (λ i inside. omega arith)
      (λ i. x (i + 1)) (λ i. y (i + 1)) (λ i. SameThere width marks others (held (i + 1)) (holds (i + 1)) (i + 1))
      (λ i R S inside r s. line_unique (i + 1) (held (i + 1)) (holds (i + 1)) R S (x_good (i + 1)) (y_good (i + 1)) (omega arith) (omega arith))
      (λ i. txn_lines width marks held (i + 1)) (λ i. txn_lines width others holds (i + 1)) R S
      (λ i. line_numbered width marks (i + 1) (held (i + 1)) (marks (i + 1))) (λ i. line_numbered width others (i + 1) (holds (i + 1)) (others (i + 1))) (omega arith) (omega arith)
      (λ t. no_word 14 (codes "txn ") R t (λ t. refl) r) (λ t. no_word 14 (codes "txn ") S t (λ t. refl) s) e

pub txns_rank : (width : ℕ) (marks : ℕ → Option Mark) (held : ℕ → List Sending) (R : List ℕ) → 14 ≤ rank R → 14 ≤ rank (txns_text width marks held ++ R)
txns_rank width marks held R r = keeps_upto (λ t. 14 ≤ rank t) (λ i. txn_lines width marks held (i + 1)) (λ i t so.
    numbered_rank 14 (codes "txn ") (λ t. refl) (i + 1) (line_rest width marks (i + 1) (is_of (i + 1) (marks (i + 1))) (defers_in (marks (i + 1))) (held (i + 1)))
    (txn_lines width marks held (i + 1)) t (line_numbered width marks (i + 1) (held (i + 1)) (marks (i + 1))) so) width R r
