-- How many arrows there are so far at each mark, and the text of one arrow more.
use Rattle.std.proofs.Common.{◌≡◌, ◌≢◌, ◌∙◌, ℕ, ◌+◌, ◌*◌, ◌<◌, ◌≤◌, ◌==◌, Bool, true, false, List, [], ◌∷◌, ◌++◌, length, get_or, take, drop, refl, sym, ap, subst, arith, add-one, append_assoc, drop-cons, eqb-true, eq-eqb, true≢false}
use Rattle.std.proofs.Math.ListN.{set, drop_of_length-le}
use Rattle.std.proofs.lemmas.List.{append-nil, get_or-set_other, get_or-set_same, length-set, take_more}
use Rattle.std.proofs.lemmas.List.Sums.{count_by_more_no, count_by_more_yes}
use Rattle.std.specs.Prelude.{count_by, min}
use Rattle.tx_base.specs.declared.names.Pid.{Pid}
use Rattle.tx_picture.specs.Arrows.{aside, fan_of, passage_text, passages_text}
use Rattle.tx_picture.specs.declared.fans.Fan.{Fan}
use Rattle.tx_picture.specs.declared.passages.Passage.{Passage}

-- the counts are those of some arrows at the mark of each row, of which three count
pub record IsTally (at : ℕ → Passage → Bool) (before : List Passage) (counts : List ℕ) : Type 0 where
  pub long : length counts ≡ 65536
  pub each : (row : ℕ) → row < 65536 → get_or counts row 0 ≡ min (count_by (at row) before) 3

pub tally_none : (at : ℕ → Passage → Bool) (counts : List ℕ) → length counts ≡ 65536 → ((row : ℕ) → get_or counts row 0 ≡ 0) → IsTally at [] counts
tally_none at counts long none = record { long = long; each = λ row inside. none row ∙ omega arith }

capped : (n count : ℕ) → count ≡ min n 3 → min (count + 1) 3 ≡ min (n + 1) 3
capped n count is = omega (arith, is)

module _ (row_of : Passage → ℕ) (passages : List Passage) (i : ℕ) (d : Passage) (counts : List ℕ) (inside : i < length passages) where
  abbrev at : ℕ → Passage → Bool
  at row passage = row_of passage == row

  abbrev here : ℕ
  here = row_of (get_or passages i d)

  counted_at : (row : ℕ) (same : Bool) → (here == row) ≡ same → IsTally at (take i passages) counts → here < 65536 → row < 65536
      → get_or (set counts here (min (get_or counts here 0 + 1) 3)) row 0 ≡ min (count_by (at row) (take (i + 1) passages)) 3
  counted_at row true e tally low within =
      let same : here ≡ row = eqb-true here row e in
      let fits : here < length counts = omega (arith, tally.long, low) in
      let value : ℕ = min (get_or counts here 0 + 1) 3 in
      subst (λ (r : ℕ). get_or (set counts here value) r 0 ≡ value) same (get_or-set_same counts here value 0 fits)
      ∙ capped (count_by (at row) (take i passages)) (get_or counts here 0) (ap (λ (r : ℕ). get_or counts r 0) same ∙ tally.each row within)
      ∙ ap (λ (n : ℕ). min n 3) (sym (count_by_more_yes (at row) passages i d inside e))
  counted_at row false e tally low within =
      let other : row ≢ here = λ same. true≢false (sym (eq-eqb here row (sym same)) ∙ e) in
      let value : ℕ = min (get_or counts here 0 + 1) 3 in
      get_or-set_other counts here row value 0 other ∙ tally.each row within ∙ ap (λ (n : ℕ). min n 3) (sym (count_by_more_no (at row) passages i d inside e))

  -- one arrow more
  pub tally_more : (counts' : List ℕ) → IsTally at (take i passages) counts → here < 65536 → counts' ≡ set counts here (min (get_or counts here 0 + 1) 3) → IsTally at (take (i + 1) passages) counts'
  tally_more counts' tally low is = subst (IsTally at (take (i + 1) passages)) (sym is) (record {
    long = length-set counts here (min (get_or counts here 0 + 1) 3) ∙ tally.long;
    each = λ row within. counted_at row (here == row) refl tally low within;
  })

-- how far an arrow is moved aside, by the counts so far
pub aside_by : (at : ℕ → Passage → Bool) (before : List Passage) (counts : List ℕ) (row moved : ℕ) → IsTally at before counts → row < 65536 → moved ≡ 3 * get_or counts row 0
    → moved ≡ aside (count_by (at row) before)
aside_by at before counts row moved tally low is = is ∙ ap (λ (n : ℕ). 3 * n) (tally.each row low)

pub aside_low : (count : ℕ) → aside count ≤ 9
aside_low count = omega arith

pub passage_more : (columns : List Pid) (passages : List Passage) (i : ℕ) (d : Passage) (fan : Fan) (before now after : List ℕ) → i < length passages
    → before ++ passages_text columns [] passages ≡ now ++ passages_text columns (take i passages) (drop i passages) → fan ≡ fan_of (take i passages) (get_or passages i d)
    → after ≡ now ++ passage_text columns fan (get_or passages i d) → before ++ passages_text columns [] passages ≡ after ++ passages_text columns (take (i + 1) passages) (drop (i + 1) passages)
passage_more columns passages i d fan before now after inside so_far same more =
    let one : Passage = get_or passages i d in
    let cut : drop i passages ≡ one ∷ drop (i + 1) passages = drop-cons passages i d inside ∙ ap (λ (n : ℕ). one ∷ drop n passages) (sym (add-one i)) in
    let text : List ℕ = passage_text columns (fan_of (take i passages) one) one in
    let rest : List ℕ = passages_text columns (take i passages ++ one ∷ []) (drop (i + 1) passages) in
    so_far ∙ ap (λ (left : List Passage). now ++ passages_text columns (take i passages) left) cut
    ∙ sym (append_assoc now text rest)
    ∙ ap (λ (t : List ℕ). t ++ rest) (ap (λ (f : Fan). now ++ passage_text columns f one) (sym same) ∙ sym more)
    ∙ ap (λ (there : List Passage). after ++ passages_text columns there (drop (i + 1) passages)) (sym (take_more passages i d inside))

pub passages_whole : (columns : List Pid) (passages : List Passage) (i : ℕ) (before now : List ℕ) → length passages ≤ i
    → before ++ passages_text columns [] passages ≡ now ++ passages_text columns (take i passages) (drop i passages) → now ≡ before ++ passages_text columns [] passages
passages_whole columns passages i before now done so_far =
    sym (so_far ∙ ap (λ (left : List Passage). now ++ passages_text columns (take i passages) left) (drop_of_length-le passages done) ∙ append-nil now)
