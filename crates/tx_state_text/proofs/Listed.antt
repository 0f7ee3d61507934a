-- One number more of a list.
use Rattle.std.proofs.Common.{◌≡◌, ℕ, zero, suc, ◌+◌, ◌-◌, ◌<◌, ◌≤◌, Bool, true, false, List, ◌++◌, Option, Some, None, refl, ap, ◌∙◌, sym, arith, add-one, add-zero}
use Rattle.std.proofs.lemmas.List.{append-nil}
use Rattle.tx_base.specs.declared.marks.Mark.{Mark}
use Rattle.tx_state_text.specs.Each.{upto}
use Rattle.tx_state_text.specs.Links.{is_of, LeadsOn}
use Rattle.tx_state_text.specs.Txns.{is_listed_in, listed_text, some_of}
use Rattle.tx_lines.specs.Lists.{member_text, some_after}
use Rattle.tx_state_text.specs.EachLaws.{upto_none, upto_more}

pub listed_none : (listed : ℕ → Bool) (before : List ℕ) → before ≡ before ++ listed_text listed 0
unfolding listed_text
listed_none listed before = upto_none (λ done. member_text (some_of listed done) (listed done) (done + 1)) before

pub listed_more : (listed : ℕ → Bool) (i : ℕ) (is some : Bool) (before now after : List ℕ) → now ≡ before ++ listed_text listed i → some ≡ some_of listed i → is ≡ listed i →
    after ≡ now ++ member_text some is (i + 1) → after ≡ before ++ listed_text listed (i + 1)
unfolding listed_text
listed_more listed i is some before now after so_far s l more =
    let same : member_text some is (i + 1) ≡ member_text (some_of listed i) (listed i) (i + 1) = ap (λ (b : Bool). member_text b is (i + 1)) s ∙ ap (λ (b : Bool). member_text (some_of listed i) b (i + 1)) l in
    upto_more (λ done. member_text (some_of listed done) (listed done) (done + 1)) i before now after so_far (more ∙ ap (λ (t : List ℕ). now ++ t) same)

pub some_more : (listed : ℕ → Bool) (i : ℕ) (is some after : Bool) → some ≡ some_of listed i → is ≡ listed i → after ≡ some_after some is → after ≡ some_of listed (i + 1)
some_more listed i is some after s l more =
    let one : some_of listed (i + 1) ≡ some_after (some_of listed i) (listed i) = rw add-one refl in
    more ∙ ap (λ (b : Bool). some_after b is) s ∙ ap (λ (b : Bool). some_after (some_of listed i) b) l ∙ sym one

-- numbers that are not listed add nothing
skip_one : (listed : ℕ → Bool) (i : ℕ) → listed i ≡ false → (listed_text listed (i + 1) ≡ listed_text listed i) × (some_of listed (i + 1) ≡ some_of listed i)
unfolding listed_text upto
skip_one listed i none = (rw (add-one, none) (append-nil (listed_text listed i)), rw (add-one, none) refl)

pub listed_skip : (listed : ℕ → Bool) (i more : ℕ) → ((k : ℕ) → i ≤ k → k < i + more → listed k ≡ false) → (listed_text listed (i + more) ≡ listed_text listed i) × (some_of listed (i + more) ≡ some_of listed i)
listed_skip listed i zero none = rw add-zero (refl, refl)
listed_skip listed i (suc more) none =
    let so = listed_skip listed i more (λ k above below. none k above (omega arith)) in
    let last = skip_one listed (i + more) (none (i + more) (omega arith) (omega arith)) in
    let next : i + suc more ≡ i + more + 1 = omega arith in
    rw next (last.0 ∙ so.0, last.1 ∙ so.1)

-- so far: the numbers below that one are listed, and it is the next member or stands past the width
pub record ListsSoFar (width : ℕ) (marks : ℕ → Option Mark) (starter : ℕ) (ended : Bool) (before now : List ℕ) (any : Bool) (number : ℕ) : Type 0 where
  pub above : 0 < number
  pub inside : number ≤ width + 1
  pub member : number ≤ width → is_of (marks number) starter ≡ true
  pub text : now ≡ before ++ listed_text (λ (done : ℕ). is_listed_in (marks (done + 1)) starter ended) (number - 1)
  pub some : any ≡ some_of (λ (done : ℕ). is_listed_in (marks (done + 1)) starter ended) (number - 1)

unlisted : (mark : Option Mark) (starter : ℕ) (ended : Bool) → is_of mark starter ≡ false → is_listed_in mark starter ended ≡ false
unlisted None starter ended none = refl
unlisted (Some mark) starter ended none = rw none refl

pub lists_on : (width : ℕ) (marks : ℕ → Option Mark) (starter : ℕ) (ended : Bool) (before now : List ℕ) (some : Bool) (from to : ℕ) → LeadsOn width marks starter from to
    → now ≡ before ++ listed_text (λ (done : ℕ). is_listed_in (marks (done + 1)) starter ended) from
    → some ≡ some_of (λ (done : ℕ). is_listed_in (marks (done + 1)) starter ended) from → ListsSoFar width marks starter ended before now some to
lists_on width marks starter ended before now some from to leads text s =
    let listed : ℕ → Bool = λ done. is_listed_in (marks (done + 1)) starter ended in
    let more : ℕ = to - 1 - from in
    let end : to - 1 ≡ from + more = omega (arith, leads.after) in
    let skip = listed_skip listed from more (λ k above below. unlisted (marks (k + 1)) starter ended (leads.between (k + 1) (omega arith) (omega (arith, leads.after)))) in
    record {
      above = omega (arith, leads.after);
      inside = leads.inside;
      member = leads.member;
      text = rw (end, skip.0) text;
      some = rw (end, skip.1) s;
    }

-- one member more
pub lists_more : (width : ℕ) (marks : ℕ → Option Mark) (starter : ℕ) (ended : Bool) (before now after : List ℕ) (some is any : Bool) (number to : ℕ) → ListsSoFar width marks starter ended before now some number
    → LeadsOn width marks starter number to → is ≡ is_listed_in (marks number) starter ended → after ≡ now ++ member_text some is number → any ≡ some_after some is
    → ListsSoFar width marks starter ended before after any to
lists_more width marks starter ended before now after some is any number to so leads l more s =
    let listed : ℕ → Bool = λ done. is_listed_in (marks (done + 1)) starter ended in
    let i : ℕ = number - 1 in
    let e : i + 1 ≡ number = omega (arith, so.above) in
    let is' : is ≡ listed i = l ∙ ap (λ (n : ℕ). is_listed_in (marks n) starter ended) (sym e) in
    let more' : after ≡ now ++ member_text some is (i + 1) = more ∙ ap (λ (n : ℕ). now ++ member_text some is n) (sym e) in
    lists_on width marks starter ended before after any number to leads
    (listed_more listed i is some before now after so.text so.some is' more' ∙ ap (λ (n : ℕ). before ++ listed_text listed n) e)
    (some_more listed i is some any so.some is' s ∙ ap (some_of listed) e)
