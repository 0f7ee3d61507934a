-- A line that is meant has more than 512 bytes where the own line that means it has, a byte 13 at its end not counted; and only where it has.
use Rattle.std.proofs.Common.{◌≡◌, ◌∙◌, ℕ, zero, suc, ◌+◌, ◌-◌, ◌<◌, ◌≤◌, Bool, true, false, if◌then◌else◌}
use Rattle.std.proofs.Common.{List, [], ◌∷◌, ◌++◌, Option, Some, None, is_some, length, nat_lt, slice_index_or, ap, sym, subst, refl, inl, inr, arith}
use Rattle.std.proofs.lemmas.Bool.Decides.{eqb_tells}
use Rattle.std.proofs.lemmas.Bool.{ltb-false, ne_eqb}
use Rattle.tx_check.proofs.Growing.{none_left, past_first}
use Rattle.tx_check.specs.Numbered.{after_lines, behind, behind_by, line_at}
use Rattle.tx_lines.specs.Schedule.{after_line, first_line}
use Rattle.tx_translate.proofs.LineParts.{own_last, own_split}
use Rattle.tx_translate.proofs.NextMeant.{third_next}
use Rattle.tx_translate.specs.Lines.{plain_line, plain_of_words, short_or, stage_after}
use Rattle.tx_translate.specs.Meant.{meant_of, own_line}
use Rattle.tx_translate.specs.OwnLines.{own_lines, without_return}
use Rattle.tx_translate.specs.Plain.{bare, ended, is_third, line_in, numbered, numbers_from, plain_from, plain_of}
use Rattle.tx_translate.specs.Words.{words_in}
use Rattle.tx_translate.specs.declared.stage.Stage.{Stage}
use Rattle.tx_translate.specs.declared.stage.Stage.TheVariants.{Heading}

-- a line that means a long one is long
long_by : (over : Bool) (line : List ℕ) (short : Option (List ℕ)) → 512 < length (bare (if over then Some line else short)) → (512 < length (bare short) → 512 < length line) → 512 < length line
long_by true line short is less = is
long_by false line short is less = less is

pick_by : (over : Bool) (line plain : List ℕ) → nat_lt 512 (length plain) ≡ over → 512 < length (bare (if over then Some line else Some plain)) → 512 < length line
pick_by true line plain over is = is
pick_by false line plain over is = absurd (omega (arith, is, ltb-false 512 (length plain) over))

short_by : (line : List ℕ) (found : Option (List ℕ)) → 512 < length (bare (short_or line found)) → 512 < length line
short_by line None is = absurd (omega (arith, is))
short_by line (Some plain) is = pick_by (nat_lt 512 (length plain)) line plain refl is

long_line : (stage : Stage) (line : List ℕ) → 512 < length (bare (plain_line stage line)) → 512 < length line
long_line stage line is =
    long_by (nat_lt 512 (length line)) line (short_or line (plain_of_words stage (words_in line))) is (short_by line (plain_of_words stage (words_in line)))

-- a line that is too long means itself
itself_by : (over : Bool) (line : List ℕ) (short : Option (List ℕ)) → nat_lt 512 (length line) ≡ over → 512 < length line → 512 < length (bare (if over then Some line else short))
itself_by true line short over long = long
itself_by false line short over long = absurd (omega (arith, long, ltb-false 512 (length line) over))

means_long : (stage : Stage) (line : List ℕ) → 512 < length line → 512 < length (bare (plain_line stage line))
means_long stage line long = itself_by (nat_lt 512 (length line)) line (short_or line (plain_of_words stage (words_in line))) refl long

-- an own line has no byte more without a byte 13 at its end
no_longer : (line : List ℕ) → length (without_return line) ≤ length line
no_longer [] = omega arith
no_longer (byte ∷ []) = elim (eqb_tells byte 13) [ inl h ↦ rw h.0 (omega arith) | inr h ↦ rw h.0 (omega arith) ]
no_longer (byte ∷ next ∷ bytes) = let later = no_longer (next ∷ bytes) in omega (arith, later)

-- the first own line of a text, and those after it
record IsFirstOwn (left line : List ℕ) (lines : List (List ℕ)) : Type 0 where
  first : line ≡ without_return (first_line left)
  others : own_lines (behind left) ≡ lines

heads : {A : Type 0} (x y : A) (xs ys : List A) → x ∷ xs ≡ y ∷ ys → (x ≡ y) × (xs ≡ ys)
heads x y xs ys e = (cc, cc)

first_by : (left : List ℕ) (found : Option (List ℕ)) (line : List ℕ) (lines : List (List ℕ)) → after_line left ≡ found → 0 < length left → own_lines left ≡ line ∷ lines → IsFirstOwn left line lines
first_by left None line lines after some own =
    let both = heads (without_return (first_line left)) line [] lines (sym (own_last left (first_line left) some refl (sym after)) ∙ own) in
    record { first = sym both.0; others = ap (λ (f : Option (List ℕ)). own_lines (behind_by f)) after ∙ both.1 }
first_by left (Some rest) line lines after some own =
    let both = heads (without_return (first_line left)) line (own_lines rest) lines (sym (own_split left (first_line left) rest refl (sym after)) ∙ own) in
    record { first = sym both.0; others = ap (λ (f : Option (List ℕ)). own_lines (behind_by f)) after ∙ both.1 }

first_own : (left line : List ℕ) (lines : List (List ℕ)) → own_lines left ≡ line ∷ lines → IsFirstOwn left line lines
first_own [] line lines own = absurd (cc)
first_own (byte ∷ bytes) line lines own = first_by (byte ∷ bytes) (after_line (byte ∷ bytes)) line lines refl (omega arith) own

-- where no own line is left, nothing is
no_own : (left : List ℕ) (found : Option (List ℕ)) → after_line left ≡ found → 0 < length left → own_lines left ≡ [] → ⊥
no_own left None after some own =
    omega (arith, ap length (sym (own_last left (first_line left) some refl (sym after)) ∙ own))
no_own left (Some rest) after some own = omega (arith, ap length (sym (own_split left (first_line left) rest refl (sym after)) ∙ own))

none_owned : (left : List ℕ) → own_lines left ≡ [] → left ≡ []
none_owned [] own = refl
none_owned (byte ∷ bytes) own = absurd (no_own (byte ∷ bytes) (after_line (byte ∷ bytes)) refl (omega arith) own)

-- a line that is meant comes from an own one, so many lines on
record IsMeantBy (number : ℕ) (numbers : List ℕ) (k after : ℕ) (left meant : List ℕ) : Type 0 where
  on : ℕ
  same : slice_index_or numbers k after ≡ number + on
  stage : Stage
  line : List ℕ
  own : line ≡ without_return (first_line (after_lines on left))
  means : meant ≡ bare (plain_line stage line)

later_own : (number k after : ℕ) (left meant : List ℕ) (numbers : List ℕ) → IsMeantBy (number + 1) numbers k after (behind left) meant → IsMeantBy number numbers k after left meant
later_own number k after left meant numbers is = record {
  on = suc is.on;
  same = omega (arith, is.same);
  stage = is.stage;
  line = is.line;
  own = is.own ∙ ap (λ (t : List ℕ). without_return (first_line t)) (sym (past_first is.on left));
  means = is.means;
}

-- after the last one nothing is, and means nothing
meant_by_none : (number k after : ℕ) (left : List ℕ) → own_lines left ≡ [] → number ≤ after → IsMeantBy number [] k after left (first_line (after_lines k []))
meant_by_none number k after left own few =
    let on = after - number in
    record {
      on = on;
      same = omega (arith, few);
      stage = Heading;
      line = [];
      own = sym (ap (λ (t : List ℕ). without_return (first_line t)) (ap (after_lines on) (none_owned left own) ∙ none_left on));
      means = ap first_line (none_left k);
    }

meant_by : (lines : List (List ℕ)) (left : List ℕ) (stage : Stage) (number k after : ℕ) → own_lines left ≡ lines → number + length lines ≤ after
    → IsMeantBy number (numbers_from stage number lines) k after left (first_line (after_lines k (plain_from stage lines)))
meant_by [] left stage number k after own few = meant_by_none number k after left own (omega (arith, few))
meant_by (line ∷ lines) left stage number k after own few =
    by (λ on. meant_by lines (behind left) later (number + 1) on after first.others (omega (arith, few))) (plain_line stage line) refl k
  where
    first : IsFirstOwn left line lines
    first = first_own left line lines own

    later : Stage
    later = stage_after stage (words_in line)

    by : ((on : ℕ) → IsMeantBy (number + 1) (numbers_from later (number + 1) lines) on after (behind left) (first_line (after_lines on (plain_from later lines))))
        → (found : Option (List ℕ)) → plain_line stage line ≡ found → (k : ℕ)
        → IsMeantBy number (numbered number found (numbers_from later (number + 1) lines)) k after left (first_line (after_lines k (ended found ++ plain_from later lines)))
    by again None is k = later_own number k after left (first_line (after_lines k (plain_from later lines))) (numbers_from later (number + 1) lines) (again k)
    by again (Some plain) is zero =
        let next = third_next stage left line lines own (ap is_some is) in record {
          on = 0;
          same = omega arith;
          stage = stage;
          line = line;
          own = first.first;
          means = ap (λ (f : Option (List ℕ)). first_line (ended f ++ plain_from later lines)) (sym is)
              ∙ ap (λ (ls : List (List ℕ)). first_line (plain_from stage ls)) (sym own)
              ∙ sym next.first;
        }
    by again (Some plain) is (suc k) =
        let next = third_next stage left line lines own (ap is_some is) in
        let text : List ℕ = ended (Some plain) ++ plain_from later lines in
        let rest : behind text ≡ plain_from later lines =
        ap (λ (f : Option (List ℕ)). behind (ended f ++ plain_from later lines)) (sym is)
        ∙ ap (λ (ls : List (List ℕ)). behind (plain_from stage ls)) (sym own) ∙ ap behind_by next.after in
        let found = later_own number k after left (first_line (after_lines k (plain_from later lines))) (numbers_from later (number + 1) lines) (again k) in
        record {
          on = found.on;
          same = found.same;
          stage = found.stage;
          line = found.line;
          own = found.own;
          means = ap first_line (past_first k text ∙ ap (after_lines k) rest) ∙ found.means;
        }

-- so does each line that a text of version 3 means
record ComesFrom (text : List ℕ) (number : ℕ) : Type 0 where
  stage : Stage
  line : List ℕ
  own : line ≡ without_return (line_at (line_in text number) text)
  means : line_at number (plain_of text) ≡ bare (plain_line stage line)

comes_from : (text : List ℕ) (number : ℕ) → 1 ≤ number → ComesFrom text number
comes_from text zero some = absurd (omega (arith, some))
comes_from text (suc count) some =
    let other = ne_eqb (suc count) 0 (λ e. omega (arith, e)) in
    let is = meant_by (own_lines text) text Heading 1 (suc count - 1) (length (own_lines text) + 1) refl (omega arith) in
    let number : line_in text (suc count) ≡ 1 + is.on = rw other is.same in
    let here : is.on ≡ line_in text (suc count) - 1 = omega (arith, number) in
    record { stage = is.stage; line = is.line; own = is.own ∙ ap (λ (n : ℕ). without_return (first_line (after_lines n text))) here; means = is.means }

own_by : (third : Bool) (text : List ℕ) (number : ℕ) → 1 ≤ number → 512 < length (line_at number (if third then plain_of text else text))
    → 512 < length (line_at (if third then line_in text number else number) text)
own_by true text number some long =
    let is = comes_from text number some in
    let line = long_line is.stage is.line (subst (λ (t : List ℕ). 512 < length t) is.means long) in
    omega (arith, line, ap length is.own, no_longer (line_at (line_in text number) text))
own_by false text number some long = long

pub own_long : (text : List ℕ) (number : ℕ) → 1 ≤ number → 512 < length (line_at number (meant_of text)) → 512 < length (line_at (own_line text number) text)
own_long text number some long = own_by (is_third text) text number some long

long_by_own : (third : Bool) (text : List ℕ) (number : ℕ) → 1 ≤ number → 512 < length (without_return (line_at (if third then line_in text number else number) text))
    → 512 < length (line_at number (if third then plain_of text else text))
long_by_own true text number some long =
    let is = comes_from text number some in
    subst (λ (t : List ℕ). 512 < length t) (sym is.means) (means_long is.stage is.line (subst (λ (t : List ℕ). 512 < length t) (sym is.own) long))
long_by_own false text number some long = omega (arith, long, no_longer (line_at number text))

pub meant_long : (text : List ℕ) (number : ℕ) → 1 ≤ number → 512 < length (without_return (line_at (own_line text number) text)) → 512 < length (line_at number (meant_of text))
meant_long text number some long = long_by_own (is_third text) text number some long
