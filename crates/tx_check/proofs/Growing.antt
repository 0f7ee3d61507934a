-- Lines one after another, with one more, and what follows some.
use Rattle.std.proofs.Common.{◌≡◌, ◌≢◌, ◌∙◌, ℕ, zero, suc, ◌<◌, ◌==◌, eqb-true, true, false, List, [], ◌∷◌, ◌++◌, Option, Some, None, is_some, length, refl, ap, sym, inl, inr, arith, append_assoc, All}
use Rattle.std.proofs.lemmas.Bool.{both_ways}
use Rattle.std.proofs.lemmas.Bool.Decides.{eqb_tells}
use Rattle.std.proofs.lemmas.List.Elements.{All-append}
use Rattle.tx_check.proofs.EndedLines.{after_ended, first_ended}
use Rattle.tx_check.proofs.ShortLines.{short_line}
use Rattle.tx_check.specs.Numbered.{after_lines, behind, behind_by}
use Rattle.tx_lines.specs.Programs.{line_text, IsLineOf}
use Rattle.tx_lines.specs.Schedule.{after_line, first_line, lines_of}
use Rattle.tx_lines.specs.declared.instructions.Line.{Line}
use Rattle.tx_lines.specs.declared.read.header.Version.{Version}

-- a line with an end, and what follows it
line_parts : (text rest : List ℕ) → after_line text ≡ Some rest → text ≡ first_line text ++ 10 ∷ rest
line_parts [] rest e = absurd (cc)
line_parts (byte ∷ bytes) rest e =
    elim (eqb_tells byte 10) [
      | inl h ↦ let here : Some bytes ≡ Some rest = rw h.0 at e in
          let same : bytes ≡ rest = cc in
          rw (h.0, h.1, same) refl
      | inr h ↦ let on : after_line bytes ≡ Some rest = rw h.0 at e in rw h.0 (ap (λ (t : List ℕ). byte ∷ t) (line_parts bytes rest on))
    ]

pub some_by : (found : Option (List ℕ)) → is_some found ≡ true → found ≡ Some (behind_by found)
some_by None e = absurd (cc)
some_by (Some rest) e = refl

pub none_by : (found : Option (List ℕ)) → is_some found ≡ false → found ≡ None
none_by None e = refl
none_by (Some rest) e = absurd (cc)

pub spelled_on : (left line : List ℕ) → is_some (after_line left) ≡ true → first_line left ≡ line → left ≡ line ++ 10 ∷ behind left
spelled_on left line ended first =
    line_parts left (behind left) (some_by (after_line left) ended) ∙ ap (λ (t : List ℕ). t ++ 10 ∷ behind left) first

-- all of some, and of one more
one_good : {A : Type 0} (P : A → Type 0) (x : A) → P x → All P (x ∷ [])
one_good P x good zero d below = good
one_good P x good (suc k) d below = absurd (omega arith)

pub all_last : {A : Type 0} (P : A → Type 0) (xs : List A) (x : A) → All P xs → P x → All P (xs ++ x ∷ [])
all_last P xs x all good = All-append P xs (x ∷ []) all (one_good P x good)

pub lines_both : {A : Type 0} (spelling : A → List ℕ) (xs ys : List A) (rest : List ℕ) → lines_of spelling (xs ++ ys) ++ rest ≡ lines_of spelling xs ++ (lines_of spelling ys ++ rest)
lines_both spelling [] ys rest = refl
lines_both spelling (x ∷ xs) ys rest =
    append_assoc (spelling x) (10 ∷ lines_of spelling (xs ++ ys)) rest
    ∙ ap (λ (t : List ℕ). spelling x ++ 10 ∷ t) (lines_both spelling xs ys rest)
    ∙ sym (append_assoc (spelling x) (10 ∷ lines_of spelling xs) (lines_of spelling ys ++ rest))

pub lines_last : {A : Type 0} (spelling : A → List ℕ) (xs : List A) (x : A) (left rest : List ℕ) → left ≡ spelling x ++ 10 ∷ rest → lines_of spelling xs ++ left ≡ lines_of spelling (xs ++ x ∷ []) ++ rest
lines_last spelling xs x left rest parts =
    ap (λ (t : List ℕ). lines_of spelling xs ++ t) (parts ∙ sym (append_assoc (spelling x) (10 ∷ []) rest))
    ∙ sym (lines_both spelling xs (x ∷ []) rest)

-- lines are counted from either end
pub past_first : (count : ℕ) (text : List ℕ) → after_lines (suc count) text ≡ after_lines count (behind text)
past_first zero text = refl
past_first (suc count) text = ap behind (past_first count text)

pub all_after : {A : Type 0} (P : A → Type 0) (x : A) (xs : List A) → All P (x ∷ xs) → All P xs
all_after P x xs all = λ k d below. all (suc k) d (omega (arith, below))

-- after the first of some lines
pub next_after : (version : Version) (one : Line) (lines : List Line) (left : List ℕ) → IsLineOf version one → behind (lines_of line_text (one ∷ lines) ++ left) ≡ lines_of line_text lines ++ left
next_after version one lines left good =
    ap behind (append_assoc (line_text one) (10 ∷ lines_of line_text lines) left)
    ∙ ap behind_by (after_ended (line_text one) (lines_of line_text lines ++ left) (short_line version one good).in_line)

pub first_of : (version : Version) (one : Line) (lines : List Line) (left : List ℕ) → IsLineOf version one → first_line (lines_of line_text (one ∷ lines) ++ left) ≡ line_text one
first_of version one lines left good =
    ap first_line (append_assoc (line_text one) (10 ∷ lines_of line_text lines) left)
    ∙ first_ended (line_text one) (lines_of line_text lines ++ left) (short_line version one good).in_line

-- one line among some
pub line_among : (version : Version) (before : List Line) (one : Line) (after : List Line) (left : List ℕ) → All (IsLineOf version) (before ++ one ∷ after) → first_line (after_lines (length before) (lines_of line_text (before ++ one ∷ after) ++ left)) ≡ line_text one
line_among version [] one after left fit = first_of version one after left (fit 0 one (omega arith))
line_among version (x ∷ before) one after left fit =
    ap first_line (past_first (length before) (lines_of line_text (x ∷ (before ++ one ∷ after)) ++ left))
    ∙ ap (λ (t : List ℕ). first_line (after_lines (length before) t)) (next_after version x (before ++ one ∷ after) left (fit 0 x (omega arith)))
    ∙ line_among version before one after left (all_after (IsLineOf version) x (before ++ one ∷ after) fit)

-- what is left before one of them
pub left_among : (version : Version) (before : List Line) (one : Line) (after : List Line) (left : List ℕ) → All (IsLineOf version) (before ++ one ∷ after)
    → after_lines (length before) (lines_of line_text (before ++ one ∷ after) ++ left) ≡ lines_of line_text (one ∷ after) ++ left
left_among version [] one after left fit = refl
left_among version (x ∷ before) one after left fit =
    past_first (length before) (lines_of line_text (x ∷ (before ++ one ∷ after)) ++ left)
    ∙ ap (after_lines (length before)) (next_after version x (before ++ one ∷ after) left (fit 0 x (omega arith)))
    ∙ left_among version before one after left (all_after (IsLineOf version) x (before ++ one ∷ after) fit)

pub after_first : (version : Version) (one : Line) (lines : List Line) (left : List ℕ) → IsLineOf version one → after_line (lines_of line_text (one ∷ lines) ++ left) ≡ Some (lines_of line_text lines ++ left)
after_first version one lines left good =
    ap after_line (append_assoc (line_text one) (10 ∷ lines_of line_text lines) left)
    ∙ after_ended (line_text one) (lines_of line_text lines ++ left) (short_line version one good).in_line

pub none_left : (count : ℕ) → after_lines count [] ≡ []
none_left zero = refl
none_left (suc count) = ap behind (none_left count)

-- no line after all of them
pub none_beyond : (version : Version) (lines : List Line) (count : ℕ) → All (IsLineOf version) lines → (count < length lines → ⊥) → after_lines count (lines_of line_text lines ++ []) ≡ []
none_beyond version [] count fit past = none_left count
none_beyond version (one ∷ lines) zero fit past = absurd (past (omega arith))
none_beyond version (one ∷ lines) (suc count) fit past =
    past_first count (lines_of line_text (one ∷ lines) ++ [])
    ∙ ap (after_lines count) (next_after version one lines [] (fit 0 one (omega arith)))
    ∙ none_beyond version lines count (all_after (IsLineOf version) one lines fit) (λ below. past (omega (arith, below)))

-- whether anything is left
pub some_left : (xs : List ℕ) → false ≡ (length xs == 0) → xs ≢ []
some_left [] more = absurd (both_ways true (sym more) refl)
some_left (x ∷ xs) more = λ e. absurd (cc)

pub nothing_left : (xs : List ℕ) → (length xs == 0) ≡ true → xs ≡ []
nothing_left [] none = refl
nothing_left (x ∷ xs) none = absurd (omega (arith, eqb-true (length (x ∷ xs)) 0 none))
