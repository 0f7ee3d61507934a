-- A text is the same lines, each with its end, in only one way.
use Rattle.std.proofs.Common.{◌≡◌, ℕ, suc, Bool, true, false, not, nat_eq, ◌⊎◌, List, [], ◌∷◌, ◌++◌, Some, map, refl, ap, sym, ◌∙◌, inl, inr, arith, append_assoc, All}
use Rattle.std.specs.List.{list_all}
use Rattle.tx_check.proofs.InLine.{both_true}
use Rattle.tx_check.specs.Diagnostics.{is_no_end, IsInLine}
use Rattle.tx_lines.specs.Schedule.{after_line, first_line, lines_of}

-- lines, each with its end
abbrev pub with_ends : List (List ℕ) → List ℕ
with_ends [] = []
with_ends (line ∷ lines) = line ++ 10 ∷ with_ends lines

-- no line has an end in it
abbrev pub AreLinesEach : List (List ℕ) → Type 0
AreLinesEach [] = Unit {0}
AreLinesEach (line ∷ lines) = IsInLine line × AreLinesEach lines

pub spelled_lines : {A : Type 0} (spelling : A → List ℕ) (xs : List A) → lines_of spelling xs ≡ with_ends (map spelling xs)
spelled_lines spelling [] = refl
spelled_lines spelling (x ∷ xs) = ap (λ (t : List ℕ). spelling x ++ 10 ∷ t) (spelled_lines spelling xs)

pub ends_both : (xs ys : List (List ℕ)) (rest : List ℕ) → with_ends (xs ++ ys) ++ rest ≡ with_ends xs ++ (with_ends ys ++ rest)
ends_both [] ys rest = refl
ends_both (x ∷ xs) ys rest =
    append_assoc x (10 ∷ with_ends (xs ++ ys)) rest
    ∙ ap (λ (t : List ℕ). x ++ 10 ∷ t) (ends_both xs ys rest)
    ∙ sym (append_assoc x (10 ∷ with_ends xs) (with_ends ys ++ rest))

pub each_both : (xs ys : List (List ℕ)) → AreLinesEach xs → AreLinesEach ys → AreLinesEach (xs ++ ys)
each_both [] ys first second = second
each_both (x ∷ xs) ys first second = (first.0, each_both xs ys first.1 second)

-- the first line, and what follows it
no_end : (byte : ℕ) (bytes : List ℕ) → IsInLine (byte ∷ bytes) → (nat_eq byte 10 ≡ false) × IsInLine bytes
no_end byte bytes in_line = let parts = both_true (is_no_end byte) (list_all is_no_end bytes) in_line in (by (nat_eq byte 10) parts.0, parts.1)
  where
    by : (b : Bool) → not b ≡ true → b ≡ false
    by true bad = absurd (cc)
    by false good = refl

pub first_ended : (line rest : List ℕ) → IsInLine line → first_line (line ++ 10 ∷ rest) ≡ line
first_ended [] rest in_line = refl
first_ended (byte ∷ bytes) rest in_line =
    let parts = no_end byte bytes in_line in rw parts.0 (ap (λ (t : List ℕ). byte ∷ t) (first_ended bytes rest parts.1))

pub after_ended : (line rest : List ℕ) → IsInLine line → after_line (line ++ 10 ∷ rest) ≡ Some rest
after_ended [] rest in_line = refl
after_ended (byte ∷ bytes) rest in_line =
    let parts = no_end byte bytes in_line in rw parts.0 (after_ended bytes rest parts.1)

pub some_same : (left right : List ℕ) → Some left ≡ Some right → left ≡ right
some_same left right e = cc

pub same_ended : (left right more others : List ℕ) → IsInLine left → IsInLine right → left ++ 10 ∷ more ≡ right ++ 10 ∷ others → (left ≡ right) × (more ≡ others)
same_ended left right more others first second e = (
  sym (first_ended left more first) ∙ ap first_line e ∙ first_ended right others second,
  some_same more others (sym (after_ended left more first) ∙ ap after_line e ∙ after_ended right others second),
)

-- of two beginnings of a text, one goes on with what follows the other
pub record GoesOnTo (before : List (List ℕ)) (rest : List ℕ) (all : List (List ℕ)) (end : List ℕ) : Type 0 where
  pub more : List (List ℕ)
  pub whole : all ≡ before ++ more
  pub behind : rest ≡ with_ends more ++ end

-- the first is a front of the second, or the second one of the first that has fewer lines
abbrev pub AreFronts : List (List ℕ) → List ℕ → List (List ℕ) → List ℕ → Type 0
AreFronts first rest second end = GoesOnTo first rest second end ⊎ ((line : List ℕ) × (more : List (List ℕ)) × (first ≡ second ++ line ∷ more) × (end ≡ with_ends (line ∷ more) ++ rest))

one_more : (line other : List ℕ) (first second : List (List ℕ)) (rest end : List ℕ) → line ≡ other → AreFronts first rest second end → AreFronts (line ∷ first) rest (other ∷ second) end
one_more line other first second rest end same (inl on) = inl (record {
  more = on.more;
  whole = ap (λ (l : List ℕ). l ∷ second) (sym same) ∙ ap (λ (ls : List (List ℕ)). line ∷ ls) on.whole;
  behind = on.behind;
})
one_more line other first second rest end same (inr on) =
    inr (on.0, on.1, ap (λ (ls : List (List ℕ)). line ∷ ls) on.2 ∙ ap (λ (l : List ℕ). l ∷ (second ++ on.0 ∷ on.1)) same, on.3)

pub compare : (first second : List (List ℕ)) (rest end : List ℕ) → AreLinesEach first → AreLinesEach second → with_ends first ++ rest ≡ with_ends second ++ end → AreFronts first rest second end
compare [] second rest end one other e = inl (record { more = second; whole = refl; behind = e })
compare (line ∷ first) [] rest end one other e = inr (line, first, refl, sym e)
compare (line ∷ first) (next ∷ second) rest end one other e =
    let moved : line ++ 10 ∷ (with_ends first ++ rest) ≡ next ++ 10 ∷ (with_ends second ++ end) =
    sym (append_assoc line (10 ∷ with_ends first) rest) ∙ e ∙ append_assoc next (10 ∷ with_ends second) end in
    let same = same_ended line next (with_ends first ++ rest) (with_ends second ++ end) one.0 other.0 moved in
    one_more line next first second rest end same.0 (compare first second rest end one.1 other.1 same.1)

-- one of some things, by its line
pub record IsAmong {A : Type 0} (spelling : A → List ℕ) (xs : List A) (before : List (List ℕ)) (line : List ℕ) (after : List (List ℕ)) : Type 0 where
  pub earlier : List A
  pub this : A
  pub later : List A
  pub parts : xs ≡ earlier ++ this ∷ later
  pub before_this : map spelling earlier ≡ before
  pub spelled : spelling this ≡ line
  pub after_this : map spelling later ≡ after

pub heads_same : (x y : List ℕ) (xs ys : List (List ℕ)) → x ∷ xs ≡ y ∷ ys → (x ≡ y) × (xs ≡ ys)
heads_same x y xs ys e = (cc, cc)

pub among : {A : Type 0} (spelling : A → List ℕ) (xs : List A) (before : List (List ℕ)) (line : List ℕ) (after : List (List ℕ)) → map spelling xs ≡ before ++ line ∷ after → IsAmong spelling xs before line after
among spelling [] [] line after e = absurd (cc)
among spelling [] (first ∷ before) line after e = absurd (cc)
among spelling (x ∷ xs) [] line after e =
    let same = heads_same (spelling x) line (map spelling xs) after e in
    record { earlier = []; this = x; later = xs; parts = refl; before_this = refl; spelled = same.0; after_this = same.1 }
among {A} spelling (x ∷ xs) (first ∷ before) line after e =
    let same = heads_same (spelling x) first (map spelling xs) (before ++ line ∷ after) e in
    let on = among spelling xs before line after same.1 in
    record {
      earlier = x ∷ on.earlier;
      this = on.this;
      later = on.later;
      parts = ap (λ (ys : List A). x ∷ ys) on.parts;
      before_this = ap (λ (l : List ℕ). l ∷ map spelling on.earlier) same.0 ∙ ap (λ (ls : List (List ℕ)). first ∷ ls) on.before_this;
      spelled = on.spelled;
      after_this = on.after_this;
    }

-- what holds of all holds of each
pub all_at : {A : Type 0} (P : A → Type 0) (before : List A) (x : A) (after : List A) → All P (before ++ x ∷ after) → P x
all_at P [] x after all = all 0 x (omega arith)
all_at P (first ∷ before) x after all = all_at P before x after (λ k d below. all (suc k) d (omega (arith, below)))

pub all_each : {A : Type 0} (P : A → Type 0) (spelling : A → List ℕ) (xs : List A) → ((x : A) → P x → IsInLine (spelling x)) → All P xs → AreLinesEach (map spelling xs)
all_each P spelling [] in_context all = tt
all_each P spelling (x ∷ xs) in_context all = (in_context x (all 0 x (omega arith)), all_each P spelling xs in_context (λ k d below. all (suc k) d (omega (arith, below))))
