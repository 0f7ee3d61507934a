-- Lines of version 2 that mean themselves, and texts of these.
use Rattle.std.proofs.Common.{◌≡◌, ℕ, zero, suc, ◌+◌, ◌-◌, ◌<◌, ◌≤◌, ◌^◌, Bool, true, false, nat_lt, cond, List, [], ◌∷◌, ◌++◌, codes, length, length-append, map, Option, Some, refl, ap, sym, ◌∙◌, arith, inl, inr, append_assoc, slice_index_or}
use Rattle.std.proofs.lemmas.Bool.{ne_eqb}
use Rattle.std.proofs.lemmas.Bool.Decides.{nat_tests}
use Rattle.std.proofs.lemmas.Fmt.{length-decimal-le}
use Rattle.std.proofs.lemmas.List.{append-nil}
use Rattle.std.specs.Fmt.{decimal}
use Rattle.std.specs.List.{All}
use Rattle.tx_lines.specs.Lines.{header_text}
use Rattle.tx_lines.specs.Schedule.{lines_of}
use Rattle.tx_lines.specs.declared.read.header.TextKind.{TextKind}
use Rattle.tx_lines.specs.declared.read.header.TextKind.TheVariants.{Schedule, Program}
use Rattle.tx_translate.specs.Laws.{second, third_header, Means}
use Rattle.tx_translate.specs.Lines.{kind_of, plain_line, plain_of_words, plain_others, plain_version, short_or, spaced, stage_after}
use Rattle.tx_translate.specs.Names.{names_process}
use Rattle.tx_translate.specs.OwnLines.{own_lines, without_return}
use Rattle.tx_translate.specs.Plain.{ended, is_header_or, is_third_from, line_among, numbered, numbers_from, plain_from}
use Rattle.tx_translate.specs.Words.{words_in}
use Rattle.tx_translate.specs.declared.stage.Stage.{Stage}
use Rattle.tx_translate.specs.declared.stage.Stage.TheVariants.{Heading, Within}
use Rattle.tx_translate.proofs.BareLines.{ended_line, line_within, no_return, words_spaced}
use Rattle.tx_translate.proofs.Bytes.{bare, bare_decimal, AllBare, AreWithin, IsBare}
use Rattle.tx_translate.proofs.NamingWords.{unnamed_means}
use Rattle.tx_translate.proofs.Tests.{two_ways}

-- a line is words of the alphabet, and they mean themselves in a text of that kind
pub record StaysIn (kind : TextKind) (line : List ℕ) : Type 0 where
  pub first : List ℕ
  pub others : List (List ℕ)
  pub spelled : line ≡ first ++ spaced others
  pub first_bare : IsBare first
  pub others_bare : AllBare others
  pub stay : plain_others (Within kind) first others ≡ others
  pub unnamed : names_process (Within kind) first others ≡ false

abbrev pub AllStay : TextKind → List (List ℕ) → Type 0
AllStay kind [] = Unit {0}
AllStay kind (line ∷ lines) = StaysIn kind line × AllStay kind lines

-- lines, each with its end
abbrev pub ended_by : List (List ℕ) → List ℕ
ended_by lines = lines_of (λ line. line) lines

pub lines_mapped : {A : Type 0} (spelling : A → List ℕ) (xs : List A) → lines_of spelling xs ≡ ended_by (map spelling xs)
lines_mapped spelling [] = refl
lines_mapped spelling (x ∷ xs) = ap (λ (t : List ℕ). spelling x ++ 10 ∷ t) (lines_mapped spelling xs)

pub all_stay : {A : Type 0} (kind : TextKind) (spelling : A → List ℕ) (Is : A → Type 0) (each : (x : A) → Is x → StaysIn kind (spelling x)) (xs : List A) → All Is xs → AllStay kind (map spelling xs)
all_stay kind spelling Is each [] all = tt
all_stay kind spelling Is each (x ∷ xs) all = (each x (all 0 x (omega arith)), all_stay kind spelling Is each xs (λ k d below. all (suc k) d (omega arith)))

pub stays_within : (kind : TextKind) (line : List ℕ) → StaysIn kind line → AreWithin 13 128 line
stays_within kind line stays = let is = line_within stays.first stays.others stays.first_bare stays.others_bare in rw stays.spelled is

short_line : (long : Bool) (line : List ℕ) → cond long (Some line) (Some line) ≡ Some line
short_line true line = refl
short_line false line = refl

pub words_mean : (kind : TextKind) (line : List ℕ) → StaysIn kind line → plain_of_words (Within kind) (words_in line) ≡ Some line
words_mean kind line stays =
    ap (plain_of_words (Within kind)) (ap words_in stays.spelled ∙ words_spaced stays.first stays.others stays.first_bare stays.others_bare)
    ∙ unnamed_means (Within kind) stays.first stays.others stays.unnamed
    ∙ ap (λ (others : List (List ℕ)). Some (stays.first ++ spaced others)) stays.stay
    ∙ ap Some (sym stays.spelled)

-- such a line means itself
pub line_means : (kind : TextKind) (line : List ℕ) → StaysIn kind line → plain_line (Within kind) line ≡ Some line
line_means kind line stays =
    elim (two_ways (nat_lt 512 (length line))) [
      | inl h ↦ rw h refl
      | inr h ↦ rw h (ap (short_or line) (words_mean kind line stays) ∙ short_line (nat_lt 512 (length line)) line)
    ]

-- the lines of a text of such lines are these
own_before : (line rest : List ℕ) → AreWithin 13 128 line → own_lines (line ++ 10 ∷ rest) ≡ line ∷ own_lines rest
own_before line rest are = ap (map without_return) (ended_line line rest are) ∙ ap (λ (l : List ℕ). l ∷ own_lines rest) (no_return line are)

own_ended : (kind : TextKind) (lines : List (List ℕ)) → AllStay kind lines → own_lines (ended_by lines) ≡ lines
own_ended kind [] stay = refl
own_ended kind (line ∷ lines) stay =
    own_before line (ended_by lines) (stays_within kind line stay.0) ∙ ap (λ (ls : List (List ℕ)). line ∷ ls) (own_ended kind lines stay.1)

plain_ended : (kind : TextKind) (lines : List (List ℕ)) → AllStay kind lines → plain_from (Within kind) lines ≡ ended_by lines
plain_ended kind [] stay = refl
plain_ended kind (line ∷ lines) stay =
    ap (λ (l : Option (List ℕ)). ended l ++ plain_from (Within kind) lines) (line_means kind line stay.0)
    ∙ append_assoc line (10 ∷ []) (plain_from (Within kind) lines)
    ∙ ap (λ (t : List ℕ). line ++ 10 ∷ t) (plain_ended kind lines stay.1)

-- each has the number of the line that means it
number_at : (first : ℕ) (others : List ℕ) (i after : ℕ) → ((k : ℕ) → i ≡ k + 1 → slice_index_or others k after ≡ first + 1 + k) → slice_index_or (first ∷ others) i after ≡ first + i
number_at first others zero after later = omega arith
number_at first others (suc k) after later = later k (omega arith) ∙ omega arith

numbers_stay : (kind : TextKind) (first : ℕ) (lines : List (List ℕ)) → AllStay kind lines → (i after : ℕ) → i ≤ length lines → after ≡ first + length lines →
    slice_index_or (numbers_from (Within kind) first lines) i after ≡ first + i
numbers_stay kind first [] stay i after inside is = let zero : i ≡ 0 = omega (arith, inside) in omega arith
numbers_stay kind first (line ∷ lines) stay i after inside is =
    ap (λ (ns : List ℕ). slice_index_or ns i after) (ap (λ (l : Option (List ℕ)). numbered first l (numbers_from (Within kind) (first + 1) lines)) (line_means kind line stay.0))
    ∙ number_at first (numbers_from (Within kind) (first + 1) lines) i after (λ k below. numbers_stay kind (first + 1) lines stay.1 k after (omega (arith, inside, below)) (omega (arith, is)))

-- the header of version 3
abbrev kind_word : TextKind → List ℕ
kind_word Schedule = codes "schedule"
kind_word Program = codes "program"

abbrev header_words : TextKind → ℕ → List (List ℕ)
header_words kind count = codes "3" ∷ kind_word kind ∷ decimal count ∷ []

header_spelled : (kind : TextKind) (count : ℕ) → third_header kind count ≡ codes "txos" ++ spaced (header_words kind count)
header_spelled Schedule count = ap (λ (t : List ℕ). codes "txos 3 schedule " ++ t) (sym (append-nil (decimal count)))
header_spelled Program count = ap (λ (t : List ℕ). codes "txos 3 program " ++ t) (sym (append-nil (decimal count)))

second_spelled : (kind : TextKind) (count : ℕ) → header_text kind (second count) ≡ codes "txos" ++ spaced (plain_version (header_words kind count))
second_spelled Schedule count = ap (λ (t : List ℕ). codes "txos 2 schedule " ++ t) (sym (append-nil (decimal count)))
second_spelled Program count = ap (λ (t : List ℕ). codes "txos 2 program " ++ t) (sym (append-nil (decimal count)))

header_bare : (kind : TextKind) (count : ℕ) → count < 2 ^ 16 → AllBare (header_words kind count)
header_bare Schedule count small = (bare (codes "3") refl, (bare (codes "schedule") refl, (bare_decimal count (omega arith), tt)))
header_bare Program count small = (bare (codes "3") refl, (bare (codes "program") refl, (bare_decimal count (omega arith), tt)))

header_in : (kind : TextKind) (count : ℕ) → count < 2 ^ 16 → words_in (third_header kind count) ≡ codes "txos" ∷ header_words kind count
header_in kind count small = ap words_in (header_spelled kind count) ∙ words_spaced (codes "txos") (header_words kind count) (bare (codes "txos") refl) (header_bare kind count small)

header_within : (kind : TextKind) (count : ℕ) → count < 2 ^ 16 → AreWithin 13 128 (third_header kind count)
header_within kind count small =
    let is = line_within (codes "txos") (header_words kind count) (bare (codes "txos") refl) (header_bare kind count small) in
    rw header_spelled is

short_count : (front : List ℕ) (count : ℕ) → count < 2 ^ 16 → length front ≤ 16 → nat_lt 512 (length (front ++ decimal count)) ≡ false
short_count front count small few =
    let digits = length-decimal-le 5 count (omega arith) (omega arith) (omega arith) in
    let short : length (front ++ decimal count) ≤ 512 = omega (arith, length-append front (decimal count)) in
    grind (arith, nat_tests, short)

header_short : (kind : TextKind) (count : ℕ) → count < 2 ^ 16 → nat_lt 512 (length (third_header kind count)) ≡ false
header_short Schedule count small = short_count (codes "txos 3 schedule ") count small (omega arith)
header_short Program count small = short_count (codes "txos 3 program ") count small (omega arith)

second_short : (kind : TextKind) (count : ℕ) → count < 2 ^ 16 → nat_lt 512 (length (header_text kind (second count))) ≡ false
second_short Schedule count small = short_count (codes "txos 2 schedule ") count small (omega arith)
second_short Program count small = short_count (codes "txos 2 program ") count small (omega arith)

header_means : (kind : TextKind) (count : ℕ) → count < 2 ^ 16 → plain_line Heading (third_header kind count) ≡ Some (header_text kind (second count))
header_means kind count small =
    ap (λ (b : Bool). cond b (Some (third_header kind count)) (short_or (third_header kind count) (plain_of_words Heading (words_in (third_header kind count))))) (header_short kind count small)
    ∙ ap (λ (words : List (List ℕ)). short_or (third_header kind count) (plain_of_words Heading words)) (header_in kind count small)
    ∙ ap (λ (line : List ℕ). short_or (third_header kind count) (Some line)) (sym (second_spelled kind count))
    ∙ ap (λ (b : Bool). cond b (Some (third_header kind count)) (Some (header_text kind (second count)))) (second_short kind count small)

header_kind : (kind : TextKind) (count : ℕ) → kind_of (header_words kind count) ≡ kind
header_kind Schedule count = refl
header_kind Program count = refl

numbers_in : (kind : TextKind) (lines : List (List ℕ)) → AllStay kind lines → (number after : ℕ) → after ≡ length lines + 2 → number ≤ after →
    line_among (1 ∷ numbers_from (Within kind) 2 lines) after number ≡ number
numbers_in kind lines stay zero after is below = refl
numbers_in kind lines stay (suc i) after is below =
    let at : suc i - 1 ≡ i = omega arith in
    let some = ne_eqb (suc i) 0 (λ e. omega arith) in
    rw some
    (ap (λ (k : ℕ). slice_index_or (1 ∷ numbers_from (Within kind) 2 lines) k after) at
    ∙ number_at 1 (numbers_from (Within kind) 2 lines) i after (λ k more. numbers_stay kind 2 lines stay k after (omega (arith, below, is, more)) (omega (arith, is)))
    ∙ omega arith)

-- a text of such lines means itself, but for its header
pub text_means : (kind : TextKind) (count : ℕ) (lines : List (List ℕ)) → count < 2 ^ 16 → AllStay kind lines →
    Means (third_header kind count ++ 10 ∷ ended_by lines) (header_text kind (second count) ++ 10 ∷ ended_by lines)
text_means kind count lines small stay =
    let header = third_header kind count in
    let words = header_in kind count small in
    let own : own_lines (header ++ 10 ∷ ended_by lines) ≡ header ∷ lines =
    own_before header (ended_by lines) (header_within kind count small) ∙ ap (λ (ls : List (List ℕ)). header ∷ ls) (own_ended kind lines stay) in
    let stage : stage_after Heading (words_in header) ≡ Within kind = ap (stage_after Heading) words ∙ ap Within (header_kind kind count) in
    record {
      third = ap is_third_from own ∙ ap (is_header_or (is_third_from lines)) words;
      means = ap (plain_from Heading) own
          ∙ ap (λ (line : Option (List ℕ)). ended line ++ plain_from (stage_after Heading (words_in header)) lines) (header_means kind count small)
          ∙ ap (λ (s : Stage). (header_text kind (second count) ++ 10 ∷ []) ++ plain_from s lines) stage
          ∙ append_assoc (header_text kind (second count)) (10 ∷ []) (plain_from (Within kind) lines)
          ∙ ap (λ (t : List ℕ). header_text kind (second count) ++ 10 ∷ t) (plain_ended kind lines stay);
      lines = λ number below.
          let after : ℕ = length (header ∷ lines) + 1 in
          ap (λ (ls : List (List ℕ)). line_among (numbers_from Heading 1 ls) (length ls + 1) number) own
          ∙ ap (λ (line : Option (List ℕ)). line_among (numbered 1 line (numbers_from (stage_after Heading (words_in header)) 2 lines)) after number) (header_means kind count small)
          ∙ ap (λ (s : Stage). line_among (1 ∷ numbers_from s 2 lines) after number) stage
          ∙ numbers_in kind lines stay number after (omega arith) (omega (arith, below, ap (length {A = List ℕ}) own));
    }
