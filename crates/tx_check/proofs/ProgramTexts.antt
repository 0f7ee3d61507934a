-- The lines of a program: their text has one fault at most, and none where it is whole.
use Rattle.std.proofs.Common.{◌≡◌, ◌≢◌, ◌∙◌, ℕ, suc, List, [], ◌∷◌, ◌++◌, Some, length, map, refl, ap, sym, subst, inl, inr, arith, All, append-nil}
use Rattle.std.proofs.lemmas.List.{length-map}
use Rattle.std.specs.List.{IsDistinct}
use Rattle.std.specs.Map.{keys_of, lookup}
use Rattle.tx_check.proofs.EndedLines.{all_at, all_each, among, heads_same, spelled_lines, with_ends, AreLinesEach}
use Rattle.tx_check.proofs.Labelled.{instructions_both, labels_both, labels_split, linked_first, linked_later, linked_none, not_twice, same_counts, same_labels}
use Rattle.tx_check.proofs.NamedLabels.{no_label, same_label, same_user}
use Rattle.tx_check.proofs.NextLines.{some_after, IsRight}
use Rattle.tx_check.proofs.OneFault.{IsFaulty, IsGrammar}
use Rattle.tx_check.proofs.ShortLines.{short_line}
use Rattle.tx_lines.specs.Programs.{instructions_of, labels_of, line_text, linked, same_name, AreLines, FaultsAfterLines, FaultsAmongLines, FaultsAtProgramLine, IsFirstUser, IsLineOf, IsNoLineOf, IsPastLines, IsSecondLabel, IsUser}
use Rattle.tx_lines.specs.Schedule.{after_line, first_line}
use Rattle.tx_lines.specs.declared.faults.Fault.{Fault}
use Rattle.tx_lines.specs.declared.faults.Fault.TheVariants.{NotALine, NoLabel, TooLong}
use Rattle.tx_lines.specs.declared.instructions.Instruction.{Instruction}
use Rattle.tx_lines.specs.declared.instructions.Line.{Line}
use Rattle.tx_lines.specs.declared.instructions.Line.TheVariants as line
use Rattle.tx_lines.specs.declared.instructions.Name.{Name}
use Rattle.tx_lines.specs.declared.read.header.Version.{Version}

-- the lines are a program's
pub record BeginsLines (version : Version) (lines : List (List ℕ)) : Type 0 where
  pub ones : List Line
  pub same : lines ≡ map line_text ones
  pub are : AreLines version ones

-- and each label that is named is there
pub record IsWholeProgram (version : Version) (lines : List (List ℕ)) : Type 0 where
  pub begins : BeginsLines version lines
  pub made : List Instruction
  pub linked_all : map (linked (labels_of begins.ones)) (instructions_of begins.ones) ≡ map Some made

-- what is at fault after some lines of a program: the next one, or where there is none the first that names a label that is nowhere
abbrev pub FaultsHere : Version → List Line → List ℕ → Fault → Type 0
FaultsHere version ones rest (NoLabel number) = (rest ≡ []) × IsFirstUser (labels_of ones) ones number
FaultsHere version ones rest fault = FaultsAtProgramLine version ones rest fault

pub record FaultsInProgram (version : Version) (lines : List (List ℕ)) (rest : List ℕ) (fault : Fault) : Type 0 where
  pub begins : BeginsLines version lines
  pub fault_after : FaultsHere version begins.ones rest fault

-- a line that goes on is none too many
not_past : (version : Version) (before earlier : List Line) (one : Line) (later : List Line) → AreLines version (earlier ++ one ∷ later) → map line_text before ≡ map line_text earlier → IsPastLines before (line_text one) → ⊥
not_past version before earlier (line.Label name) later are same (inl full) =
    let size = labels_both 0 earlier (line.Label name ∷ later) in
    omega (arith, full.1, size, (same_counts before earlier same).0, are.few_labels)
not_past version before earlier (line.Label name) later are same (inr full) = full.0 (name.bytes.items, refl)
not_past version before earlier (line.Instruction instruction) later are same (inl full) = no_label instruction full.0.0 full.0.1
not_past version before earlier (line.Instruction instruction) later are same (inr full) =
    omega (arith, full.1, instructions_both earlier (line.Instruction instruction ∷ later), (same_counts before earlier same).1, are.few_instructions)

-- nor a second label
not_second : (version : Version) (before earlier : List Line) (one : Line) (later : List Line) → AreLines version (earlier ++ one ∷ later) → map line_text before ≡ map line_text earlier → IsSecondLabel before (line_text one) → ⊥
not_second version before earlier (line.Instruction instruction) later are same second = no_label instruction second.0.bytes.items second.1
not_second version before earlier (line.Label name) later are same second =
    let twin = same_label name second.0 second.1 in
    let found : lookup (same_name name) (labels_of earlier) ≡ Some second.2.0 =
    ap (λ (n : Name). lookup (same_name n) (labels_of earlier)) twin
    ∙ ap (λ (ls : List (Name × ℕ)). lookup (same_name second.0) ls) (sym (same_labels 0 before earlier same))
    ∙ second.2.1 in
    let parts = labels_split 0 earlier name later in
    not_twice (labels_of earlier) name parts.1 parts.0 second.2.0 (subst (λ (ls : List (Name × ℕ)). IsDistinct same_name (keys_of ls)) parts.2 are.distinct) found

line_right : (version : Version) (before : List Line) (rest : List ℕ) (fault : Fault) → IsRight (IsNoLineOf version) rest → rest ≢ [] → (IsPastLines before (first_line rest) → ⊥) → (IsSecondLabel before (first_line rest) → ⊥)
    → FaultsHere version before rest fault → ⊥
line_right version before rest (TooLong number) right some past second is = elim is.2 [ inl long ↦ omega (arith, long, right.short) | inr full ↦ past full ]
line_right version before rest (NotALine number) right some past second is =
    elim is.4 [ inl none ↦ right.ended none | inr other ↦ elim other [ inl none ↦ right.some none | inr twice ↦ second twice ] ]
line_right version before rest (NoLabel number) right some past second is = some is.0
line_right version before rest _ right some past second is = is

some_rest : (rest behind : List ℕ) → after_line rest ≡ Some behind → rest ≢ []
some_rest rest behind after none = let bad : after_line [] ≡ Some behind = subst (λ (r : List ℕ). after_line r ≡ Some behind) none after in absurd (cc)

right_line : (version : Version) (before : List (List ℕ)) (text : List ℕ) (more : List (List ℕ)) (rest behind : List ℕ) (fault : Fault) → BeginsLines version (before ++ text ∷ more)
    → first_line rest ≡ text → after_line rest ≡ Some behind → FaultsInProgram version before rest fault → ⊥
right_line version before text more rest behind fault begun is after faults =
    let found = among line_text begun.ones before text more (sym begun.same) in
    let are = subst (AreLines version) found.parts begun.are in
    let good = all_at (IsLineOf version) found.earlier found.this found.later are.fit in
    let spelled = is ∙ sym found.spelled in
    let same : map line_text faults.begins.ones ≡ map line_text found.earlier = sym faults.begins.same ∙ sym found.before_this in
    line_right version faults.begins.ones rest fault (record {
      short = omega (arith, ap length spelled, (short_line version found.this good).few);
      ended = some_after rest behind after;
      some = λ none. none found.this good spelled;
    }) (some_rest rest behind after)
    (λ past. not_past version faults.begins.ones found.earlier found.this found.later are same (subst (λ (t : List ℕ). IsPastLines faults.begins.ones t) spelled past))
    (λ second. not_second version faults.begins.ones found.earlier found.this found.later are same (subst (λ (t : List ℕ). IsSecondLabel faults.begins.ones t) spelled second))
    faults.fault_after

-- of two first lines whose label is nowhere each is the other
pub record AreUsers (version : Version) (labels : List (Name × ℕ)) (before : List Line) (user : Line) (after : List Line) : Type 0 where
  fit : All (IsLineOf version) (before ++ user ∷ after)
  made : List Instruction
  linked_before : map (linked labels) (instructions_of before) ≡ map Some made
  nowhere : IsUser labels user

all_later : (version : Version) (one : Line) (ones : List Line) → All (IsLineOf version) (one ∷ ones) → All (IsLineOf version) ones
all_later version one ones all = λ k d below. all (suc k) d (omega (arith, below))

users_later : (version : Version) (labels : List (Name × ℕ)) (one : Line) (before : List Line) (user : Line) (after : List Line) → AreUsers version labels (one ∷ before) user after → AreUsers version labels before user after
users_later version labels one before user after are =
    let later = linked_later labels one before are.made are.linked_before in
    record { fit = all_later version one (before ++ user ∷ after) are.fit; made = later.0; linked_before = later.1; nowhere = are.nowhere }

first_users : (version : Version) (labels : List (Name × ℕ)) (before others : List Line) (user twin : Line) (after later : List Line) → AreUsers version labels before user after → AreUsers version labels others twin later
    → map line_text (before ++ user ∷ after) ≡ map line_text (others ++ twin ∷ later) → length before ≡ length others
first_users version labels [] [] user twin after later are twins e = refl
first_users version labels [] (other ∷ others) user twin after later are twins e =
    let same = heads_same (line_text user) (line_text other) (map line_text after) (map line_text (others ++ twin ∷ later)) e in
    absurd (linked_first labels other others twins.made twins.linked_before
    (same_user version labels user other (are.fit 0 user (omega arith)) (twins.fit 0 other (omega arith)) same.0 are.nowhere))
first_users version labels (one ∷ before) [] user twin after later are twins e =
    let same = heads_same (line_text one) (line_text twin) (map line_text (before ++ user ∷ after)) (map line_text later) e in
    absurd (linked_first labels one before are.made are.linked_before
    (same_user version labels twin one (twins.fit 0 twin (omega arith)) (are.fit 0 one (omega arith)) (sym same.0) twins.nowhere))
first_users version labels (one ∷ before) (other ∷ others) user twin after later are twins e =
    let same = heads_same (line_text one) (line_text other) (map line_text (before ++ user ∷ after)) (map line_text (others ++ twin ∷ later)) e in
    ap suc (first_users version labels before others user twin after later (users_later version labels one before user after are) (users_later version labels other others twin later twins) same.1)

user_once : (version : Version) (ones others : List Line) (number twin : ℕ) → AreLines version ones → AreLines version others → map line_text ones ≡ map line_text others
    → IsFirstUser (labels_of ones) ones number → IsFirstUser (labels_of others) others twin → number ≡ twin
user_once version ones others number twin are twins same first second =
    let labels = same_labels 0 ones others same in
    let again : IsFirstUser (labels_of ones) others twin = subst (λ (ls : List (Name × ℕ)). IsFirstUser ls others twin) (sym labels) second in
    let size = first_users version (labels_of ones) first.before again.before first.user again.user first.after again.after (record {
      fit = subst (All (IsLineOf version)) first.parts are.fit;
      made = first.linked_before.0;
      linked_before = first.linked_before.1;
      nowhere = first.nowhere;
    }) (record {
      fit = subst (All (IsLineOf version)) again.parts twins.fit;
      made = again.linked_before.0;
      linked_before = again.linked_before.1;
      nowhere = again.nowhere;
    }) (ap (map line_text) (sym first.parts) ∙ same ∙ ap (map line_text) again.parts) in
    omega (arith, size, first.same, again.same)

-- one fault after the same lines
past_same : (ones others : List Line) (text : List ℕ) → map line_text ones ≡ map line_text others → IsPastLines ones text → IsPastLines others text
past_same ones others text same (inl full) = inl (full.0, sym (same_counts ones others same).0 ∙ full.1)
past_same ones others text same (inr full) = inr (full.0, sym (same_counts ones others same).1 ∙ full.1)

here_once : (version : Version) (ones others : List Line) (rest : List ℕ) (a b : Fault) → AreLines version ones → AreLines version others → map line_text ones ≡ map line_text others
    → FaultsHere version ones rest a → FaultsHere version others rest b → a ≡ b
here_once version ones others rest (TooLong number) (TooLong twin) are twins same first second =
    let size : length ones ≡ length others = omega (arith, ap length same, length-map ones line_text, length-map others line_text) in
    ap TooLong (omega (arith, first.1, second.1, size))
here_once version ones others rest (TooLong number) (NotALine twin) are twins same first second =
    elim first.2 [ inl long ↦ absurd (omega (arith, long, second.2)) | inr full ↦ absurd (second.3 (past_same ones others (first_line rest) same full)) ]
here_once version ones others rest (NotALine number) (TooLong twin) are twins same first second =
    elim second.2 [ inl long ↦ absurd (omega (arith, long, first.2)) | inr full ↦ absurd (first.3 (past_same others ones (first_line rest) (sym same) full)) ]
here_once version ones others rest (NotALine number) (NotALine twin) are twins same first second =
    let size : length ones ≡ length others = omega (arith, ap length same, length-map ones line_text, length-map others line_text) in
    ap NotALine (omega (arith, first.1, second.1, size))
here_once version ones others rest (NoLabel number) (NoLabel twin) are twins same first second = ap NoLabel (user_once version ones others number twin are twins same first.1 second.1)
here_once version ones others rest (NoLabel number) (TooLong twin) are twins same first second = absurd (second.0 first.0)
here_once version ones others rest (NoLabel number) (NotALine twin) are twins same first second = absurd (second.0 first.0)
here_once version ones others rest (TooLong number) (NoLabel twin) are twins same first second = absurd (first.0 second.0)
here_once version ones others rest (NotALine number) (NoLabel twin) are twins same first second = absurd (first.0 second.0)
here_once version ones others rest (TooLong number) b are twins same first second = absurd second
here_once version ones others rest (NotALine number) b are twins same first second = absurd second
here_once version ones others rest (NoLabel number) b are twins same first second = absurd second
here_once version ones others rest _ b are twins same first second = absurd first

program_once : (version : Version) (lines : List (List ℕ)) (rest : List ℕ) (a b : Fault) → FaultsInProgram version lines rest a → FaultsInProgram version lines rest b → a ≡ b
program_once version lines rest a b first second =
    here_once version first.begins.ones second.begins.ones rest a b first.begins.are second.begins.are (sym first.begins.same ∙ second.begins.same) first.fault_after second.fault_after

-- a whole program has no fault
ends_by : (version : Version) (ones others : List Line) (made : List Instruction) (fault : Fault) → AreLines version ones → AreLines version others → map line_text others ≡ map line_text ones
    → map (linked (labels_of ones)) (instructions_of ones) ≡ map Some made → FaultsHere version others [] fault → ⊥
ends_by version ones others made (NoLabel number) are twins same all is =
    let first = is.1 in
    let found = among line_text ones (map line_text first.before) (line_text first.user) (map line_text first.after) (sym same ∙ ap (map line_text) first.parts ∙ mapped first.before (first.user ∷ first.after)) in
    let parts = subst (AreLines version) found.parts are in
    let nowhere = subst (λ (ls : List (Name × ℕ)). IsUser ls first.user) (same_labels 0 others ones same) first.nowhere in
    let user = same_user version (labels_of ones) first.user found.this (all_at (IsLineOf version) first.before first.user first.after (subst (All (IsLineOf version)) first.parts twins.fit))
    (all_at (IsLineOf version) found.earlier found.this found.later parts.fit) (sym found.spelled) nowhere in
    linked_none (labels_of ones) found.earlier found.this found.later made (subst (λ (ls : List Line). map (linked (labels_of ones)) (instructions_of ls) ≡ map Some made) found.parts all) user
  where
    mapped : (xs ys : List Line) → map line_text (xs ++ ys) ≡ map line_text xs ++ map line_text ys
    mapped [] ys = refl
    mapped (x ∷ xs) ys = ap (λ (ls : List (List ℕ)). line_text x ∷ ls) (mapped xs ys)
ends_by version ones others made (TooLong number) are twins same all is = is.0 refl
ends_by version ones others made (NotALine number) are twins same all is = is.0 refl
ends_by version ones others made _ are twins same all is = is

program_ends : (version : Version) (lines : List (List ℕ)) (fault : Fault) → IsWholeProgram version lines → FaultsInProgram version lines [] fault → ⊥
program_ends version lines fault whole faults =
    ends_by version whole.begins.ones faults.begins.ones whole.made fault whole.begins.are faults.begins.are (sym faults.begins.same ∙ whole.begins.same) whole.linked_all faults.fault_after

program_each : (version : Version) (lines : List (List ℕ)) → BeginsLines version lines → AreLinesEach lines
program_each version lines begun =
    subst AreLinesEach (sym begun.same) (all_each (IsLineOf version) line_text begun.ones (λ one good. (short_line version one good).in_line) begun.are.fit)

pub program_grammar : (version : Version) → IsGrammar (BeginsLines version) (IsWholeProgram version) (FaultsInProgram version)
program_grammar version = record {
  whole_begun = λ lines whole. whole.begins;
  fault_begun = λ lines rest fault faults. faults.begins;
  each = program_each version;
  right = right_line version;
  ends = program_ends version;
  one = program_once version;
}

-- what the definition of a program says is at fault
after_lines : (version : Version) (text : List ℕ) (fault : Fault) (found : FaultsAfterLines version text fault) → FaultsHere version found.before found.rest fault → IsFaulty (FaultsInProgram version) text fault
after_lines version text fault found here = record {
  lines = map line_text found.before;
  rest = found.rest;
  parts = found.parts ∙ ap (λ (t : List ℕ). t ++ found.rest) (spelled_lines line_text found.before);
  next = record { begins = record { ones = found.before; same = refl; are = found.good }; fault_after = here };
}

pub program_faulty : (version : Version) (text : List ℕ) (fault : Fault) → FaultsAmongLines version text fault → IsFaulty (FaultsInProgram version) text fault
program_faulty version text (TooLong number) found = after_lines version text (TooLong number) found found.fault_after
program_faulty version text (NotALine number) found = after_lines version text (NotALine number) found found.fault_after
program_faulty version text (NoLabel number) found = record {
  lines = map line_text found.lines;
  rest = [];
  parts = found.spelled ∙ spelled_lines line_text found.lines ∙ sym (append-nil (with_ends (map line_text found.lines)));
  next = record { begins = record { ones = found.lines; same = refl; are = found.good }; fault_after = (refl, found.first) };
}
program_faulty version text _ found = absurd found.fault_after
