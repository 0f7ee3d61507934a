-- The lines of a program, read one after another.
use Rattle.std.proofs.Common.{◌≡◌, ◌≢◌, ◌⊎◌, ℕ, ◌+◌, ◌-◌, ◌≤◌, ◌==◌, true, false, List, [], ◌∷◌, ◌++◌, length, refl, ap, sym, subst, ◌∙◌, inl, inr, arith, length-append}
use Rattle.std.proofs.lemmas.Bool.{both_ways}
use Rattle.std.specs.Prelude.{is_err, is_some, map, IfErr, IsErrAnd, MatchResult, Option, Some, None, OnOk, Result, Ok, Err}
use Rattle.std.specs.List.{IsDistinct}
use Rattle.std.specs.Map.{keys_of}
use Rattle.tx_lines.specs.Programs.{instructions_of, labels_from, labels_of, line_text, linked, linked_line, same_name, AreLines, FaultsAfterLines, FaultsAtProgramLine, FaultsUnreadLine, IsLineOf, IsNoLineOf, IsPastCounts, IsPastLines, IsSecondLabel}
use Rattle.tx_lines.specs.Schedule.{first_line, lines_of, Adds, FaultsBy, IsLine}
use Rattle.tx_lines.specs.declared.faults.Fault.{Fault}
use Rattle.tx_lines.specs.declared.faults.Fault.TheVariants.{NotALine, NoLabel, TooLong, Reader, Writer, NoMemory}
use Rattle.tx_lines.specs.declared.instructions.Instruction.{Instruction}
use Rattle.tx_lines.specs.declared.instructions.Line.{Line}
use Rattle.tx_lines.specs.declared.instructions.Line.TheVariants as line
use Rattle.tx_lines.specs.declared.instructions.Name.{Name}
use Rattle.tx_lines.specs.declared.read.header.Version.{Version}
use Rattle.tx_lines.proofs.Growing.{all_more, faults_by}
use Rattle.tx_lines.proofs.ProgramLines.{no_label}

-- each line is an instruction or a label
counts_from : (number : ℕ) (lines : List Line) → length lines ≡ length (instructions_of lines) + length (labels_from number lines)
counts_from number [] = refl
counts_from number (line.Label name ∷ lines) = omega (arith, counts_from number lines)
counts_from number (line.Instruction instruction ∷ lines) = omega (arith, counts_from (number + 1) lines)

pub counts : (lines : List Line) → length lines ≡ length (instructions_of lines) + length (labels_of lines)
counts lines = counts_from 0 lines

label_from : (number : ℕ) (lines : List Line) (name : Name) → labels_from number (lines ++ line.Label name ∷ []) ≡ labels_from number lines ++ (name, number + length (instructions_of lines)) ∷ []
label_from number [] name = ap (λ (n : ℕ). (name, n) ∷ []) (omega arith)
label_from number (line.Label other ∷ lines) name = ap (λ (labels : List (Name × ℕ)). (other, number) ∷ labels) (label_from number lines name)
label_from number (line.Instruction instruction ∷ lines) name =
    label_from (number + 1) lines name
    ∙ ap (λ (n : ℕ). labels_from (number + 1) lines ++ (name, n) ∷ []) (omega arith)

-- one label more
pub label_more : (lines : List Line) (name : Name) → labels_of (lines ++ line.Label name ∷ []) ≡ labels_of lines ++ (name, length lines - length (labels_of lines)) ∷ []
label_more lines name = label_from 0 lines name ∙ ap (λ (n : ℕ). labels_of lines ++ (name, n) ∷ []) (omega (arith, counts lines))

instruction_from : (number : ℕ) (lines : List Line) (instruction : Instruction) → labels_from number (lines ++ line.Instruction instruction ∷ []) ≡ labels_from number lines
instruction_from number [] instruction = refl
instruction_from number (line.Label other ∷ lines) instruction = ap (λ (labels : List (Name × ℕ)). (other, number) ∷ labels) (instruction_from number lines instruction)
instruction_from number (line.Instruction other ∷ lines) instruction = instruction_from (number + 1) lines instruction

-- one instruction more
pub instruction_more : (lines : List Line) (instruction : Instruction) → labels_of (lines ++ line.Instruction instruction ∷ []) ≡ labels_of lines
instruction_more lines instruction = instruction_from 0 lines instruction

pub ok_holds : {T E P : Type 0} (r : Result T E) → false ≡ is_err r → OnOk r P → P
ok_holds (Ok x) fine holds = holds
ok_holds (Err e) fine holds = absurd (both_ways true (sym fine) refl)

pub some_there : (found : Option ℕ) → true ≡ is_some found → (n : ℕ) × (found ≡ Some n)
some_there (Some n) there = (n, refl)
some_there None there = absurd (both_ways true (there) refl)

pub none_there : (found : Option ℕ) → false ≡ is_some found → found ≡ None
none_there (Some n) there = absurd (both_ways true (sym there) refl)
none_there None there = refl

pub on_ok_then : {T E P Q : Type 0} (r : Result T E) → (P → Q) → OnOk r P → OnOk r Q
on_ok_then (Ok x) so holds = so holds
on_ok_then (Err e) so holds = holds

instructions_append : (lines : List Line) (instruction : Instruction) → length (instructions_of (lines ++ line.Instruction instruction ∷ [])) ≡ length (instructions_of lines) + 1
instructions_append [] instruction = refl
instructions_append (line.Label name ∷ lines) instruction = instructions_append lines instruction
instructions_append (line.Instruction other ∷ lines) instruction = omega (arith, instructions_append lines instruction)

labels_append : (lines : List Line) (name : Name) → length (instructions_of (lines ++ line.Label name ∷ [])) ≡ length (instructions_of lines)
labels_append [] name = refl
labels_append (line.Label other ∷ lines) name = labels_append lines name
labels_append (line.Instruction other ∷ lines) name = omega (arith, labels_append lines name)

-- one line more that is not one too many of its kind
lines_more : (version : Version) (lines : List Line) (added : Line) → IsLineOf version added → AreLines version lines → (IsPastLines lines (line_text added) → ⊥)
    → (length (instructions_of (lines ++ added ∷ [])) ≤ 1024) × (length (labels_of (lines ++ added ∷ [])) ≤ 256)
lines_more version lines (line.Label name) good are past =
    let other : length (labels_of lines) ≢ 256 = λ full. past (inl ((name.bytes.items, refl), full)) in
    let size = ap length (label_more lines name) ∙ length-append (labels_of lines) ((name, length lines - length (labels_of lines)) ∷ []) in
    (omega (arith, labels_append lines name, are.few_instructions), omega (arith, size, other, are.few_labels))
lines_more version lines (line.Instruction instruction) good are past =
    let other : length (instructions_of lines) ≢ 1024 = λ full. past (inr ((λ begins. no_label version instruction begins.0 good begins.1), full)) in
    (omega (arith, instructions_append lines instruction, other, are.few_instructions), omega (arith, ap length (instruction_more lines instruction), are.few_labels))

-- the lines with one more
pub lines_grow : (version : Version) (text : List ℕ) (lines more : List Line) → AreLines version lines → (adds : Adds line_text (IsLineOf version) text lines more) → (IsPastLines lines text → ⊥)
    → IsDistinct same_name (keys_of (labels_of more)) → AreLines version more
lines_grow version text lines more are adds past distinct =
    let past' : IsPastLines lines (line_text adds.added) → ⊥ = λ full. past (subst (λ (t : List ℕ). IsPastLines lines t) (sym adds.spelled) full) in
    let few = lines_more version lines adds.added adds.good are past' in
    record {
      fit = all_more (IsLineOf version) lines adds.added more are.fit adds.good adds.more;
      few_instructions = rw adds.more few.0;
      few_labels = rw adds.more few.1;
      distinct = distinct;
    }

-- how many lines, and how many of them are labels
pub few_lines : (version : Version) (lines : List Line) → AreLines version lines → length lines ≤ 1280
few_lines version lines are = omega (arith, counts lines, are.few_instructions, are.few_labels)

-- a line that is at fault whatever it says
pub unread_line : (version : Version) (lines : List Line) (left : List ℕ) (instructions labels : ℕ) (fault : Fault) → left ≢ [] → instructions ≡ length (instructions_of lines) → labels ≡ length (labels_of lines)
    → FaultsUnreadLine (length lines) instructions labels left fault → FaultsBy (FaultsAtProgramLine version lines left) fault
unread_line version lines left instructions labels fault more i l is = by fault (subst (λ (n : ℕ). FaultsUnreadLine (length lines) n (length (labels_of lines)) left fault) i (subst (λ (n : ℕ). FaultsUnreadLine (length lines) instructions n left fault) l is))
  where
    by : (f : Fault) → FaultsUnreadLine (length lines) (length (instructions_of lines)) (length (labels_of lines)) left f → FaultsBy (FaultsAtProgramLine version lines left) f
    by (NotALine number) is = (more, is.0, is.1, is.2, inl is.3)
    by (NoLabel number) is = is
    by (TooLong number) is = (more, is.0, is.1)
    by Reader is = is
    by Writer is = is
    by NoMemory is = tt

-- a line that is none of a program's
pub bad_line : (version : Version) (lines : List Line) (left text rest : List ℕ) (fault : Fault) → left ≢ [] → IsLine left text rest → (IsPastLines lines (first_line left) → ⊥)
    → (fault ≡ NoMemory) ⊎ ((fault ≡ NotALine (length lines + 2)) × (IsNoLineOf version text ⊎ IsSecondLabel lines text)) → FaultsBy (FaultsAtProgramLine version lines left) fault
bad_line version lines left text rest fault more is past (inl none) = subst (FaultsBy (FaultsAtProgramLine version lines left)) (sym none) tt
bad_line version lines left text rest fault more is past (inr bad) =
    let short : length (first_line left) ≤ 512 = subst (λ (t : List ℕ). length t ≤ 512) is.first is.short in
    let why : IsNoLineOf version (first_line left) ⊎ IsSecondLabel lines (first_line left) = subst (λ (t : List ℕ). IsNoLineOf version t ⊎ IsSecondLabel lines t) is.first bad.1 in
    subst (FaultsBy (FaultsAtProgramLine version lines left)) (sym bad.0) (more, refl, short, past, inr why)

-- the fault after some lines is one of the text
pub faults_after : (version : Version) (lines : List Line) (text left : List ℕ) (fault : Fault) → AreLines version lines → text ≡ lines_of line_text lines ++ left
    → FaultsBy (FaultsAtProgramLine version lines left) fault → FaultsBy (FaultsAfterLines version text) fault
faults_after version lines text left fault good parts is =
    faults_by (FaultsAtProgramLine version lines left) (FaultsAfterLines version text) (λ f at. record { before = lines; rest = left; good = good; parts = parts; fault_after = at }) fault is

-- an error is handed up
pub handed_up : {T E : Type 0} (P : T → Type 0) (Q : E → Type 0) (r : Result T E) (e : E) → IsErrAnd r (λ f. f ≡ e) → Q e → MatchResult r P Q
handed_up P Q (Ok x) e none holds = absurd none
handed_up P Q (Err f) e same holds = subst Q (sym same) holds

pub some_left : (xs : List ℕ) → false ≡ (length xs == 0) → xs ≢ []
some_left [] more = absurd (both_ways true (sym more) refl)
some_left (x ∷ xs) more = λ e. absurd (cc)

pub not_past : (lines : List Line) (text : List ℕ) (instructions labels : ℕ) → instructions ≡ length (instructions_of lines) → labels ≡ length (labels_of lines)
    → (IsPastCounts instructions labels text → ⊥) → IsPastLines lines text → ⊥
not_past lines text instructions labels i l few past =
    few (subst (λ (n : ℕ). IsPastCounts n labels text) (sym i) (subst (λ (n : ℕ). IsPastCounts (length (instructions_of lines)) n text) (sym l) past))

pub handed_err : {T E : Type 0} (Q : E → Type 0) (r : Result T E) (e : E) → IsErrAnd r (λ f. f ≡ e) → Q e → IfErr r Q
handed_err Q (Ok x) e none holds = absurd none
handed_err Q (Err f) e same holds = subst Q (sym same) holds

-- the instruction of one line more
pub linked_more : (labels : List (Name × ℕ)) (lines : List Line) (x : Line) → map (linked labels) (instructions_of (lines ++ x ∷ [])) ≡ map (linked labels) (instructions_of lines) ++ linked_line labels x
linked_more labels [] (line.Label name) = refl
linked_more labels [] (line.Instruction instruction) = refl
linked_more labels (line.Label other ∷ lines) x = linked_more labels lines x
linked_more labels (line.Instruction other ∷ lines) x = ap (λ (made : List (Option Instruction)). linked labels other ∷ made) (linked_more labels lines x)
