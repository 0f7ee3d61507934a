-- How far the lines after a header are read: what they spell so far, one more line, and the fault of the next.
use Rattle.std.proofs.Common.{◌≡◌, ◌≢◌, ◌∙◌, ◌⊎◌, ℕ, ◌+◌, ◌<◌, ◌≤◌, Bool, true, false, ◌||◌, List, [], ◌∷◌, ◌++◌, Some, None, is_some, length, refl, ap, sym, subst, inl, inr, arith}
use Rattle.std.proofs.lemmas.Bool.{both_ways, cases_lt}
use Rattle.std.proofs.lemmas.Bool.Decides.{eqb_tells}
use Rattle.std.proofs.lemmas.Slice.Eq.{bytes_eq-Decides}
use Rattle.std.specs.Map.{lookup}
use Rattle.std.specs.Str.{bytes_eq}
use Rattle.tx_base.specs.declared.steps.Step.{Step}
use Rattle.tx_check.proofs.Growing.{none_by, some_by}
use Rattle.tx_check.proofs.LabelsFound.{found_label, labelled, HasLines, IsLabelled}
use Rattle.tx_check.proofs.ReadTexts.{FaultsAfter}
use Rattle.tx_check.specs.AfterHeader.{IsFaultAt, IsNoLineAt}
use Rattle.tx_check.specs.Kinds.{begins_with_debug, debug_ahead, has_debug}
use Rattle.tx_check.specs.Numbered.{behind}
use Rattle.tx_check.specs.Right.{IsNoneThere, IsRight, IsTooMany}
use Rattle.tx_check.specs.Contexts.{counted, AmongCommands, AmongLines, AmongSteps, IsPlaceOf}
use Rattle.tx_check.specs.Wrong.{IsTwice}
use Rattle.tx_check.specs.declared.kinds.Kind.{Kind}
use Rattle.tx_check.specs.declared.kinds.Kind.TheVariants as kinds
use Rattle.tx_check.specs.declared.places.Part.{Part}
use Rattle.tx_check.specs.declared.places.Part.TheVariants as parts
use Rattle.tx_check.specs.declared.places.Place.{Place}
use Rattle.tx_check.specs.declared.places.TextLine.{TextLine}
use Rattle.tx_lines.specs.Programs.{instructions_of, label_front, labels_of, line_text, same_name, AreLines, BeginsLabel, IsNoLineOf, IsPastLines, IsSecondLabel}
use Rattle.tx_lines.specs.Schedule.{after_line, first_line, lines_of, steps_text, AreSteps, FaultsAtNext, IsNoStep, SpellsHeader}
use Rattle.tx_lines.specs.Walks.{before_commands, command_text, debug_line, AreCommands, FaultsBeforeCommands, IsNoCommand}
use Rattle.tx_lines.specs.declared.faults.Fault.{Fault}
use Rattle.tx_lines.specs.declared.faults.Fault.TheVariants.{NotALine, TooLong}
use Rattle.tx_lines.specs.declared.instructions.Line.{Line}
use Rattle.tx_lines.specs.declared.read.command.Command.{Command}
use Rattle.tx_lines.specs.declared.read.header.Header.{Header}
use Rattle.tx_lines.specs.declared.read.header.TextKind.TheVariants as texts
use Rattle.tx_lines.specs.declared.read.header.Version.{Version}

-- steps
pub record StepsSoFar (version : Version) (rest : List ℕ) (number : ℕ) (place : Place) (left : List ℕ) : Type 0 where
  pub steps : List Step
  pub are : AreSteps version steps
  pub spelled : rest ≡ steps_text steps ++ left
  pub at : number ≡ length steps + 2
  pub in_context : IsPlaceOf (AmongSteps (length steps)) place

-- steps, the line between, and commands
pub record CommandsSoFar (version : Version) (rest : List ℕ) (number : ℕ) (place : Place) (left : List ℕ) : Type 0 where
  pub steps : List Step
  pub commands : List Command
  pub are_steps : AreSteps version steps
  pub are_commands : AreCommands version commands
  pub spelled : rest ≡ before_commands steps (lines_of command_text commands ++ left)
  pub at : number ≡ length commands + (length steps + 3)
  pub in_context : IsPlaceOf (AmongCommands (length commands)) place

-- instructions and labels
pub record LinesSoFar (version : Version) (rest : List ℕ) (number : ℕ) (place : Place) (left : List ℕ) : Type 0 where
  pub lines : List Line
  pub are : AreLines version lines
  pub spelled : rest ≡ lines_of line_text lines ++ left
  pub at : number ≡ length lines + 2
  pub part : place.part ≡ parts.ProgramLine
  pub in_context : IsPlaceOf (AmongLines (length (instructions_of lines)) (length (labels_of lines))) place

abbrev pub SoFar : Kind → Version → List ℕ → ℕ → Place → List ℕ → Type 0
SoFar kinds.Schedule version rest number place left = StepsSoFar version rest number place left × (debug_ahead left ≡ false)
SoFar kinds.Walk version rest number place left = (StepsSoFar version rest number place left × (debug_ahead left ≡ true)) ⊎ CommandsSoFar version rest number place left
SoFar kinds.Program version rest number place left = LinesSoFar version rest number place left

-- the next line, and what is left with it
pub record IsNext (version : Version) (number : ℕ) (place : Place) (left : List ℕ) (next : TextLine) : Type 0 where
  pub of : place.version ≡ version
  pub at : next.number ≡ number
  pub bytes : next.bytes.now ≡ first_line left
  pub ended : next.is_ended ≡ is_some (after_line left)
  pub some : left ≢ []

-- a line before commands that is to come
pub none_or : (a b : Bool) → (a || b) ≡ false → (a ≡ false) × (b ≡ false)
none_or true b e = absurd (cc)
none_or false b e = (refl, e)

pub later_or : (a b : Bool) → (a || b) ≡ true → a ≡ false → b ≡ true
later_or true b e none = absurd (cc)
later_or false b e none = e

pub no_debug_line : (line : List ℕ) → bytes_eq line debug_line ≡ false → line ≢ debug_line
no_debug_line line none same = both_ways (bytes_eq line debug_line) none ((bytes_eq-Decides line debug_line).1 same)

pub not_debug : (line : List ℕ) → line ≢ debug_line → bytes_eq line debug_line ≡ false
not_debug line other = by (bytes_eq line debug_line) refl
  where
    by : (test : Bool) → bytes_eq line debug_line ≡ test → test ≡ false
    by true is = absurd (other ((bytes_eq-Decides line debug_line).0 is))
    by false is = refl

pub debug_later : (text rest : List ℕ) → after_line text ≡ Some rest → has_debug text ≡ debug_ahead rest
debug_later [] rest e = absurd (cc)
debug_later (byte ∷ bytes) rest e =
    elim (eqb_tells byte 10) [
      | inl h ↦ let here : Some bytes ≡ Some rest = rw h.0 at e in
          let same : bytes ≡ rest = cc in
          rw (h.0, same) refl
      | inr h ↦ let on : after_line bytes ≡ Some rest = rw h.0 at e in rw h.0 (debug_later bytes rest on)
    ]

-- the line before commands is after the first one
pub debug_after : (text : List ℕ) → has_debug text ≡ debug_ahead (behind text)
debug_after [] = refl
debug_after (byte ∷ bytes) =
    elim (eqb_tells byte 10) [ inl h ↦ rw h.0 refl | inr h ↦ rw h.0 (debug_after bytes) ]

pub later_debug : (left : List ℕ) → is_some (after_line left) ≡ true → has_debug left ≡ debug_ahead (behind left)
later_debug left ended = debug_later left (behind left) (some_by (after_line left) ended)

-- as many as there may be, or fewer
pub full : (most count number : ℕ) → most ≤ 4096 → number ≤ most → count ≡ counted number → most ≤ count → number ≡ most
full most count number small few is enough = omega (arith, small, few, is, enough)

pub room : (most count number : ℕ) → most ≤ 4096 → number ≤ most → count ≡ counted number → (most ≤ count → ⊥) → number < most
room most count number small few is none =
    elim (cases_lt number most) [ inl below ↦ below | inr over ↦ absurd (none (omega (arith, small, few, is, over))) ]

-- what the part of a place says of it
part_many : (place : Place) (part : Part) (line : List ℕ) → place.part ≡ part → IsTooMany place.part place.count place.labels line → IsTooMany part place.count place.labels line
part_many place part line same many = subst (λ (p : Part). IsTooMany p place.count place.labels line) same many

pub part_few : (place : Place) (part : Part) (line : List ℕ) → place.part ≡ part → (IsTooMany place.part place.count place.labels line → ⊥) → IsTooMany part place.count place.labels line → ⊥
part_few place part line same few many = few (subst (λ (p : Part). IsTooMany p place.count place.labels line) (sym same) many)

pub part_right : (version : Version) (place : Place) (part : Part) (line : List ℕ) → place.version ≡ version → place.part ≡ part → IsRight place.part place.version line → IsRight part version line
part_right version place part line of same right = subst (λ (v : Version). IsRight part v line) of (subst (λ (p : Part). IsRight p place.version line) same right)

part_none : (version : Version) (place : Place) (part : Part) (line : List ℕ) → place.version ≡ version → place.part ≡ part → IsNoneThere place.part place.version line → IsNoneThere part version line
part_none version place part line of same none = subst (λ (v : Version). IsNoneThere part v line) of (subst (λ (p : Part). IsNoneThere p place.version line) same none)

-- the reasons but a second label, where the place is none of a program's
line_none : (version : Version) (number : ℕ) (text left : List ℕ) (place : Place) (next : TextLine) (part : Part) → IsNext version number place left next → place.part ≡ part → (part ≡ parts.ProgramLine → ⊥) → IsNoLineAt text place next
    → (after_line left ≡ None) ⊎ IsNoneThere part version (first_line left)
line_none version number text left place next part is same other (inl ended) = inl (none_by (after_line left) (sym is.ended ∙ ended))
line_none version number text left place next part is same other (inr (inl none)) =
    inr (subst (λ (t : List ℕ). IsNoneThere part version t) is.bytes (part_none version place part next.bytes.now is.of same none))
line_none version number text left place next part is same other (inr (inr twice)) = absurd (other (sym same ∙ twice.0))

-- the fault after some steps of a schedule
pub schedule_fault : (version : Version) (text rest : List ℕ) (number : ℕ) (place : Place) (left : List ℕ) (next : TextLine) (fault : Fault) → SoFar kinds.Schedule version rest number place left → IsNext version number place left next
    → IsFaultAt text place next fault → FaultsAfter kinds.Schedule version rest fault
schedule_fault version text rest number place left next fault so is at = record {
  before = so.0.steps;
  rest = left;
  good = so.0.are;
  parts = so.0.spelled;
  fault_after = (is.some, by fault at);
}
  where
    other : next.bytes.now ≢ debug_line
    other = λ same. no_debug_line (first_line left) (none_or (begins_with_debug left) (has_debug left) so.1).0 (sym is.bytes ∙ same)

    by : (f : Fault) → IsFaultAt text place next f → FaultsAtNext 2 (IsNoStep version) (length so.0.steps) left f
    by (TooLong line) at = (
      omega (arith, at.0, is.at, so.0.at),
      elim at.1 [
        | inl long ↦ inl (omega (arith, long, ap length is.bytes))
        | inr many ↦ inr (full 4096 place.count (length so.0.steps) (omega arith) so.0.are.few so.0.in_context.1 (part_many place parts.Step next.bytes.now so.0.in_context.0 many).0)
      ],
    )
    by (NotALine line) at = (
      omega (arith, at.0, is.at, so.0.at),
      omega (arith, at.1, ap length is.bytes),
      room 4096 place.count (length so.0.steps) (omega arith) so.0.are.few so.0.in_context.1 (λ enough. part_few place parts.Step next.bytes.now so.0.in_context.0 at.2 (enough, other)),
      elim (line_none version number text left place next parts.Step is so.0.in_context.0 (λ same. absurd (cc)) at.3) [ inl none ↦ inl none | inr none ↦ inr none.0 ],
    )
    by _ at = at

-- after some steps before commands
before_fault : (version : Version) (text rest : List ℕ) (number : ℕ) (place : Place) (left : List ℕ) (next : TextLine) (fault : Fault) → StepsSoFar version rest number place left → IsNext version number place left next
    → IsFaultAt text place next fault → FaultsAfter kinds.Walk version rest fault
before_fault version text rest number place left next fault so is at = inl (record {
  before = so.steps;
  rest = left;
  good = so.are;
  parts = so.spelled;
  fault_after = by fault at;
})
  where
    by : (f : Fault) → IsFaultAt text place next f → FaultsBeforeCommands version (length so.steps) left f
    by (TooLong line) at = (
      omega (arith, at.0, is.at, so.at),
      elim at.1 [
        | inl long ↦ inl (omega (arith, long, ap length is.bytes))
        | inr many ↦
            let over = part_many place parts.Step next.bytes.now so.in_context.0 many in
            inr (record {
              most = full 4096 place.count (length so.steps) (omega arith) so.are.few so.in_context.1 over.0;
              more = is.some;
              other = λ same. over.1 (is.bytes ∙ same);
            })
      ],
    )
    by (NotALine line) at = (
      omega (arith, at.0, is.at, so.at),
      omega (arith, at.1, ap length is.bytes),
      (λ past. part_few place parts.Step next.bytes.now so.in_context.0 at.2 (omega (arith, past.most, so.in_context.1), λ same. past.other (sym is.bytes ∙ same))),
      line_none version number text left place next parts.Step is so.in_context.0 (λ same. absurd (cc)) at.3,
    )
    by _ at = at

-- after some commands
command_fault : (version : Version) (text rest : List ℕ) (number : ℕ) (place : Place) (left : List ℕ) (next : TextLine) (fault : Fault) → CommandsSoFar version rest number place left → IsNext version number place left next
    → IsFaultAt text place next fault → FaultsAfter kinds.Walk version rest fault
command_fault version text rest number place left next fault so is at = inr (
  so.steps,
  lines_of command_text so.commands ++ left,
  so.are_steps,
  so.spelled,
  record { before = so.commands; rest = left; good = so.are_commands; parts = refl; fault_after = (is.some, by fault at) },
)
  where
    by : (f : Fault) → IsFaultAt text place next f → FaultsAtNext (length so.steps + 3) (IsNoCommand version) (length so.commands) left f
    by (TooLong line) at = (
      omega (arith, at.0, is.at, so.at),
      elim at.1 [
        | inl long ↦ inl (omega (arith, long, ap length is.bytes))
        | inr many ↦ inr (full 4096 place.count (length so.commands) (omega arith) so.are_commands.few so.in_context.1 (part_many place parts.Command next.bytes.now so.in_context.0 many))
      ],
    )
    by (NotALine line) at = (
      omega (arith, at.0, is.at, so.at),
      omega (arith, at.1, ap length is.bytes),
      room 4096 place.count (length so.commands) (omega arith) so.are_commands.few so.in_context.1 (part_few place parts.Command next.bytes.now so.in_context.0 at.2),
      line_none version number text left place next parts.Command is so.in_context.0 (λ same. absurd (cc)) at.3,
    )
    by _ at = at

pub walk_fault : (version : Version) (text rest : List ℕ) (number : ℕ) (place : Place) (left : List ℕ) (next : TextLine) (fault : Fault) → SoFar kinds.Walk version rest number place left → IsNext version number place left next
    → IsFaultAt text place next fault → FaultsAfter kinds.Walk version rest fault
walk_fault version text rest number place left next fault (inl so) is at = before_fault version text rest number place left next fault so.0 is at
walk_fault version text rest number place left next fault (inr so) is at = command_fault version text rest number place left next fault so is at

-- the counts of a program's place
pub record IsCounted (lines : List Line) (place : Place) : Type 0 where
  pub count : place.count ≡ counted (length (instructions_of lines))
  pub labels : place.labels ≡ counted (length (labels_of lines))

pub counts_by : (version : Version) (rest : List ℕ) (number : ℕ) (place : Place) (left : List ℕ) (so : LinesSoFar version rest number place left) → IsCounted so.lines place
counts_by version rest number place left so = elim so.in_context [
  | inl is ↦ record { count = is.1; labels = is.2 }
  | inr link ↦ let bad : parts.ProgramLine ≡ parts.Link = sym so.part ∙ link in absurd (cc)
]

-- the lines so far after the header of the text
pub has_lines : (version : Version) (text rest : List ℕ) (header : Header) (number : ℕ) (place : Place) (left : List ℕ) → SpellsHeader texts.Program text header rest → (so : LinesSoFar version rest number place left) → HasLines version text so.lines left
has_lines version text rest header number place left spells so = record {
  header = header;
  spells = subst (λ (r : List ℕ). SpellsHeader texts.Program text header r) so.spelled spells;
  fit = so.are.fit;
}

-- a second label
second_is : (line : List ℕ) (lines : List Line) → IsLabelled lines line → IsSecondLabel lines (label_front ++ line)
second_is line lines is =
    let found = found_label is.twin 0 is.before is.twin is.after refl in (
      is.twin,
      ap (λ (t : List ℕ). label_front ++ t) (sym is.same),
      (found.0, subst (λ (ls : List Line). lookup (same_name is.twin) (labels_of ls) ≡ Some found.0) (sym is.parts) found.1),
    )

-- after some lines of a program
pub program_fault : (version : Version) (text rest : List ℕ) (header : Header) (number : ℕ) (place : Place) (left : List ℕ) (next : TextLine) (fault : Fault) → SpellsHeader texts.Program text header rest → LinesSoFar version rest number place left
    → IsNext version number place left next → IsFaultAt text place next fault → FaultsAfter kinds.Program version rest fault
program_fault version text rest header number place left next fault spells so is at = by fault at
  where
    counts : IsCounted so.lines place
    counts = counts_by version rest number place left so

    twice : IsTwice text next.number next.bytes.now → IsSecondLabel so.lines (first_line left)
    twice second =
        let name = second.label.0 in
        let has = has_lines version text rest header number place left spells so in
        let within : second.earlier < length so.lines + 2 = omega (arith, second.before, is.at, so.at) in
        let labels = labelled version text so.lines left name second.earlier has (second.same ∙ second.label.1) (inl within) in
        subst (λ (t : List ℕ). IsSecondLabel so.lines t) (sym second.label.1 ∙ is.bytes) (second_is name so.lines labels)

    past : IsTooMany parts.ProgramLine place.count place.labels next.bytes.now → IsPastLines so.lines (first_line left)
    past (inl over) = inl (subst BeginsLabel is.bytes over.1, full 256 place.labels (length (labels_of so.lines)) (omega arith) so.are.few_labels counts.labels over.0)
    past (inr over) = inr (
      (λ begins. over.1 (subst BeginsLabel (sym is.bytes) begins)),
      full 1024 place.count (length (instructions_of so.lines)) (omega arith) so.are.few_instructions counts.count over.0,
    )

    many : IsPastLines so.lines (first_line left) → IsTooMany parts.ProgramLine place.count place.labels next.bytes.now
    many (inl over) = inl (omega (arith, over.1, counts.labels), subst BeginsLabel (sym is.bytes) over.0)
    many (inr over) = inr (omega (arith, over.1, counts.count), λ begins. over.0 (subst BeginsLabel is.bytes begins))

    why : IsNoLineAt text place next → (after_line left ≡ None) ⊎ (IsNoLineOf version (first_line left) ⊎ IsSecondLabel so.lines (first_line left))
    why (inl ended) = inl (none_by (after_line left) (sym is.ended ∙ ended))
    why (inr (inl none)) = inr (inl (subst (IsNoLineOf version) is.bytes (part_none version place parts.ProgramLine next.bytes.now is.of so.part none)))
    why (inr (inr second)) = inr (inr (twice second.1))

    by : (f : Fault) → IsFaultAt text place next f → FaultsAfter kinds.Program version rest f
    by (TooLong line) at = record {
      before = so.lines;
      rest = left;
      good = so.are;
      parts = so.spelled;
      fault_after = (
        is.some,
        omega (arith, at.0, is.at, so.at),
        elim at.1 [
          | inl long ↦ inl (omega (arith, long, ap length is.bytes))
          | inr over ↦ inr (past (part_many place parts.ProgramLine next.bytes.now so.part over))
        ],
      );
    }
    by (NotALine line) at = record {
      before = so.lines;
      rest = left;
      good = so.are;
      parts = so.spelled;
      fault_after = (
        is.some,
        omega (arith, at.0, is.at, so.at),
        omega (arith, at.1, ap length is.bytes),
        (λ over. part_few place parts.ProgramLine next.bytes.now so.part at.2 (many over)),
        why at.3,
      );
    }
    by _ at = absurd at
