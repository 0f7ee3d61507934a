-- No line at fault is left out: where nothing is reported of a line, it is at fault neither in its place nor by its label.
use Rattle.std.proofs.Common.{◌≡◌, ◌≢◌, ◌∙◌, ◌⊎◌, ℕ, zero, suc, ◌+◌, ◌-◌, ◌<◌, ◌≤◌, Bool, true, false, List, [], ◌++◌, append-nil, if◌then◌else◌, length, drop, refl, ap, sym, subst, inl, inr, arith}
use Rattle.std.proofs.lemmas.Bool.{cases_lt}
use Rattle.std.specs.Str.{bytes_eq}
use Rattle.tx_check.proofs.Growing.{none_beyond, none_left}
use Rattle.tx_check.proofs.Labelled.{counts}
use Rattle.tx_check.proofs.LabelsFound.{later_is, HasLines}
use Rattle.tx_check.proofs.LineParts.{label_parts}
use Rattle.tx_check.proofs.OwnLines.{lines_after}
use Rattle.tx_check.proofs.SameHeaders.{same_header}
use Rattle.tx_check.proofs.SoFar.{no_debug_line}
use Rattle.tx_check.specs.AfterHeader.{IsAllowedAt, IsQuietAt}
use Rattle.tx_check.specs.Kinds.{head_of, kind_of}
use Rattle.tx_check.specs.Numbered.{after_lines}
use Rattle.tx_check.specs.OwnLines.{IsLineAt, IsWrongAfter}
use Rattle.tx_check.specs.Reads.{line_of, IsAtFault}
use Rattle.tx_check.specs.Right.{IsRight, IsTooMany}
use Rattle.tx_check.specs.Contexts.{begins_label, context_after, counted, next_context, AmongCommands, AmongLines, AmongSteps, AtHeader, Context, IsPastAll, IsPlaceAt, IsPlaceOf, IsVersionOf}
use Rattle.tx_check.specs.Wrong.{has_end, IsNoneIn, IsOneTooMany, IsTooManyAfter, IsUnlinked, IsWrongAfterFault, IsWrongIn, IsWrongThere, NoEnd, Other, Second, TooLong, TooMany}
use Rattle.tx_check.specs.declared.kinds.Kind.{Kind}
use Rattle.tx_check.specs.declared.kinds.Kind.TheVariants as kinds
use Rattle.tx_check.specs.declared.places.Part.{Part}
use Rattle.tx_check.specs.declared.places.Part.TheVariants as parts
use Rattle.tx_check.specs.declared.places.Place.{Place}
use Rattle.tx_check.specs.declared.places.TextLine.{TextLine}
use Rattle.tx_lines.specs.Programs.{line_text, BeginsLabel, FaultsAtLabel, IsLineOf}
use Rattle.tx_lines.specs.Schedule.{first_line, lines_of, SpellsHeader}
use Rattle.tx_lines.specs.Walks.{debug_line}
use Rattle.tx_lines.specs.declared.faults.Fault.{Fault}
use Rattle.tx_lines.specs.declared.faults.Fault.TheVariants as faults
use Rattle.tx_lines.specs.declared.read.header.Header.{Header}
use Rattle.tx_lines.specs.declared.read.header.TextKind.{TextKind}
use Rattle.tx_lines.specs.declared.read.header.TextKind.TheVariants as texts
use Rattle.tx_lines.specs.declared.read.header.TextKind.TheVariants.{Schedule, Program}
use Rattle.tx_lines.specs.declared.read.header.Version.{Version}

-- a text has one version
pub one_version : (kind : TextKind) (text : List ℕ) (one other : Version) → IsVersionOf kind text one → IsVersionOf kind text other → one ≡ other
one_version kind text one other (inl first) (inl second) =
    first.3 ∙ (same_header kind text first.0 second.0 first.1 second.1 first.2 second.2).0 ∙ sym second.3
one_version kind text one other (inl first) (inr second) = absurd (second.0 first.0 first.1 first.2)
one_version kind text one other (inr first) (inl second) = absurd (first.0 second.0 second.1 second.2)
one_version kind text one other (inr first) (inr second) = first.1 ∙ sym second.1

-- a line that is one too many, or none of its place's, is so for what must be there
more : (most count number : ℕ) → most ≤ 4096 → count ≡ counted number → most ≤ number → most ≤ count
more most count number few is enough = omega (arith, few, is, enough)

pub many_there : (context : Context) (place : Place) (line : List ℕ) → IsPlaceOf context place → place.part ≢ parts.Link → IsOneTooMany context line → IsTooMany place.part place.count place.labels line
many_there (AtHeader kind) place line is other many = absurd many
many_there (AmongSteps steps) place line is other many =
    subst (λ (part : Part). IsTooMany part place.count place.labels line) (sym is.0) (more 4096 place.count steps (omega arith) is.1 many.0, many.1)
many_there (AmongCommands commands) place line is other many =
    subst (λ (part : Part). IsTooMany part place.count place.labels line) (sym is.0) (more 4096 place.count commands (omega arith) is.1 many)
many_there (AmongLines instructions labels) place line (inl is) other many =
    subst (λ (part : Part). IsTooMany part place.count place.labels line) (sym is.0) (elim many [
      | inl label ↦ inl (more 256 place.labels labels (omega arith) is.2 label.0, label.1)
      | inr instruction ↦ inr (more 1024 place.count instructions (omega arith) is.1 instruction.0, instruction.1)
    ])
many_there (AmongLines instructions labels) place line (inr is) other many = absurd (other is)

none_right : (version : Version) (context : Context) (place : Place) (line : List ℕ) → IsPlaceOf context place → place.part ≢ parts.Link → IsRight place.part version line → IsNoneIn version context line → ⊥
none_right version (AtHeader kind) place line is other right none = subst (λ (part : Part). IsRight part version line) is.0 right
none_right version (AmongSteps steps) place line is other right none =
    let here = subst (λ (part : Part). IsRight part version line) is.0 right in
    elim here [ inl debug ↦ none.1 debug | inr spells ↦ none.0 spells.step spells.fits.fits spells.fits.of spells.spelled ]
none_right version (AmongCommands commands) place line is other right none =
    let here = subst (λ (part : Part). IsRight part version line) is.0 right in none here.command here.fits here.spelled
none_right version (AmongLines instructions labels) place line (inl is) other right none =
    let here = subst (λ (part : Part). IsRight part version line) is.0 right in none here.one here.fits here.spelled
none_right version (AmongLines instructions labels) place line (inr is) other right none = absurd (other is)

pub not_wrong : (text : List ℕ) (context : Context) (place : Place) (line : TextLine) → IsPlaceOf context place → place.part ≢ parts.Link → IsAllowedAt text place line
    → IsWrongIn place.version text line.number context line.bytes.now line.is_ended → ⊥
not_wrong text context place line is other may (TooLong long) = omega (arith, may.short, long)
not_wrong text context place line is other may (NoEnd none) = let bad : true ≡ false = sym may.ended ∙ none in absurd (cc)
not_wrong text context place line is other may (TooMany many) = may.room (many_there context place line.bytes.now is other many)
not_wrong text context place line is other may (Other none) = none_right place.version context place line.bytes.now is other may.right none
not_wrong text (AtHeader kind) place line is other may (Second twice) = twice
not_wrong text (AmongSteps steps) place line is other may (Second twice) = twice
not_wrong text (AmongCommands commands) place line is other may (Second twice) = twice
not_wrong text (AmongLines instructions labels) place line (inl is) other may (Second twice) = may.once is.0 twice
not_wrong text (AmongLines instructions labels) place line (inr is) other may (Second twice) = other is

-- so no wanted line goes unreported
not_left_out : (text : List ℕ) (place : Place) (line : TextLine) → IsPlaceAt text line.number place → IsLineAt text line → IsQuietAt text place line
    → ((place.part ≡ parts.Link) × IsUnlinked text line.number) ⊎ ((place.part ≢ parts.Link) × IsWrongThere text line.number) → ⊥
not_left_out text place line in_context at quiet (inl is) =
    let wrong = is.1 in
    let version = one_version (head_of (kind_of text)) text wrong.version place.version wrong.of_text in_context.version in
    quiet.linked is.0 wrong.one (subst (λ (v : Version). IsLineOf v wrong.one) version wrong.good) (at.bytes ∙ wrong.spelled) wrong.nowhere
not_left_out text place line in_context at quiet (inr is) =
    let wrong = is.1 in
    let context = context_after (kind_of text) text (line.number - 1) in
    let version = one_version (head_of (kind_of text)) text wrong.version place.version wrong.of_text in_context.version in
    not_wrong text context place line in_context.in_context is.0 quiet.may
    (subst (λ (v : Version). IsWrongIn v text line.number context line.bytes.now line.is_ended) version
    (subst (λ (ended : Bool). IsWrongIn wrong.version text line.number context line.bytes.now ended) (sym at.ended)
    (subst (λ (bytes : List ℕ). IsWrongIn wrong.version text line.number context bytes (has_end line.number text)) (sym at.bytes) wrong.wrong)))

pub reported_after : (part : Part) (passed : ℕ) (text : List ℕ) (place : Place) (line : TextLine) → part ≡ place.part → IsPlaceAt text line.number place → IsLineAt text line
    → IsQuietAt text place line → IsWrongAfter part passed text line.number → ⊥
reported_after part passed text place line same in_context at quiet wrong =
    let here = subst (λ (p : Part). IsWrongAfter p passed text line.number) same wrong in not_left_out text place line in_context at quiet here.2

-- before a line that is one too many there are few lines
abbrev IsWithin : Context → ℕ → Type 0
IsWithin (AtHeader kind) count = count ≡ 0
IsWithin (AmongSteps steps) count = (count ≡ steps + 1) × (steps ≤ 4096)
IsWithin (AmongCommands commands) count = (count ≤ commands + 4098) × (commands ≤ 4096)
IsWithin (AmongLines instructions labels) count = (count ≡ instructions + labels + 1) × (instructions ≤ 1024) × (labels ≤ 256)

begins : (line : List ℕ) → BeginsLabel line → begins_label line ≡ true
begins line is = ap begins_label is.1

within_steps : (steps count : ℕ) (line : List ℕ) (test : Bool) → bytes_eq line debug_line ≡ test → (count ≡ steps + 1) × (steps ≤ 4096) → ((4096 ≤ steps) × (line ≢ debug_line) → ⊥)
    → IsWithin (if test then AmongCommands 0 else AmongSteps (steps + 1)) (suc count)
within_steps steps count line true is few room = (omega (arith, few.0, few.1), omega arith)
within_steps steps count line false is few room =
    elim (cases_lt steps 4096) [
      | inl below ↦ (omega (arith, few.0), omega (arith, below))
      | inr over ↦ absurd (room (over, no_debug_line line is))
    ]

within_lines : (instructions labels count : ℕ) (line : List ℕ) (test : Bool) → begins_label line ≡ test → (count ≡ instructions + labels + 1) × (instructions ≤ 1024) × (labels ≤ 256)
    → (((256 ≤ labels) × BeginsLabel line) ⊎ ((1024 ≤ instructions) × (BeginsLabel line → ⊥)) → ⊥)
    → IsWithin (if test then AmongLines instructions (labels + 1) else AmongLines (instructions + 1) labels) (suc count)
within_lines instructions labels count line true is few room =
    elim (cases_lt labels 256) [
      | inl below ↦ (omega (arith, few.0), few.1, omega (arith, below))
      | inr over ↦ absurd (room (inl (over, (drop 6 line, label_parts line is))))
    ]
within_lines instructions labels count line false is few room =
    elim (cases_lt instructions 1024) [
      | inl below ↦ (omega (arith, few.0), omega (arith, below), few.2)
      | inr over ↦ absurd (room (inr (over, λ label. let bad : true ≡ false = sym (begins line label) ∙ is in absurd (cc))))
    ]

within_more : (context : Context) (count : ℕ) (line : List ℕ) → IsWithin context count → (IsOneTooMany context line → ⊥) → IsWithin (next_context context line) (suc count)
within_more (AtHeader Schedule) count line few room = (omega (arith, few), omega arith)
within_more (AtHeader Program) count line few room = (omega (arith, few), omega arith, omega arith)
within_more (AmongSteps steps) count line few room = within_steps steps count line (bytes_eq line debug_line) refl few room
within_more (AmongCommands commands) count line few room =
    elim (cases_lt commands 4096) [ inl below ↦ (omega (arith, few.0), omega (arith, below)) | inr over ↦ absurd (room over) ]
within_more (AmongLines instructions labels) count line few room = within_lines instructions labels count line (begins_label line) refl few room

within : (text : List ℕ) (count : ℕ) → ((earlier : ℕ) → earlier < count → IsTooManyAfter text earlier → ⊥) → IsWithin (context_after (kind_of text) text count) count
within text zero none = refl
within text (suc count) none =
    within_more (context_after (kind_of text) text count) count (first_line (after_lines count text))
    (within text count (λ earlier below. none earlier (omega (arith, below)))) (none count (omega arith))

few_by : (context : Context) (count : ℕ) → IsWithin context count → count ≤ 8194
few_by (AtHeader kind) count few = omega (arith, few)
few_by (AmongSteps steps) count few = omega (arith, few.0, few.1)
few_by (AmongCommands commands) count few = omega (arith, few.0, few.1)
few_by (AmongLines instructions labels) count few = omega (arith, few.0, few.1, few.2)

pub few_wrong : (text : List ℕ) (number : ℕ) → IsWrongThere text number → number ≤ 8195
few_wrong text number wrong =
    let few = few_by (context_after (kind_of text) text (number - 1)) (number - 1) (within text (number - 1) wrong.none_too_many) in omega (arith, few)

not_past : (context : Context) (count : ℕ) → IsWithin context count → IsPastAll context → ⊥
not_past (AtHeader kind) count few past = past
not_past (AmongSteps steps) count few past = omega (arith, few.1, past)
not_past (AmongCommands commands) count few past = omega (arith, few.1, past)
not_past (AmongLines instructions labels) count few (inl past) = omega (arith, few.1, past)
not_past (AmongLines instructions labels) count few (inr past) = omega (arith, few.2, past)

-- after a line that was one too many none is wanted
pub past_all : (text : List ℕ) (before number : ℕ) → IsPastAll (context_after (kind_of text) text before) → IsWrongThere text number → before < number → ⊥
past_all text before number past wrong later =
    not_past (context_after (kind_of text) text before) before
    (within text before (λ earlier below. wrong.none_too_many earlier (omega (arith, below, later)))) past

-- nor is one that is not there
pub none_later : (text : List ℕ) (before number : ℕ) → after_lines before text ≡ [] → after_lines (number - 1) text ≢ [] → before < number → ⊥
none_later text before number none there later =
    let whole : (number - 1 - before) + before ≡ number - 1 = omega (arith, later) in
    there (ap (λ (n : ℕ). after_lines n text) (sym whole) ∙ sym (lines_after (number - 1 - before) before text) ∙ ap (after_lines (number - 1 - before)) none ∙ none_left (number - 1 - before))

-- a text where only labels are at fault has few lines
few_lines : (text : List ℕ) (header : Header) (rest : List ℕ) (line number : ℕ) → SpellsHeader texts.Program text header rest → FaultsAtLabel header.version rest line
    → after_lines (number - 1) text ≢ [] → number ≤ 1281
few_lines text header rest line number spells fault there =
    elim (cases_lt (length fault.lines + 1) number) [
      | inr few ↦ omega (arith, few, counts 0 fault.lines, fault.good.few_instructions, fault.good.few_labels)
      | inl past ↦
          let whole : rest ≡ lines_of line_text fault.lines ++ [] = fault.spelled ∙ sym (append-nil (lines_of line_text fault.lines)) in
          let has : HasLines header.version text fault.lines [] = record {
            header = header;
            spells = subst (λ (r : List ℕ). SpellsHeader texts.Program text header r) whole spells;
            fit = fault.good.fit;
          } in
          let before : number - 1 ≡ suc (number - 2) = omega (arith, past) in
          absurd (there (ap (λ (n : ℕ). after_lines n text) before
          ∙ later_is header.version text fault.lines [] (number - 2) has
          ∙ none_beyond header.version fault.lines (number - 2) fault.good.fit (λ below. omega (arith, below, past))))
    ]

few_unlinked : (kind : Kind) (text : List ℕ) (line number : ℕ) → IsAtFault kind text (faults.NoLabel line) → after_lines (number - 1) text ≢ [] → number ≤ 1281
few_unlinked kinds.Schedule text line number (inl header) there = absurd header
few_unlinked kinds.Schedule text line number (inr found) there = absurd found.3.fault_after.1
few_unlinked kinds.Walk text line number (inl header) there = absurd header
few_unlinked kinds.Walk text line number (inr found) there = elim found.3 [ inl among ↦ absurd among.fault_after | inr later ↦ absurd later.4.fault_after.1 ]
few_unlinked kinds.Program text line number (inl header) there = absurd header
few_unlinked kinds.Program text line number (inr found) there = few_lines text found.0 found.1 line number found.2 found.3 there

-- what is at fault after a fault is so after its line
pub wrong_after : (kind : Kind) (text : List ℕ) (fault : Fault) (part : Part) (passed number : ℕ) → passed ≡ line_of fault → IsAtFault kind text fault
    → ((line : ℕ) → fault ≡ faults.NoLabel line → part ≡ parts.Link)
    → (((line : ℕ) → fault ≢ faults.NoLabel line) → part ≢ parts.Link) → IsWrongAfterFault fault text number → IsWrongAfter part passed text number
wrong_after kind text (faults.NotALine line) part passed number at is label other wrong =
    (omega (arith, at, wrong.0), omega (arith, few_wrong text number wrong.1), inr (other (λ l e. absurd (cc)), wrong.1))
wrong_after kind text (faults.TooLong line) part passed number at is label other wrong =
    (omega (arith, at, wrong.0), omega (arith, few_wrong text number wrong.1), inr (other (λ l e. absurd (cc)), wrong.1))
wrong_after kind text (faults.NoLabel line) part passed number at is label other wrong =
    (omega (arith, at, wrong.0), omega (arith, few_unlinked kind text line number is wrong.1.there), inl (label line refl, wrong.1))
wrong_after kind text _ part passed number at is label other wrong = absurd wrong
