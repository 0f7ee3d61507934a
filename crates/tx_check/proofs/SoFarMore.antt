-- One more line after a header, the first of them, and the last.
use Rattle.std.proofs.Common.{◌≡◌, ◌≢◌, ◌∙◌, ℕ, ◌+◌, ◌≤◌, Bool, true, false, if◌then◌else◌, List, [], ◌∷◌, ◌++◌, is_some, drop, length, length-append, refl, ap, sym, subst, inl, inr, arith, append-nil}
use Rattle.std.proofs.lemmas.Slice.Eq.{bytes_eq-Decides}
use Rattle.std.specs.List.{IsDistinct}
use Rattle.std.specs.Map.{keys_of}
use Rattle.tx_check.proofs.EndedLines.{after_ended}
use Rattle.tx_check.proofs.Growing.{all_last, lines_last, spelled_on}
use Rattle.tx_check.proofs.Labelled.{counts, instructions_both, labels_both}
use Rattle.tx_check.proofs.LabelsFound.{distinct_more, label_at, HasLines, IsLabelled}
use Rattle.tx_check.proofs.LineParts.{label_parts}
use Rattle.tx_check.proofs.NamedLabels.{no_label}
use Rattle.tx_check.proofs.ReadTexts.{fault_after_header, schedule_read, walk_read}
use Rattle.tx_check.proofs.ShortLines.{short_header}
use Rattle.tx_check.proofs.SoFar.{counts_by, debug_later, has_lines, later_debug, later_or, no_debug_line, none_or, not_debug, part_few, part_right, program_fault, room, schedule_fault, walk_fault, CommandsSoFar, IsNext, LinesSoFar, SoFar, StepsSoFar}
use Rattle.tx_check.proofs.WalkedTexts.{no_debug}
use Rattle.tx_check.specs.AfterHeader.{IsAllowedAt, IsFaultAt, IsReadBut}
use Rattle.tx_check.specs.Kinds.{begins_with_debug, debug_ahead, has_debug, head_of, is_program_head, kind_of}
use Rattle.tx_check.specs.Numbered.{behind}
use Rattle.tx_check.specs.Reads.{IsAtFault}
use Rattle.tx_check.specs.Right.{IsTooMany, SpellsCommand, SpellsLine, SpellsStep}
use Rattle.tx_check.specs.Contexts.{begins_label, next_context, AmongCommands, AmongLines, AmongSteps, AtHeader, Context, IsPlaceOf}
use Rattle.tx_check.specs.Wrong.{IsTwice}
use Rattle.tx_check.specs.declared.kinds.Kind.{Kind}
use Rattle.tx_check.specs.declared.kinds.Kind.TheVariants as kinds
use Rattle.tx_check.specs.declared.places.Part.TheVariants as parts
use Rattle.tx_check.specs.declared.places.Place.{Place}
use Rattle.tx_check.specs.declared.places.TextLine.{TextLine}
use Rattle.tx_lines.specs.Lines.{header_text, step_text}
use Rattle.tx_lines.specs.Programs.{instructions_of, label_front, labels_of, line_text, same_name, BeginsLabel, IsLineOf}
use Rattle.tx_lines.specs.Schedule.{after_line, first_line, lines_of, steps_text, FitsStepOf, SpellsHeader}
use Rattle.tx_lines.specs.Walks.{before_commands, command_text, debug_line, FitsCommand}
use Rattle.tx_lines.specs.declared.faults.Fault.{Fault}
use Rattle.tx_lines.specs.declared.instructions.Line.{Line}
use Rattle.tx_lines.specs.declared.instructions.Line.TheVariants as line
use Rattle.tx_lines.specs.declared.read.header.Header.{Header}
use Rattle.tx_lines.specs.declared.read.header.TextKind.TheVariants as texts
use Rattle.tx_lines.specs.declared.read.header.Version.{Version}

-- the place after a line
pub record GoesTo (line : List ℕ) (place later : Place) : Type 0 where
  pub link : later.part ≡ parts.Link → place.part ≡ parts.Link
  pub in_context : (context : Context) → IsPlaceOf context place → IsPlaceOf (next_context context line) later

ended_by : (version : Version) (text : List ℕ) (number : ℕ) (place : Place) (left : List ℕ) (next : TextLine) → IsNext version number place left next → IsAllowedAt text place next → is_some (after_line left) ≡ true
ended_by version text number place left next is may = sym is.ended ∙ may.ended

-- one step more
steps_more : (version : Version) (text rest : List ℕ) (number : ℕ) (place later : Place) (left : List ℕ) (next : TextLine) → StepsSoFar version rest number place left → IsNext version number place left next → IsAllowedAt text place next
    → GoesTo next.bytes.now place later → SpellsStep version next.bytes.now → StepsSoFar version rest (number + 1) later (behind left)
steps_more version text rest number place later left next so is may goes spells =
    let step = spells.step in
    let steps = so.steps ++ step ∷ [] in
    let size : length steps ≡ length so.steps + 1 = omega (arith, length-append so.steps (step ∷ [])) in
    let other : next.bytes.now ≢ debug_line = λ same. no_debug step (sym spells.spelled ∙ same) in
    let few = room 4096 place.count (length so.steps) (omega arith) so.are.few so.in_context.1 (λ enough. part_few place parts.Step next.bytes.now so.in_context.0 may.room (enough, other)) in
    let gone = subst (λ (test : Bool). IsPlaceOf (if test then AmongCommands 0 else AmongSteps (length so.steps + 1)) later) (not_debug next.bytes.now other) (goes.in_context (AmongSteps (length so.steps)) so.in_context) in
    record {
      steps = steps;
      are = record { fit = all_last (FitsStepOf version) so.steps step so.are.fit spells.fits; few = omega (arith, size, few) };
      spelled = so.spelled ∙ lines_last step_text so.steps step left (behind left) (spelled_on left (step_text step) (ended_by version text number place left next is may) (sym is.bytes ∙ spells.spelled));
      at = omega (arith, so.at, size);
      in_context = subst (λ (n : ℕ). IsPlaceOf (AmongSteps n) later) (sym size) gone;
    }

-- the line between
debug_more : (version : Version) (text rest : List ℕ) (number : ℕ) (place later : Place) (left : List ℕ) (next : TextLine) → StepsSoFar version rest number place left → IsNext version number place left next → IsAllowedAt text place next
    → GoesTo next.bytes.now place later → next.bytes.now ≡ debug_line → CommandsSoFar version rest (number + 1) later (behind left)
debug_more version text rest number place later left next so is may goes same = record {
  steps = so.steps;
  commands = [];
  are_steps = so.are;
  are_commands = record { fit = λ k d below. absurd (omega (arith, below)); few = omega arith };
  spelled = so.spelled ∙ ap (λ (t : List ℕ). steps_text so.steps ++ t) (spelled_on left debug_line (ended_by version text number place left next is may) (sym is.bytes ∙ same));
  at = omega (arith, so.at);
  in_context = subst (λ (test : Bool). IsPlaceOf (if test then AmongCommands 0 else AmongSteps (length so.steps + 1)) later) ((bytes_eq-Decides next.bytes.now debug_line).1 same)
      (goes.in_context (AmongSteps (length so.steps)) so.in_context);
}

-- one command more
commands_more : (version : Version) (text rest : List ℕ) (number : ℕ) (place later : Place) (left : List ℕ) (next : TextLine) → CommandsSoFar version rest number place left → IsNext version number place left next → IsAllowedAt text place next
    → GoesTo next.bytes.now place later → SpellsCommand version next.bytes.now → CommandsSoFar version rest (number + 1) later (behind left)
commands_more version text rest number place later left next so is may goes spells =
    let command = spells.command in
    let commands = so.commands ++ command ∷ [] in
    let size : length commands ≡ length so.commands + 1 = omega (arith, length-append so.commands (command ∷ [])) in
    let few = room 4096 place.count (length so.commands) (omega arith) so.are_commands.few so.in_context.1 (part_few place parts.Command next.bytes.now so.in_context.0 may.room) in
    record {
      steps = so.steps;
      commands = commands;
      are_steps = so.are_steps;
      are_commands = record { fit = all_last (FitsCommand version) so.commands command so.are_commands.fit spells.fits; few = omega (arith, size, few) };
      spelled = so.spelled
          ∙ ap (before_commands so.steps) (lines_last command_text so.commands command left (behind left) (spelled_on left (command_text command) (ended_by version text number place left next is may) (sym is.bytes ∙ spells.spelled)));
      at = omega (arith, so.at, size);
      in_context = subst (λ (n : ℕ). IsPlaceOf (AmongCommands n) later) (sym size) (goes.in_context (AmongCommands (length so.commands)) so.in_context);
    }

-- one line of a program more
label_begins : (name : List ℕ) → begins_label (label_front ++ name) ≡ true
label_begins name = refl

none_begins : (line : List ℕ) → (BeginsLabel line → ⊥) → begins_label line ≡ false
none_begins line none = by (begins_label line) refl
  where
    by : (test : Bool) → begins_label line ≡ test → test ≡ false
    by true is = absurd (none (drop 6 line, label_parts line is))
    by false is = refl

-- so many lines, with one more
record IsGrown (version : Version) (lines : List Line) (one : Line) (later : Place) : Type 0 where
  few_instructions : length (instructions_of (lines ++ one ∷ [])) ≤ 1024
  few_labels : length (labels_of (lines ++ one ∷ [])) ≤ 256
  in_context : IsPlaceOf (AmongLines (length (instructions_of (lines ++ one ∷ []))) (length (labels_of (lines ++ one ∷ [])))) later

in_context_by : (instructions labels more others : ℕ) (later : Place) → more ≡ instructions → others ≡ labels → IsPlaceOf (AmongLines instructions labels) later → IsPlaceOf (AmongLines more others) later
in_context_by instructions labels more others later one other is =
    subst (λ (n : ℕ). IsPlaceOf (AmongLines n others) later) (sym one) (subst (λ (n : ℕ). IsPlaceOf (AmongLines instructions n) later) (sym other) is)

grown : (version : Version) (rest : List ℕ) (number : ℕ) (place later : Place) (left bytes : List ℕ) (one : Line) (so : LinesSoFar version rest number place left) → (IsTooMany parts.ProgramLine place.count place.labels bytes → ⊥)
    → GoesTo bytes place later → bytes ≡ line_text one → IsGrown version so.lines one later
grown version rest number place later left bytes (line.Label name) so few goes spelled =
    let counted = counts_by version rest number place left so in
    let instructions : length (instructions_of (so.lines ++ line.Label name ∷ [])) ≡ length (instructions_of so.lines) = omega (arith, instructions_both so.lines (line.Label name ∷ [])) in
    let labels : length (labels_of (so.lines ++ line.Label name ∷ [])) ≡ length (labels_of so.lines) + 1 = omega (arith, labels_both 0 so.lines (line.Label name ∷ [])) in
    let below = room 256 place.labels (length (labels_of so.lines)) (omega arith) so.are.few_labels counted.labels (λ enough. few (inl (enough, (name.bytes.items, spelled)))) in
    let i = length (instructions_of so.lines) in
    let l = length (labels_of so.lines) in
    let test : begins_label bytes ≡ true = ap begins_label spelled ∙ label_begins name.bytes.items in
    let gone = subst (λ (t : Bool). IsPlaceOf (if t then AmongLines i (l + 1) else AmongLines (i + 1) l) later) test (goes.in_context (AmongLines i l) so.in_context) in
    record {
      few_instructions = omega (arith, instructions, so.are.few_instructions);
      few_labels = omega (arith, labels, below);
      in_context = in_context_by i (l + 1) (length (instructions_of (so.lines ++ line.Label name ∷ []))) (length (labels_of (so.lines ++ line.Label name ∷ []))) later instructions labels gone;
    }
grown version rest number place later left bytes (line.Instruction instruction) so few goes spelled =
    let counted = counts_by version rest number place left so in
    let instructions : length (instructions_of (so.lines ++ line.Instruction instruction ∷ [])) ≡ length (instructions_of so.lines) + 1 = omega (arith, instructions_both so.lines (line.Instruction instruction ∷ [])) in
    let labels : length (labels_of (so.lines ++ line.Instruction instruction ∷ [])) ≡ length (labels_of so.lines) = omega (arith, labels_both 0 so.lines (line.Instruction instruction ∷ [])) in
    let none : BeginsLabel bytes → ⊥ = λ begins. no_label instruction begins.0 (sym spelled ∙ begins.1) in
    let below = room 1024 place.count (length (instructions_of so.lines)) (omega arith) so.are.few_instructions counted.count (λ enough. few (inr (enough, none))) in
    let i = length (instructions_of so.lines) in
    let l = length (labels_of so.lines) in
    let gone = subst (λ (t : Bool). IsPlaceOf (if t then AmongLines i (l + 1) else AmongLines (i + 1) l) later) (none_begins bytes none) (goes.in_context (AmongLines i l) so.in_context) in
    record {
      few_instructions = omega (arith, instructions, below);
      few_labels = omega (arith, labels, so.are.few_labels);
      in_context = in_context_by (i + 1) l (length (instructions_of (so.lines ++ line.Instruction instruction ∷ []))) (length (labels_of (so.lines ++ line.Instruction instruction ∷ []))) later instructions labels gone;
    }

-- it is no second label
not_second : (version : Version) (text bytes : List ℕ) (number : ℕ) (lines : List Line) (left : List ℕ) (one : Line) → HasLines version text lines left → number ≡ length lines + 2 → bytes ≡ line_text one → (IsTwice text number bytes → ⊥)
    → (name : List ℕ) → line_text one ≡ label_front ++ name → IsLabelled lines name → ⊥
not_second version text bytes number lines left one has at spelled once name named is = once (record {
  label = (name, spelled ∙ named);
  earlier = length is.before + 2;
  some = omega arith;
  before = omega (arith, at, ap length is.parts, length-append is.before (line.Label is.twin ∷ is.after));
  same = label_at version text is.before (line.Label is.twin) is.after left (subst (λ (ls : List Line). HasLines version text ls left) is.parts has)
      ∙ ap (λ (t : List ℕ). label_front ++ t) is.same
      ∙ sym (spelled ∙ named);
})

still_line : (instructions labels : ℕ) (line : List ℕ) (place later : Place) → GoesTo line place later → place.part ≡ parts.ProgramLine → IsPlaceOf (AmongLines instructions labels) later → later.part ≡ parts.ProgramLine
still_line instructions labels line place later goes part (inl is) = is.0
still_line instructions labels line place later goes part (inr link) = let bad : parts.ProgramLine ≡ parts.Link = sym part ∙ goes.link link in absurd (cc)

lines_more : (version : Version) (text rest : List ℕ) (header : Header) (number : ℕ) (place later : Place) (left : List ℕ) (next : TextLine) → SpellsHeader texts.Program text header rest → LinesSoFar version rest number place left
    → IsNext version number place left next → IsAllowedAt text place next → GoesTo next.bytes.now place later → SpellsLine version next.bytes.now → LinesSoFar version rest (number + 1) later (behind left)
lines_more version text rest header number place later left next spells so is may goes spelled =
    let one = spelled.one in
    let lines = so.lines ++ one ∷ [] in
    let size : length lines ≡ length so.lines + 1 = omega (arith, length-append so.lines (one ∷ [])) in
    let few = part_few place parts.ProgramLine next.bytes.now so.part may.room in
    let more = grown version rest number place later left next.bytes.now one so few goes spelled.spelled in
    let has = has_lines version text rest header number place left spells so in
    record {
      lines = lines;
      are = record {
        fit = all_last (IsLineOf version) so.lines one so.are.fit spelled.fits;
        few_instructions = more.few_instructions;
        few_labels = more.few_labels;
        distinct = distinct_more so.lines one so.are.distinct
            (not_second version text next.bytes.now next.number so.lines left one has (is.at ∙ so.at) spelled.spelled (may.once so.part));
      };
      spelled = so.spelled ∙ lines_last line_text so.lines one left (behind left) (spelled_on left (line_text one) (ended_by version text number place left next is may) (sym is.bytes ∙ spelled.spelled));
      at = omega (arith, so.at, size);
      part = still_line (length (instructions_of lines)) (length (labels_of lines)) next.bytes.now place later goes so.part more.in_context;
      in_context = more.in_context;
    }

schedule_more : (version : Version) (text rest : List ℕ) (number : ℕ) (place later : Place) (left : List ℕ) (next : TextLine) → SoFar kinds.Schedule version rest number place left → IsNext version number place left next → IsAllowedAt text place next
    → GoesTo next.bytes.now place later → SoFar kinds.Schedule version rest (number + 1) later (behind left)
schedule_more version text rest number place later left next so is may goes =
    let none = none_or (begins_with_debug left) (has_debug left) so.1 in
    elim (part_right version place parts.Step next.bytes.now is.of so.0.in_context.0 may.right) [
      | inl debug ↦ absurd (no_debug_line (first_line left) none.0 (sym is.bytes ∙ debug))
      | inr spells ↦ (
        steps_more version text rest number place later left next so.0 is may goes spells,
        sym (later_debug left (ended_by version text number place left next is may)) ∙ none.1,
      )
    ]

walk_more : (version : Version) (text rest : List ℕ) (number : ℕ) (place later : Place) (left : List ℕ) (next : TextLine) → SoFar kinds.Walk version rest number place left → IsNext version number place left next → IsAllowedAt text place next
    → GoesTo next.bytes.now place later → SoFar kinds.Walk version rest (number + 1) later (behind left)
walk_more version text rest number place later left next (inl so) is may goes =
    elim (part_right version place parts.Step next.bytes.now is.of so.0.in_context.0 may.right) [
      | inl debug ↦ inr (debug_more version text rest number place later left next so.0 is may goes debug)
      | inr spells ↦
          let other : first_line left ≢ debug_line = λ same. no_debug spells.step (sym spells.spelled ∙ is.bytes ∙ same) in
          inl (
            steps_more version text rest number place later left next so.0 is may goes spells,
            sym (later_debug left (ended_by version text number place left next is may))
                ∙ later_or (begins_with_debug left) (has_debug left) so.1 (not_debug (first_line left) other),
          )
    ]
walk_more version text rest number place later left next (inr so) is may goes =
    inr (commands_more version text rest number place later left next so is may goes (part_right version place parts.Command next.bytes.now is.of so.in_context.0 may.right))

-- one line more, or its fault
pub so_far_more : (kind : Kind) (version : Version) (text rest : List ℕ) (header : Header) (number : ℕ) (place later : Place) (left : List ℕ) (next : TextLine) → SpellsHeader (head_of kind) text header rest → SoFar kind version rest number place left
    → IsNext version number place left next → IsAllowedAt text place next → GoesTo next.bytes.now place later → SoFar kind version rest (number + 1) later (behind left)
so_far_more kinds.Schedule version text rest header number place later left next spells so is may goes = schedule_more version text rest number place later left next so is may goes
so_far_more kinds.Walk version text rest header number place later left next spells so is may goes = walk_more version text rest number place later left next so is may goes
so_far_more kinds.Program version text rest header number place later left next spells so is may goes =
    lines_more version text rest header number place later left next spells so is may goes (part_right version place parts.ProgramLine next.bytes.now is.of so.part may.right)

pub so_far_fault : (kind : Kind) (text rest : List ℕ) (header : Header) (number : ℕ) (place : Place) (left : List ℕ) (next : TextLine) (fault : Fault) → SpellsHeader (head_of kind) text header rest
    → SoFar kind header.version rest number place left → IsNext header.version number place left next → IsFaultAt text place next fault → IsAtFault kind text fault
so_far_fault kinds.Schedule text rest header number place left next fault spells so is at =
    fault_after_header kinds.Schedule text header rest fault spells (schedule_fault header.version text rest number place left next fault so is at)
so_far_fault kinds.Walk text rest header number place left next fault spells so is at =
    fault_after_header kinds.Walk text header rest fault spells (walk_fault header.version text rest number place left next fault so is at)
so_far_fault kinds.Program text rest header number place left next fault spells so is at =
    fault_after_header kinds.Program text header rest fault spells (program_fault header.version text rest header number place left next fault spells so is at)

-- after the header no line is read yet
no_names : IsDistinct same_name (keys_of (labels_of []))
unfolding IsDistinct
no_names = tt

by_head : (kind : Kind) (head debug : Bool) → kind ≡ (if head then kinds.Program else if debug then kinds.Walk else kinds.Schedule) → (kind ≡ kinds.Schedule → debug ≡ false) × (kind ≡ kinds.Walk → debug ≡ true)
by_head kind true debug e = (λ same. let bad : kinds.Schedule ≡ kinds.Program = sym same ∙ e in absurd (cc), λ same. let bad : kinds.Walk ≡ kinds.Program = sym same ∙ e in absurd (cc))
by_head kind false true e = (λ same. let bad : kinds.Schedule ≡ kinds.Walk = sym same ∙ e in absurd (cc), λ same. refl)
by_head kind false false e = (λ same. refl, λ same. let bad : kinds.Walk ≡ kinds.Schedule = sym same ∙ e in absurd (cc))

no_steps : (version : Version) (rest : List ℕ) (place : Place) → IsPlaceOf (AmongSteps 0) place → StepsSoFar version rest 2 place rest
no_steps version rest place in_context =
    record { steps = []; are = record { fit = λ k d below. absurd (omega (arith, below)); few = omega arith }; spelled = refl; at = refl; in_context = in_context }

no_lines : (version : Version) (rest : List ℕ) (place : Place) → (place.part ≡ parts.Link → ⊥) → IsPlaceOf (AmongLines 0 0) place → LinesSoFar version rest 2 place rest
no_lines version rest place link (inl is) = record {
  lines = [];
  are = record { fit = λ k d below. absurd (omega (arith, below)); few_instructions = omega arith; few_labels = omega arith; distinct = no_names };
  spelled = refl;
  at = refl;
  part = is.0;
  in_context = inl is;
}
no_lines version rest place link (inr is) = absurd (link is)

pub so_far_first : (kind : Kind) (text rest : List ℕ) (header : Header) (place : Place) → kind ≡ kind_of text → SpellsHeader (head_of kind) text header rest → (place.part ≡ parts.Link → ⊥)
    → ((line : List ℕ) → IsPlaceOf (next_context (AtHeader (head_of kind)) line) place) → SoFar kind header.version rest 2 place rest
so_far_first kind text rest header place is spells link in_context = by kind spells in_context is
  where
    ahead : (k : Kind) → SpellsHeader (head_of k) text header rest → has_debug text ≡ debug_ahead rest
    ahead k spells =
        debug_later text rest
        (ap after_line spells.spelled ∙ after_ended (header_text (head_of k) header) rest (short_header (head_of k) header spells.fits).in_line)

    by : (k : Kind) → SpellsHeader (head_of k) text header rest → ((line : List ℕ) → IsPlaceOf (next_context (AtHeader (head_of k)) line) place) → k ≡ kind_of text → SoFar k header.version rest 2 place rest
    by kinds.Schedule spells in_context is = (
      no_steps header.version rest place (in_context []),
      sym (ahead kinds.Schedule spells) ∙ (by_head kinds.Schedule (is_program_head (first_line text)) (has_debug text) is).0 refl,
    )
    by kinds.Walk spells in_context is = inl (
      no_steps header.version rest place (in_context []),
      sym (ahead kinds.Walk spells) ∙ (by_head kinds.Walk (is_program_head (first_line text)) (has_debug text) is).1 refl,
    )
    by kinds.Program spells in_context is = no_lines header.version rest place link (in_context [])

-- nothing is left
pub so_far_all : (kind : Kind) (text : List ℕ) (header : Header) (rest : List ℕ) (number : ℕ) (place : Place) (left : List ℕ) → SpellsHeader (head_of kind) text header rest → left ≡ [] → SoFar kind header.version rest number place left
    → IsReadBut kind text header.version rest
so_far_all kinds.Schedule text header rest number place left spells none so =
    schedule_read text header rest so.0.steps spells so.0.are (so.0.spelled ∙ ap (λ (t : List ℕ). steps_text so.0.steps ++ t) none ∙ append-nil (steps_text so.0.steps))
so_far_all kinds.Walk text header rest number place left spells none (inl so) =
    let bad : false ≡ true = sym (ap debug_ahead none) ∙ so.1 in absurd (cc)
so_far_all kinds.Walk text header rest number place left spells none (inr so) =
    walk_read text header rest so.steps so.commands spells so.are_steps so.are_commands
    (so.spelled
    ∙ ap (λ (t : List ℕ). before_commands so.steps (lines_of command_text so.commands ++ t)) none
    ∙ ap (before_commands so.steps) (append-nil (lines_of command_text so.commands)))
so_far_all kinds.Program text header rest number place left spells none so =
    record { lines = so.lines; are = so.are; spelled = so.spelled ∙ ap (λ (t : List ℕ). lines_of line_text so.lines ++ t) none ∙ append-nil (lines_of line_text so.lines) }

-- few lines are read
pub so_far_few : (kind : Kind) (version : Version) (rest : List ℕ) (number : ℕ) (place : Place) (left : List ℕ) → SoFar kind version rest number place left → number ≤ 8195
so_far_few kinds.Schedule version rest number place left so = omega (arith, so.0.at, so.0.are.few)
so_far_few kinds.Walk version rest number place left (inl so) = omega (arith, so.0.at, so.0.are.few)
so_far_few kinds.Walk version rest number place left (inr so) = omega (arith, so.at, so.are_steps.few, so.are_commands.few)
so_far_few kinds.Program version rest number place left so = omega (arith, so.at, counts 0 so.lines, so.are.few_instructions, so.are.few_labels)
