-- The context of a line, and of the next one.
use Rattle.std.proofs.Common.{◌≡◌, ◌≢◌, ◌∙◌, ℕ, zero, suc, ◌+◌, ◌-◌, ◌≤◌, Bool, true, false, if◌then◌else◌, List, [], ap, sym, subst, refl, inl, inr, is_some, arith}
use Rattle.tx_check.specs.Kinds.{head_of, kind_of}
use Rattle.tx_check.specs.Numbered.{after_lines, line_at}
use Rattle.tx_check.specs.OwnLines.{IsLineAt}
use Rattle.tx_check.specs.Reads.{line_of, IsAtFault}
use Rattle.tx_check.specs.Contexts.{begins_label, context_after, next_context, AmongLines, Context, IsPlaceAt, IsPlaceOf, IsVersionOf}
use Rattle.tx_check.specs.Wrong.{IsWrong, IsWrongLine}
use Rattle.tx_check.specs.declared.kinds.Kind.{Kind}
use Rattle.tx_check.specs.declared.kinds.Kind.TheVariants as kinds
use Rattle.tx_check.specs.declared.places.Part.TheVariants as parts
use Rattle.tx_check.specs.declared.places.Place.{Place}
use Rattle.tx_check.specs.declared.places.TextLine.{TextLine}
use Rattle.tx_lines.specs.Schedule.{after_line, first_line}
use Rattle.tx_lines.specs.declared.faults.Fault.{Fault}
use Rattle.tx_lines.specs.declared.faults.Fault.TheVariants.{NotALine, NoLabel, TooLong}

-- one line later
pub in_context_later : (text : List ℕ) (count number later : ℕ) (line : List ℕ) (place next : Place) → number ≡ count + 1 → later ≡ count + 2 → line ≡ first_line (after_lines count text) → IsPlaceAt text number place → next.version ≡ place.version
    → ((context : Context) → IsPlaceOf context place → IsPlaceOf (next_context context line) next) → IsPlaceAt text later next
in_context_later text count number later line place next at on same in_context version go =
    let kind = kind_of text in
    let here : number - 1 ≡ count = omega (arith, at) in
    let there : suc count ≡ later - 1 = omega (arith, on) in
    let is : IsPlaceOf (context_after kind text count) place = subst (λ (n : ℕ). IsPlaceOf (context_after kind text n) place) here in_context.in_context in
    let gone : IsPlaceOf (context_after kind text (suc count)) next =
    subst (λ (l : List ℕ). IsPlaceOf (next_context (context_after kind text count) l) next) same (go (context_after kind text count) is) in
    record {
      version = subst (IsVersionOf (head_of kind) text) (sym version) in_context.version;
      in_context = subst (λ (n : ℕ). IsPlaceOf (context_after kind text n) next) there gone;
    }

-- after its header a program is among its lines
record IsAmongLines (context : Context) : Type 0 where
  instructions : ℕ
  labels : ℕ
  same : context ≡ AmongLines instructions labels

lines_by : (instructions labels : ℕ) (test : Bool) → IsAmongLines (if test then AmongLines instructions (labels + 1) else AmongLines (instructions + 1) labels)
lines_by instructions labels true = record { instructions = instructions; labels = labels + 1; same = refl }
lines_by instructions labels false = record { instructions = instructions + 1; labels = labels; same = refl }

among_lines : (text : List ℕ) (count : ℕ) → IsAmongLines (context_after kinds.Program text (suc count))
among_lines text zero = record { instructions = 0; labels = 0; same = refl }
among_lines text (suc count) =
    let before = among_lines text count in
    let line = first_line (after_lines (suc count) text) in
    subst (λ (context : Context). IsAmongLines (next_context context line)) (sym before.same) (lines_by before.instructions before.labels (begins_label line))

-- a label that is nowhere is one of a program, after the header
label_of_program : (kind : Kind) (text : List ℕ) (line : ℕ) → IsAtFault kind text (NoLabel line) → (kind ≡ kinds.Program) × (2 ≤ line)
label_of_program kinds.Schedule text line (inl header) = absurd header
label_of_program kinds.Schedule text line (inr found) = absurd found.3.fault_after.1
label_of_program kinds.Walk text line (inl header) = absurd header
label_of_program kinds.Walk text line (inr found) = elim found.3 [ inl among ↦ absurd among.fault_after | inr later ↦ absurd later.4.fault_after.1 ]
label_of_program kinds.Program text line (inl header) = absurd header
label_of_program kinds.Program text line (inr found) = (refl, omega (arith, found.3.first.same))

in_context_at_label : (text : List ℕ) (kind : Kind) (line : ℕ) (place link : Place) → kind ≡ kind_of text → IsAtFault kind text (NoLabel line) → IsPlaceAt text line place → link.version ≡ place.version → link.part ≡ parts.Link → IsPlaceAt text line link
in_context_at_label text kind line place link is fault in_context version part =
    let of = label_of_program kind text line fault in
    let program : kind_of text ≡ kinds.Program = sym is ∙ of.0 in
    let number : suc (line - 2) ≡ line - 1 = omega (arith, of.1) in
    let among = among_lines text (line - 2) in
    let here : IsPlaceOf (context_after kinds.Program text (suc (line - 2))) link =
    subst (λ (context : Context). IsPlaceOf context link) (sym among.same) (inr part) in
    record {
      version = subst (IsVersionOf (head_of (kind_of text)) text) (sym version) in_context.version;
      in_context = subst (λ (k : Kind). IsPlaceOf (context_after k text (line - 1)) link) (sym program)
          (subst (λ (n : ℕ). IsPlaceOf (context_after kinds.Program text n) link) number here);
    }

-- the place of a line at fault
pub in_context_at_fault : (text : List ℕ) (kind : Kind) (fault : Fault) (place next : Place) → kind ≡ kind_of text → IsAtFault kind text fault → IsPlaceAt text (line_of fault) place → next.version ≡ place.version
    → ((line : ℕ) → fault ≡ NoLabel line → next.part ≡ parts.Link) → (((line : ℕ) → fault ≢ NoLabel line) → next ≡ place) → IsPlaceAt text (line_of fault) next
in_context_at_fault text kind (NoLabel line) place next is fault in_context version label other = in_context_at_label text kind line place next is fault in_context version (label line refl)
in_context_at_fault text kind (NotALine number) place next is fault in_context version label other = subst (IsPlaceAt text number) (sym (other (λ line e. absurd (cc)))) in_context
in_context_at_fault text kind (TooLong number) place next is fault in_context version label other = subst (IsPlaceAt text number) (sym (other (λ line e. absurd (cc)))) in_context
in_context_at_fault text kind _ place next is fault in_context version label other = subst (IsPlaceAt text 0) (sym (other (λ line e. absurd (cc)))) in_context

-- a reported line is at fault
pub wrong_line : (text : List ℕ) (place : Place) (line : TextLine) → IsPlaceAt text line.number place → IsLineAt text line
    → ((context : Context) → IsPlaceOf context place → IsWrong place.version text line.number context line.bytes.now line.is_ended) → IsWrongLine text line.number
wrong_line text place line in_context at wrong =
    let context = context_after (kind_of text) text (line.number - 1) in
    record {
      past_first = at.past_first;
      there = at.there;
      version = place.version;
      of_text = in_context.version;
      wrong = subst (λ (ended : Bool). IsWrong place.version text line.number context (line_at line.number text) ended) at.ended
          (subst (λ (bytes : List ℕ). IsWrong place.version text line.number context bytes line.is_ended) at.bytes (wrong context in_context.in_context));
    }

abbrev ended_in : List ℕ → Bool
ended_in left = is_some (after_line left)

-- the first line of what follows some lines
pub line_there : (text left : List ℕ) (before : ℕ) (line : TextLine) → left ≡ after_lines before text → left ≢ [] → 1 ≤ before → line.number ≡ before + 1 → line.bytes.now ≡ first_line left → line.is_ended ≡ ended_in left → IsLineAt text line
line_there text left before line at more some number bytes ended =
    let same : line.number - 1 ≡ before = omega (arith, number) in
    record {
      past_first = omega (arith, some, number);
      there = λ none.
          more (at ∙ ap (λ (n : ℕ). after_lines n text) (sym same) ∙ none);
      bytes = bytes ∙ ap first_line at ∙ ap (λ (n : ℕ). first_line (after_lines n text)) (sym same);
      ended = ended ∙ ap ended_in at ∙ ap (λ (n : ℕ). ended_in (after_lines n text)) (sym same);
    }
