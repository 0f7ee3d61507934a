-- What is found of the line of a fault, at its place, is of the fault's kind, and something is found.
use Rattle.std.proofs.Common.{◌≡◌, ◌≢◌, ◌∙◌, ◌⊎◌, ℕ, ◌-◌, ◌<◌, Bool, true, false, List, is_some, length, ap, sym, subst, refl, inl, inr, arith}
use Rattle.tx_check.proofs.LeftOut.{many_there, not_wrong, one_version}
use Rattle.tx_check.proofs.Wronged.{too_many}
use Rattle.tx_check.specs.Diagnostics.{kind_of_fault}
use Rattle.tx_check.specs.AfterHeader.{IsQuietAt}
use Rattle.tx_check.specs.Kinds.{head_of, kind_of}
use Rattle.tx_check.specs.Numbered.{line_at}
use Rattle.tx_check.specs.Reads.{line_of}
use Rattle.tx_check.specs.Right.{IsNoneThere, IsTooMany}
use Rattle.tx_check.specs.Speaking.{FaultKind, IsKindAt, OfGrammar, OfLabel, OfLength}
use Rattle.tx_check.specs.Contexts.{context_after, IsPlaceAt}
use Rattle.tx_check.specs.Wrong.{has_end, IsFaultIn, IsNoLabelIn, IsNoLineIn, IsOneTooMany, IsTooManyAfter, IsWrongIn}
use Rattle.tx_check.specs.declared.places.Part.{Part}
use Rattle.tx_check.specs.declared.places.Part.TheVariants as parts
use Rattle.tx_check.specs.declared.places.Place.{Place}
use Rattle.tx_check.specs.declared.places.TextLine.{TextLine}
use Rattle.tx_lines.specs.Programs.{IsLineOf}
use Rattle.tx_lines.specs.Schedule.{after_line}
use Rattle.tx_lines.specs.declared.faults.Fault.{Fault}
use Rattle.tx_lines.specs.declared.faults.Fault.TheVariants.{NotALine, NoLabel, TooLong}
use Rattle.tx_lines.specs.declared.read.header.Version.{Version}

abbrev pub ended_in : List ℕ → Bool
ended_in left = is_some (after_line left)

-- that line of the text, at its place
pub record IsThere (text : List ℕ) (number : ℕ) (place : Place) (line : TextLine) : Type 0 where
  pub in_context : IsPlaceAt text number place
  pub same : line.number ≡ number
  pub bytes : line.bytes.now ≡ line_at number text
  pub ended : line.is_ended ≡ has_end number text

many_in : (text : List ℕ) (number : ℕ) (place : Place) (line : TextLine) → IsThere text number place line → place.part ≢ parts.Link → IsTooManyAfter text (number - 1)
    → IsTooMany place.part place.count place.labels line.bytes.now
many_in text number place line is other many =
    let context = context_after (kind_of text) text (number - 1) in
    many_there context place line.bytes.now is.in_context.in_context other (subst (λ (bytes : List ℕ). IsOneTooMany context bytes) (sym is.bytes) many)

many_out : (text : List ℕ) (number : ℕ) (place : Place) (line : TextLine) → IsThere text number place line → IsTooMany place.part place.count place.labels line.bytes.now
    → IsTooManyAfter text (number - 1)
many_out text number place line is many =
    let context = context_after (kind_of text) text (number - 1) in
    subst (λ (bytes : List ℕ). IsOneTooMany context bytes) is.bytes (too_many context place line.bytes.now is.in_context.in_context many)

long_kind : (text : List ℕ) (number : ℕ) (place : Place) (line : TextLine) (kind : FaultKind) → IsThere text number place line → place.part ≢ parts.Link
    → (512 < length (line_at number text)) ⊎ IsTooManyAfter text (number - 1)
    → IsKindAt place text line.number line.bytes.now line.is_ended kind → kind ≡ OfLength
long_kind text number place line OfLength is other long found = refl
long_kind text number place line OfLabel is other long found = absurd (other found.0)
long_kind text number place line OfGrammar is other (inl long) found = absurd (omega (arith, long, found.0, ap length is.bytes))
long_kind text number place line OfGrammar is other (inr many) found = absurd (found.1 (many_in text number place line is other many))

line_kind : (text : List ℕ) (number : ℕ) (place : Place) (line : TextLine) (kind : FaultKind) → IsThere text number place line → place.part ≢ parts.Link → IsNoLineIn text number
    → IsKindAt place text line.number line.bytes.now line.is_ended kind → kind ≡ OfGrammar
line_kind text number place line OfGrammar is other fault found = refl
line_kind text number place line OfLabel is other fault found = absurd (other found.0)
line_kind text number place line OfLength is other fault (inl long) = absurd (omega (arith, long, fault.short, ap length is.bytes))
line_kind text number place line OfLength is other fault (inr many) = absurd (fault.room (many_out text number place line is many))

same_version : (text : List ℕ) (number : ℕ) (place : Place) (fault : IsNoLabelIn text number) → IsPlaceAt text number place → IsLineOf place.version fault.unlinked.one
same_version text number place fault in_context =
    let wrong = fault.unlinked in
    subst (λ (v : Version). IsLineOf v wrong.one) (one_version (head_of (kind_of text)) text wrong.version place.version wrong.of_text in_context.version) wrong.good

label_kind : (text : List ℕ) (number : ℕ) (place : Place) (line : TextLine) (kind : FaultKind) → IsThere text number place line → place.part ≡ parts.Link → IsNoLabelIn text number
    → IsKindAt place text line.number line.bytes.now line.is_ended kind → kind ≡ OfLabel
label_kind text number place line OfLabel is link fault found = refl
label_kind text number place line OfLength is link fault (inl long) = absurd (omega (arith, long, fault.short, ap length is.bytes))
label_kind text number place line OfLength is link fault (inr many) =
    absurd (subst (λ (part : Part). IsTooMany part place.count place.labels line.bytes.now) link many)
label_kind text number place line OfGrammar is link fault found = elim found.2 [
  | inl none ↦
      let here = subst (λ (part : Part). IsNoneThere part place.version line.bytes.now) link none in
      absurd (here fault.unlinked.one (same_version text number place fault is.in_context) (is.bytes ∙ fault.unlinked.spelled))
  | inr other ↦ elim other [
    | inl twice ↦ let bad : parts.ProgramLine ≡ parts.Link = sym twice.0 ∙ link in absurd (cc)
    | inr none ↦ let bad : true ≡ false = sym fault.ended ∙ sym is.ended ∙ none in absurd (cc)
  ]
]

-- something is found
never_long : (text : List ℕ) (number : ℕ) (place : Place) (line : TextLine) → IsThere text number place line → place.part ≢ parts.Link
    → (512 < length (line_at number text)) ⊎ IsTooManyAfter text (number - 1)
    → IsQuietAt text place line → ⊥
never_long text number place line is other (inl long) quiet = omega (arith, long, quiet.may.short, ap length is.bytes)
never_long text number place line is other (inr many) quiet = quiet.may.room (many_in text number place line is other many)

never_line : (text : List ℕ) (number : ℕ) (place : Place) (line : TextLine) → IsThere text number place line → place.part ≢ parts.Link → IsNoLineIn text number → IsQuietAt text place line → ⊥
never_line text number place line is other fault quiet =
    let context = context_after (kind_of text) text (number - 1) in
    let version = one_version (head_of (kind_of text)) text fault.version place.version fault.of_text is.in_context.version in
    not_wrong text context place line is.in_context.in_context other quiet.may
    (subst (λ (v : Version). IsWrongIn v text line.number context line.bytes.now line.is_ended) version
    (subst (λ (n : ℕ). IsWrongIn fault.version text n context line.bytes.now line.is_ended) (sym is.same)
    (subst (λ (ended : Bool). IsWrongIn fault.version text number context line.bytes.now ended) (sym is.ended)
    (subst (λ (bytes : List ℕ). IsWrongIn fault.version text number context bytes (has_end number text)) (sym is.bytes) fault.wrong))))

never_label : (text : List ℕ) (number : ℕ) (place : Place) (line : TextLine) → IsThere text number place line → place.part ≡ parts.Link → IsNoLabelIn text number → IsQuietAt text place line → ⊥
never_label text number place line is link fault quiet =
    let wrong = fault.unlinked in
    quiet.linked link wrong.one (same_version text number place fault is.in_context) (is.bytes ∙ wrong.spelled) wrong.nowhere

-- what is found, if anything is
by_long : (text : List ℕ) (number : ℕ) (place : Place) (line : TextLine) (kind : FaultKind) → IsThere text number place line → place.part ≢ parts.Link
    → (512 < length (line_at number text)) ⊎ IsTooManyAfter text (number - 1)
    → IsKindAt place text line.number line.bytes.now line.is_ended kind ⊎ IsQuietAt text place line → kind ≡ OfLength
by_long text number place line kind is other fault (inl found) = long_kind text number place line kind is other fault found
by_long text number place line kind is other fault (inr quiet) = absurd (never_long text number place line is other fault quiet)

by_line : (text : List ℕ) (number : ℕ) (place : Place) (line : TextLine) (kind : FaultKind) → IsThere text number place line → place.part ≢ parts.Link → IsNoLineIn text number
    → IsKindAt place text line.number line.bytes.now line.is_ended kind ⊎ IsQuietAt text place line → kind ≡ OfGrammar
by_line text number place line kind is other fault (inl found) = line_kind text number place line kind is other fault found
by_line text number place line kind is other fault (inr quiet) = absurd (never_line text number place line is other fault quiet)

by_label : (text : List ℕ) (number : ℕ) (place : Place) (line : TextLine) (kind : FaultKind) → IsThere text number place line → place.part ≡ parts.Link → IsNoLabelIn text number
    → IsKindAt place text line.number line.bytes.now line.is_ended kind ⊎ IsQuietAt text place line → kind ≡ OfLabel
by_label text number place line kind is link fault (inl found) = label_kind text number place line kind is link fault found
by_label text number place line kind is link fault (inr quiet) = absurd (never_label text number place line is link fault quiet)

pub kind_found : (text : List ℕ) (fault : Fault) (place : Place) (line : TextLine) (kind : FaultKind) → IsFaultIn text fault → IsThere text (line_of fault) place line
    → ((number : ℕ) → fault ≡ NoLabel number → place.part ≡ parts.Link) → (((number : ℕ) → fault ≢ NoLabel number) → place.part ≢ parts.Link)
    → IsKindAt place text line.number line.bytes.now line.is_ended kind ⊎ IsQuietAt text place line → kind ≡ kind_of_fault fault
kind_found text (TooLong number) place line kind fault is label other found = by_long text number place line kind is (other (λ n e. absurd (cc))) fault found
kind_found text (NotALine number) place line kind fault is label other found = by_line text number place line kind is (other (λ n e. absurd (cc))) fault found
kind_found text (NoLabel number) place line kind fault is label other found = by_label text number place line kind is (label number refl) fault found
kind_found text _ place line kind fault is label other found = absurd fault
