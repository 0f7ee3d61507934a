-- The line at which a text is at fault is so at fault in its context.
use Rattle.std.proofs.Common.{◌≡◌, ◌≢◌, ◌∙◌, ℕ, suc, ◌+◌, ◌-◌, ◌<◌, ◌≤◌, Bool, true, false, List, [], ◌∷◌, ◌++◌, Option, Some, None, IfSome, is_some, length, ap, sym, subst, refl, inl, inr, arith}
use Rattle.tx_check.proofs.EndedLines.{after_ended, all_at}
use Rattle.tx_check.proofs.LabelsFound.{label_at, later_is, HasLines}
use Rattle.tx_check.proofs.LeftOut.{many_there}
use Rattle.tx_check.proofs.Growing.{after_first, left_among}
use Rattle.tx_check.proofs.Linked.{has_all, user_nowhere}
use Rattle.tx_check.proofs.NextLines.{header_right}
use Rattle.tx_check.proofs.ShortLines.{short_header, short_line}
use Rattle.tx_check.proofs.Wronged.{none_there, second, too_many}
use Rattle.tx_check.specs.AfterHeader.{IsFaultAt, IsNoLineAt}
use Rattle.tx_check.specs.Kinds.{head_of, kind_of}
use Rattle.tx_check.specs.Numbered.{after_lines, behind, behind_by, line_at}
use Rattle.tx_check.specs.Reads.{Finds, IsAtFault}
use Rattle.tx_check.specs.Contexts.{context_after, next_context, AtHeader, IsPlaceAt, IsPlaceOf}
use Rattle.tx_check.specs.Wrong.{has_end, IsFaultIn, IsNoLabelIn, IsNoLineIn, IsOneTooMany, IsTooManyAfter, IsWrongIn, NoEnd, Other, Second}
use Rattle.tx_check.specs.declared.kinds.Kind.{Kind}
use Rattle.tx_check.specs.declared.kinds.Kind.TheVariants as kinds
use Rattle.tx_check.specs.declared.places.Part.TheVariants as parts
use Rattle.tx_check.specs.declared.places.Place.{Place}
use Rattle.tx_check.specs.declared.places.TextLine.{TextLine}
use Rattle.tx_lines.specs.Lines.{header_text}
use Rattle.tx_lines.specs.Programs.{line_text, FaultsAtLabel, IsLineOf, IsProgramFault}
use Rattle.tx_lines.specs.Schedule.{after_line, first_line, FaultsAtHeader, SpellsHeader}
use Rattle.tx_lines.specs.declared.faults.Fault.{Fault}
use Rattle.tx_lines.specs.declared.faults.Fault.TheVariants.{NotALine, NoLabel, TooLong}
use Rattle.tx_lines.specs.declared.instructions.Line.{Line}
use Rattle.tx_lines.specs.declared.read.header.Header.{Header}
use Rattle.tx_lines.specs.declared.read.header.TextKind.{TextKind}
use Rattle.tx_lines.specs.declared.read.header.TextKind.TheVariants as texts
use Rattle.tx_lines.specs.declared.read.header.Version.{Version}
use Rattle.tx_lines.specs.declared.read.header.Version.TheVariants.{Two}

abbrev ended_in : List ℕ → Bool
ended_in left = is_some (after_line left)

-- at the header
no_line_first : (text : List ℕ) (fault : Fault) → length (first_line text) ≤ 512 → FaultsAtHeader (head_of (kind_of text)) text fault → IsNoLineIn text 1
no_line_first text fault short is = record {
  short = short;
  room = λ many. many;
  version = Two;
  of_text = inr ((λ header rest spells. header_right (head_of (kind_of text)) text header rest fault spells is), refl);
  wrong = Other tt;
}

first_in : (text : List ℕ) (fault : Fault) → FaultsAtHeader (head_of (kind_of text)) text fault → IsFaultIn text fault
first_in text (TooLong line) is = inl (subst (λ (n : ℕ). 512 < length (line_at n text)) (sym is.0) is.1)
first_in text (NotALine line) is = subst (IsNoLineIn text) (sym is.0) (no_line_first text (NotALine line) is.1 is)
first_in text _ is = absurd is

pub header_there : (kind : Kind) (text : List ℕ) (fault : Fault) → kind ≡ kind_of text → FaultsAtHeader (head_of kind) text fault → IsFaultIn text fault
header_there kind text fault same is = first_in text fault (subst (λ (k : Kind). FaultsAtHeader (head_of k) text fault) same is)

-- after it: the context of the first line there
pub after_is : (kind : TextKind) (text : List ℕ) (header : Header) (rest : List ℕ) → SpellsHeader kind text header rest → rest ≡ after_lines 1 text
after_is kind text header rest spells =
    sym (ap behind spells.spelled ∙ ap behind_by (after_ended (header_text kind header) rest (short_header kind header spells.fits).in_line))

pub in_context_second : (kind : Kind) (text : List ℕ) (header : Header) (rest : List ℕ) (place : Place) → kind ≡ kind_of text → SpellsHeader (head_of kind) text header rest
    → place.version ≡ header.version
    → ((line : List ℕ) → IsPlaceOf (next_context (AtHeader (head_of kind)) line) place) → IsPlaceAt text 2 place
in_context_second kind text header rest place is spells version in_context = record {
  version = inl (header, rest, subst (λ (k : Kind). SpellsHeader (head_of k) text header rest) is spells, version);
  in_context = subst (λ (k : Kind). IsPlaceOf (next_context (AtHeader (head_of k)) (first_line text)) place) is (in_context (first_line text));
}

-- the fault of the line at a place
record IsLineOfText (text : List ℕ) (number : ℕ) (place : Place) (line : TextLine) : Type 0 where
  in_context : IsPlaceAt text number place
  other : place.part ≢ parts.Link
  same : line.number ≡ number
  bytes : line.bytes.now ≡ line_at number text
  ended : line.is_ended ≡ has_end number text

too_many_in : (text : List ℕ) (number : ℕ) (place : Place) (line : TextLine) → IsLineOfText text number place line
    → IsOneTooMany (context_after (kind_of text) text (number - 1)) line.bytes.now → IsTooManyAfter text (number - 1)
too_many_in text number place line is many =
    subst (λ (bytes : List ℕ). IsOneTooMany (context_after (kind_of text) text (number - 1)) bytes) is.bytes many

wrong_at : (text : List ℕ) (number : ℕ) (place : Place) (line : TextLine) → IsLineOfText text number place line → IsNoLineAt text place line
    → IsWrongIn place.version text line.number (context_after (kind_of text) text (number - 1)) line.bytes.now line.is_ended
wrong_at text number place line is (inl none) = NoEnd none
wrong_at text number place line is (inr (inl none)) =
    Other (none_there place.version (context_after (kind_of text) text (number - 1)) place line.bytes.now is.in_context.in_context none)
wrong_at text number place line is (inr (inr twice)) =
    Second (second text line.number (context_after (kind_of text) text (number - 1)) place line.bytes.now is.in_context.in_context (inl twice.0) twice.1)

wrong_in : (text : List ℕ) (number : ℕ) (place : Place) (line : TextLine) → IsLineOfText text number place line → IsNoLineAt text place line
    → IsWrongIn place.version text number (context_after (kind_of text) text (number - 1)) (line_at number text) (has_end number text)
wrong_in text number place line is why =
    let context = context_after (kind_of text) text (number - 1) in
    subst (λ (n : ℕ). IsWrongIn place.version text n context (line_at number text) (has_end number text)) is.same
    (subst (λ (ended : Bool). IsWrongIn place.version text line.number context (line_at number text) ended) is.ended
    (subst (λ (bytes : List ℕ). IsWrongIn place.version text line.number context bytes line.is_ended) is.bytes (wrong_at text number place line is why)))

fault_in : (text : List ℕ) (number : ℕ) (place : Place) (line : TextLine) (fault : Fault) → IsLineOfText text number place line → IsFaultAt text place line fault → IsFaultIn text fault
fault_in text number place line (TooLong found) is at =
    let context = context_after (kind_of text) text (number - 1) in
    subst (λ (n : ℕ). IsFaultIn text (TooLong n)) (sym is.same ∙ sym at.0) (elim at.1 [
      | inl long ↦ inl (omega (arith, long, ap length is.bytes))
      | inr many ↦ inr (too_many_in text number place line is (too_many context place line.bytes.now is.in_context.in_context many))
    ])
fault_in text number place line (NotALine found) is at =
    let context = context_after (kind_of text) text (number - 1) in
    subst (IsNoLineIn text) (sym is.same ∙ sym at.0) (record {
      short = omega (arith, at.1, ap length is.bytes);
      room = λ many.
          at.2 (many_there context place line.bytes.now is.in_context.in_context is.other (subst (λ (bytes : List ℕ). IsOneTooMany context bytes) (sym is.bytes) many));
      version = place.version;
      of_text = is.in_context.version;
      wrong = wrong_in text number place line is at.3;
    })
fault_in text number place line _ is at = absurd at

pub fault_there : (text left : List ℕ) (place : Place) (line : TextLine) (fault : Fault) → IsPlaceAt text line.number place → place.part ≢ parts.Link → left ≡ after_lines (line.number - 1) text
    → line.bytes.now ≡ first_line left → line.is_ended ≡ is_some (after_line left) → IsFaultAt text place line fault → IsFaultIn text fault
fault_there text left place line fault in_context other at bytes ended is =
    fault_in text line.number place line fault
    (record { in_context = in_context; other = other; same = refl; bytes = bytes ∙ ap first_line at; ended = ended ∙ ap ended_in at }) is

-- a label that is nowhere
ended_at : (version : Version) (text : List ℕ) (before : List Line) (one : Line) (after : List Line) (number : ℕ) → HasLines version text (before ++ one ∷ after) []
    → number ≡ length before + 2 → IsLineOf version one
    → has_end number text ≡ true
ended_at version text before one after number has at good =
    let here : number - 1 ≡ suc (length before) = omega (arith, at) in
    ap (λ (n : ℕ). ended_in (after_lines n text)) here
    ∙ ap ended_in (later_is version text (before ++ one ∷ after) [] (length before) has)
    ∙ ap ended_in (left_among version before one after [] has.fit)
    ∙ ap is_some (after_first version one after [] good)

label_is : (text : List ℕ) (header : Header) (rest : List ℕ) (number : ℕ) → kinds.Program ≡ kind_of text → SpellsHeader texts.Program text header rest
    → FaultsAtLabel header.version rest number → IsNoLabelIn text number
label_is text header rest number is spells fault =
    let first = fault.first in
    let version = header.version in
    let all = has_all version text rest header fault.lines spells fault.good fault.spelled in
    let has = subst (λ (ls : List Line). HasLines version text ls []) first.parts all in
    let good = all_at (IsLineOf version) first.before first.user first.after has.fit in
    let here : line_at number text ≡ line_text first.user =
    ap (λ (n : ℕ). line_at n text) first.same ∙ label_at version text first.before first.user first.after [] has in
    let ended = ended_at version text first.before first.user first.after number has first.same good in
    record {
      short = omega (arith, ap length here, (short_line version first.user good).few);
      ended = ended;
      unlinked = record {
        there = λ none. let bad : true ≡ false = sym ended ∙ ap ended_in none in absurd (cc);
        version = version;
        of_text = inl (header, rest, subst (λ (k : Kind). SpellsHeader (head_of k) text header rest) is spells, refl);
        one = first.user;
        good = good;
        spelled = here;
        nowhere = user_nowhere version text fault.lines first.user all first.nowhere;
      };
    }

by_label : (text : List ℕ) (fault : Fault) → kinds.Program ≡ kind_of text → IsAtFault kinds.Program text fault → (line : ℕ) × (fault ≡ NoLabel line) → IsFaultIn text fault
by_label text fault is at label = subst (IsFaultIn text) (sym label.1) (of_label (subst (IsProgramFault text) label.1 at))
  where
    of_label : IsProgramFault text (NoLabel label.0) → IsNoLabelIn text label.0
    of_label (inl header) = absurd header
    of_label (inr found) = label_is text found.0 found.1 label.0 is found.2 found.3

pub label_there : (text : List ℕ) (found : Option Fault) → kinds.Program ≡ kind_of text → Finds kinds.Program text found → IfSome found (λ fault. (line : ℕ) × (fault ≡ NoLabel line)) → IfSome found (IsFaultIn text)
label_there text None is at label = tt
label_there text (Some fault) is at label = by_label text fault is at label
