-- The own lines of a text, and what is reported of them.
use Rattle.std.proofs.Common.{◌≡◌, ◌∙◌, ◌⊎◌, ◌<◌, ◌≤◌, ℕ, inl, inr, zero, suc, ◌+◌, ◌-◌, List, [], ◌∷◌, Option, Some, None, Result, Ok, Err, IfOk, length, ap, subst, sym, refl, arith, zero-add, Bool, true, false, if◌then◌else◌, slice_index_or}
use Rattle.std.proofs.lemmas.Bool.{cases_lt, ne_eqb}
use Rattle.tx_check.proofs.ReadOrFaulty.{none_has_two}
use Rattle.tx_check.specs.Kinds.{kind_of}
use Rattle.tx_check.specs.Numbered.{after_lines, behind, line_at}
use Rattle.tx_check.specs.OwnLines.{GoesOn, IsFrom, IsWrongAfter}
use Rattle.tx_check.specs.Reads.{line_of, IsAtFault, IsRead}
use Rattle.tx_check.specs.Diagnostics.{IsReportBy, IsWrongOwn, Reports, ReportsFrom}
use Rattle.tx_check.specs.Wrong.{IsWrongAfterFault, IsWrongLine, IsWrongToo}
use Rattle.tx_check.specs.declared.kinds.Kind.{Kind}
use Rattle.tx_check.specs.declared.own.TextFrom.{TextFrom}
use Rattle.tx_check.specs.declared.places.Part.{Part}
use Rattle.tx_check.proofs.Appended.{fewer, last_known, more_reported}
use Rattle.tx_check.proofs.ReportedOf.{are_one, fault_report}
use Rattle.tx_lines.specs.Schedule.{first_line}
use Rattle.tx_lines.specs.declared.faults.Fault.{Fault}
use Rattle.tx_lines.specs.declared.faults.Fault.TheVariants.{NotALine, NoLabel, TooLong}
use Rattle.tx_translate.specs.Lines.{plain_line, stage_after}
use Rattle.tx_translate.specs.Meant.{fault_by, meant_of, own_line, IsOwnFault}
use Rattle.tx_translate.specs.MeantLines.{left_of}
use Rattle.tx_translate.specs.declared.meant_lines.MeantLines.{MeantLines}
use Rattle.tx_translate.specs.OwnLines.{own_lines}
use Rattle.tx_translate.specs.Plain.{is_third, line_among, numbered, numbers_from}
use Rattle.tx_translate.specs.Words.{words_in}
use Rattle.tx_translate.specs.declared.stage.Stage.{Stage}
use Rattle.tx_translate.specs.declared.stage.Stage.TheVariants.{Heading}

pub lines_after : (more count : ℕ) (text : List ℕ) → after_lines more (after_lines count text) ≡ after_lines (more + count) text
lines_after zero count text = rw zero-add refl
lines_after (suc more) count text =
    let one : suc more + count ≡ suc (more + count) = omega arith in rw one (ap behind (lines_after more count text))

-- a text from a later line on
pub moved : (text : List ℕ) (from next : TextFrom) → IsFrom text from → from.number ≤ next.number → next.left.now ≡ after_lines (next.number - from.number) from.left.now → IsFrom text next
moved text from next is after left =
    let some = is.some in
    let whole : (next.number - from.number) + (from.number - 1) ≡ next.number - 1 = omega (arith, some, after) in
    record {
      some = omega (arith, some, after);
      left = left ∙ ap (after_lines (next.number - from.number)) is.left ∙ lines_after (next.number - from.number) (from.number - 1) text ∙ ap (λ (n : ℕ). after_lines n text) whole;
    }

-- a line more that is wanted
wanted_on : (line number : ℕ) (P : Type 0) → (number ≤ line) × P → ((number ≤ line - 1) × P) ⊎ (number ≡ line)
wanted_on line number P wanted =
    elim (cases_lt number line) [ inl before ↦ inl (omega (arith, before), wanted.1) | inr here ↦ inr (omega (arith, here, wanted.0)) ]

-- the report on a later line
pub goes_on : (part : Part) (meant : MeantLines) (line own : ℕ) (from next : TextFrom) (number : ℕ) (bytes old new : List ℕ) → from.number < next.number
    → next.left.now ≡ after_lines (next.number - from.number) from.left.now → number ≡ next.number
    → bytes ≡ first_line next.left.now → next.number ≡ own → IsWrongLine (left_of meant) line → Reports number bytes old new → GoesOn part meant line own from next old new
goes_on part meant line own from next number bytes old new after left at same here wrong reports = λ text is_meant is_own before is.
    let there = moved text from next is (omega (arith, after)) left in
    let spelled : bytes ≡ line_at next.number text = same ∙ ap first_line there.left in
    let report = subst (λ (n : ℕ). Reports n bytes old new) at reports in
    let whose : own_line text line ≡ next.number = sym is_own ∙ sym here in
    let is_wrong : IsWrongOwn text next.number = record {
      meant = line;
      own = whose;
      wrong = subst (λ (bs : List ℕ). IsWrongLine bs line) is_meant wrong;
    } in
    record {
      is = there;
      up_to = omega (arith, whose);
      on = λ passed first up_to.
          more_reported (λ n. (n ≤ line - 1) × IsWrongAfter part passed (meant_of text) n) (λ n. (n ≤ line) × IsWrongAfter part passed (meant_of text) n) text bytes first from.number next.number old new
          (λ n wanted. elim (wanted_on line n (IsWrongAfter part passed (meant_of text) n) wanted) [ inl earlier ↦ inl earlier | inr last ↦ inr (ap (own_line text) last ∙ whose) ])
          spelled is_wrong report after up_to;
    }

-- where the line is reported already
pub is_reported : (part : Part) (meant : MeantLines) (line own : ℕ) (from : TextFrom) (report : List ℕ) → own ≤ from.number → GoesOn part meant line own from from report report
is_reported part meant line own from report already = λ text is_meant is_own before is. record {
  is = is;
  up_to = omega (arith, before, is_own);
  on = λ passed first up_to.
      last_known (λ n. (n ≤ line - 1) × IsWrongAfter part passed (meant_of text) n) (λ n. (n ≤ line) × IsWrongAfter part passed (meant_of text) n) text first from.number report
      (λ n wanted. elim (wanted_on line n (IsWrongAfter part passed (meant_of text) n) wanted) [
        | inl earlier ↦ inl earlier
        | inr last ↦ inr (ap (own_line text) last ∙ omega (arith, already, before, is_own))
      ])
      up_to;
}

-- where nothing must be reported of it
pub is_quiet : (part : Part) (meant : MeantLines) (line own : ℕ) (from : TextFrom) (report : List ℕ) → ((passed : ℕ) → IsWrongAfter part passed (left_of meant) line → ⊥)
    → GoesOn part meant line own from from report report
is_quiet part meant line own from report quiet = λ text is_meant is_own before is. record {
  is = is;
  up_to = omega (arith, before, is_own);
  on = λ passed first up_to.
      last_known (λ n. (n ≤ line - 1) × IsWrongAfter part passed (meant_of text) n) (λ n. (n ≤ line) × IsWrongAfter part passed (meant_of text) n) text first from.number report
      (λ n wanted. elim (wanted_on line n (IsWrongAfter part passed (meant_of text) n) wanted) [
        | inl earlier ↦ inl earlier
        | inr last ↦ absurd (quiet passed (subst (λ (bytes : List ℕ). IsWrongAfter part passed bytes line) (sym is_meant) (subst (IsWrongAfter part passed (meant_of text)) last wanted.1)))
      ])
      up_to;
}

-- the numbers of the lines that mean one rise
numbered_low : (number : ℕ) (found : Option (List ℕ)) (numbers : List ℕ) (after : ℕ) → ((k : ℕ) → number + 1 ≤ slice_index_or numbers k after) → (k : ℕ)
    → number ≤ slice_index_or (numbered number found numbers) k after
numbered_low number None numbers after all k = omega (arith, all k)
numbered_low number (Some line) numbers after all zero = omega arith
numbered_low number (Some line) numbers after all (suc k) = omega (arith, all k)

pub numbers_low : (stage : Stage) (number : ℕ) (lines : List (List ℕ)) (after : ℕ) → number + length lines ≤ after → (k : ℕ) → number ≤ slice_index_or (numbers_from stage number lines) k after
numbers_low stage number [] after few k = omega (arith, few)
numbers_low stage number (line ∷ lines) after few k =
    numbered_low number (plain_line stage line) (numbers_from (stage_after stage (words_in line)) (number + 1) lines) after
    (numbers_low (stage_after stage (words_in line)) (number + 1) lines after (omega (arith, few))) k

numbered_rise : (number : ℕ) (found : Option (List ℕ)) (numbers : List ℕ) (after : ℕ) → ((k : ℕ) → number + 1 ≤ slice_index_or numbers k after)
    → ((k j : ℕ) → k ≤ j → slice_index_or numbers k after ≤ slice_index_or numbers j after)
    → (k j : ℕ) → k ≤ j → slice_index_or (numbered number found numbers) k after ≤ slice_index_or (numbered number found numbers) j after
numbered_rise number None numbers after low rise k j up = rise k j up
numbered_rise number (Some line) numbers after low rise zero j up = numbered_low number (Some line) numbers after low j
numbered_rise number (Some line) numbers after low rise (suc k) zero up = absurd (omega (arith, up))
numbered_rise number (Some line) numbers after low rise (suc k) (suc j) up = rise k j (omega (arith, up))

numbers_rise : (stage : Stage) (number : ℕ) (lines : List (List ℕ)) (after : ℕ) → number + length lines ≤ after → (k j : ℕ) → k ≤ j
    → slice_index_or (numbers_from stage number lines) k after ≤ slice_index_or (numbers_from stage number lines) j after
numbers_rise stage number [] after few k j up = omega arith
numbers_rise stage number (line ∷ lines) after few k j up =
    let later = stage_after stage (words_in line) in
    numbered_rise number (plain_line stage line) (numbers_from later (number + 1) lines) after (numbers_low later (number + 1) lines after (omega (arith, few)))
    (numbers_rise later (number + 1) lines after (omega (arith, few))) k j up

among_rises : (stage : Stage) (lines : List (List ℕ)) (one other : ℕ) → 1 ≤ one → one ≤ other
    → line_among (numbers_from stage 1 lines) (length lines + 1) one ≤ line_among (numbers_from stage 1 lines) (length lines + 1) other
among_rises stage lines zero other some up = absurd (omega (arith, some))
among_rises stage lines (suc one) zero some up = absurd (omega (arith, up))
among_rises stage lines (suc one) (suc other) some up =
    let first = ne_eqb (suc one) 0 (λ e. omega (arith, e)) in
    let second = ne_eqb (suc other) 0 (λ e. omega (arith, e)) in
    rw (first, second) (numbers_rise stage 1 lines (length lines + 1) (omega arith) (suc one - 1) (suc other - 1) (omega (arith, up)))

rises_by : (third : Bool) (lines : List (List ℕ)) (one other : ℕ) → 1 ≤ one → one ≤ other
    → (if third then line_among (numbers_from Heading 1 lines) (length lines + 1) one else one) ≤ (if third then line_among (numbers_from Heading 1 lines) (length lines + 1) other else other)
rises_by true lines one other some up = among_rises Heading lines one other some up
rises_by false lines one other some up = up

pub own_rises : (text : List ℕ) (one other : ℕ) → 1 ≤ one → one ≤ other → own_line text one ≤ own_line text other
own_rises text one other some up = rises_by (is_third text) (own_lines text) one other some up

among_some : (stage : Stage) (lines : List (List ℕ)) (line : ℕ) → 1 ≤ line → 1 ≤ line_among (numbers_from stage 1 lines) (length lines + 1) line
among_some stage lines zero some = absurd (omega (arith, some))
among_some stage lines (suc line) some =
    let other = ne_eqb (suc line) 0 (λ e. omega (arith, e)) in rw other (numbers_low stage 1 lines (length lines + 1) (omega arith) (suc line - 1))

own_by : (third : Bool) (lines : List (List ℕ)) (line : ℕ) → 1 ≤ line → 1 ≤ (if third then line_among (numbers_from Heading 1 lines) (length lines + 1) line else line)
own_by true lines line some = among_some Heading lines line some
own_by false lines line some = some

-- own lines count from 1
pub own_some : (text : List ℕ) (line : ℕ) → 1 ≤ line → 1 ≤ own_line text line
own_some text line some = own_by (is_third text) (own_lines text) line some

-- the own line of a fault
pub own_number : (lines : ℕ → ℕ) (fault : Fault) → 1 ≤ line_of fault → lines (line_of fault) ≡ line_of (fault_by lines fault)
own_number lines (NotALine line) some = refl
own_number lines (NoLabel line) some = refl
own_number lines (TooLong line) some = refl
own_number lines _ some = absurd (omega (arith, some))

-- where fewer lines are wanted
pub report_fewer : {A E : Type 0} (bytes : A → List ℕ) (result : Result A E) (IsWanted IsLess : ℕ → Type 0) (text : List ℕ) (number : ℕ) → ((meant : ℕ) → IsLess meant → IsWanted meant)
    → IfOk result (λ report. ReportsFrom IsWanted text number (bytes report)) → IfOk result (λ report. ReportsFrom IsLess text number (bytes report))
report_fewer bytes (Ok report) IsWanted IsLess text number less reports = fewer IsWanted IsLess text number (bytes report) less reports
report_fewer bytes (Err error) IsWanted IsLess text number less reports = tt

-- the report on a text where the one that it means is at fault
pub fault_reported : {A E : Type 0} (bytes : A → List ℕ) (result : Result A E) (IsWanted : ℕ → Type 0) (kind : Kind) (text : List ℕ) (fault : Fault) (number : ℕ)
    → IsAtFault kind (meant_of text) fault → 1 ≤ line_of fault → number ≡ own_line text (line_of fault)
    → IfOk result (λ report. ReportsFrom IsWanted text number (bytes report)) → IfOk result (λ report. IsReportBy (IsRead kind (meant_of text)) (IsOwnFault (IsAtFault kind) text) IsWanted text (bytes report))
fault_reported bytes (Ok report) IsWanted kind text fault number at_fault some own reports = fault_report IsWanted text (bytes report) (are_one kind text) (record {
  fault = fault_by (own_line text) fault;
  is_fault = record { meant = fault; is_fault = at_fault; own = refl };
  reports = subst (λ (n : ℕ). ReportsFrom IsWanted text n (bytes report)) (own ∙ own_number (own_line text) fault some) reports;
})
fault_reported bytes (Err error) IsWanted kind text fault number at_fault some own reports = tt

-- after the one fault of a text
pub wrong_too : (text : List ℕ) (fault : Fault) → IsAtFault (kind_of text) text fault → (number : ℕ) → IsWrongToo text number → IsWrongAfterFault fault text number
wrong_too text fault is number wrong = subst (λ (f : Fault). IsWrongAfterFault f text number) (none_has_two (kind_of text) text wrong.fault fault wrong.is_fault is) wrong.too
