-- The report on the lines after one of a text, and that it is whole where it ends.
use Rattle.std.proofs.Common.{◌≡◌, ℕ, ◌+◌, ◌-◌, ◌^◌, ◌<◌, ◌≤◌, List, [], subst, inl, inr, arith}
use Rattle.std.proofs.lemmas.Bool.{cases_lt}
use Rattle.tx_check.proofs.Appended.{fewer, last_known}
use Rattle.tx_check.proofs.LeftOut.{none_later, past_all}
use Rattle.tx_check.specs.Kinds.{kind_of}
use Rattle.tx_check.specs.Numbered.{after_lines}
use Rattle.tx_check.specs.OwnLines.{GoesOn, IsFrom, IsWrongAfter, ReportsAfter}
use Rattle.tx_check.specs.Contexts.{context_after, IsPastAll}
use Rattle.tx_check.specs.Diagnostics.{ReportsFrom}
use Rattle.tx_check.specs.declared.own.TextFrom.{TextFrom}
use Rattle.tx_check.specs.declared.places.Part.{Part}
use Rattle.tx_check.specs.declared.places.Part.TheVariants as parts
use Rattle.tx_translate.specs.Meant.{meant_of, own_line}
use Rattle.tx_translate.specs.MeantLines.{left_of}
use Rattle.tx_translate.specs.declared.meant_lines.MeantLines.{MeantLines}

-- both places are such that only labels are checked, or neither is
pub record AreAlike (one other : Part) : Type 0 where
  pub there : one ≡ parts.Link → other ≡ parts.Link
  pub back : other ≡ parts.Link → one ≡ parts.Link

pub turned : (one other : Part) → AreAlike one other → AreAlike other one
turned one other are = record { there = are.back; back = are.there }

wrong_alike : (one other : Part) (passed : ℕ) (text : List ℕ) (number : ℕ) → AreAlike one other → IsWrongAfter one passed text number → IsWrongAfter other passed text number
wrong_alike one other passed text number are wrong =
    (wrong.0, wrong.1, elim wrong.2 [ inl is ↦ inl (are.there is.0, is.1) | inr is ↦ inr (λ link. is.0 (are.back link), is.1) ])

reported_alike : (one other : Part) (passed count : ℕ) (text : List ℕ) (first last : ℕ) (report : List ℕ) → AreAlike one other → ReportsAfter one passed count text first last report
    → ReportsAfter other passed count text first last report
reported_alike one other passed count text first last report are up_to =
    last_known (λ n. (n ≤ count) × IsWrongAfter one passed (meant_of text) n) (λ n. (n ≤ count) × IsWrongAfter other passed (meant_of text) n) text first last report
    (λ n wanted. inl (wanted.0, wrong_alike other one passed (meant_of text) n (turned one other are) wanted.1)) up_to

-- how far a text is reported, after so many lines
pub record IsReportUpTo (part : Part) (passed : ℕ) (text : List ℕ) (own : TextFrom) (old : List ℕ) (before : ℕ) (reached : TextFrom) (report : List ℕ) : Type 0 where
  pub is : IsFrom text reached
  pub low : reached.number ≤ own_line text before
  pub on : (first : ℕ) → ReportsAfter part passed passed text first own.number old → ReportsAfter part passed before text first reached.number report

-- one line later
pub reported_to : (part here : Part) (passed : ℕ) (text : List ℕ) (own : TextFrom) (old : List ℕ) (before number : ℕ) (reached next : TextFrom) (report new : List ℕ) (meant : MeantLines)
    → AreAlike part here → left_of meant ≡ meant_of text
    → number ≡ own_line text (before + 1) → own_line text before ≤ own_line text (before + 1) → GoesOn here meant (before + 1) number reached next report new
    → IsReportUpTo part passed text own old before reached report → IsReportUpTo part passed text own old (before + 1) next new
reported_to part here passed text own old before number reached next report new meant are is_meant is_own up goes so =
    let gone = goes text is_meant is_own (omega (arith, so.low, up, is_own)) so.is in
    let back : before ≡ before + 1 - 1 = omega arith in
    record {
      is = gone.is;
      low = gone.up_to;
      on = λ first up_to.
          reported_alike here part passed (before + 1) text first next.number new (turned part here are)
          (gone.on passed first (subst (λ (n : ℕ). ReportsAfter here passed n text first reached.number report) back
          (reported_alike part here passed before text first reached.number report are (so.on first up_to))));
    }

-- where no later line must be reported
reported_all : (part : Part) (passed before : ℕ) (text : List ℕ) (first last : ℕ) (report : List ℕ)
    → ((number : ℕ) → IsWrongAfter part passed (meant_of text) number → before < number → ⊥) → ReportsAfter part passed before text first last report
    → ReportsFrom (IsWrongAfter part passed (meant_of text)) text first report
reported_all part passed before text first last report none up_to =
    fewer (λ n. (n ≤ before) × IsWrongAfter part passed (meant_of text) n) (IsWrongAfter part passed (meant_of text)) text first report
    (λ n wrong. elim (cases_lt before n) [ inl later ↦ absurd (none n wrong later) | inr here ↦ (here, wrong) ]) up_to.from

-- so it is where none is left
pub none_left : (part : Part) (passed before : ℕ) (text : List ℕ) (first last : ℕ) (report : List ℕ) → after_lines before (meant_of text) ≡ []
    → ReportsAfter part passed before text first last report → ReportsFrom (IsWrongAfter part passed (meant_of text)) text first report
none_left part passed before text first last report none up_to = reported_all part passed before text first last report (λ n wrong later. elim wrong.2 [
  | inl is ↦ none_later (meant_of text) before n none is.1.there later
  | inr is ↦ none_later (meant_of text) before n none is.1.there later
]) up_to

-- after a line that was one too many
pub none_past : (part here : Part) (passed before : ℕ) (text : List ℕ) (first last : ℕ) (report : List ℕ) → AreAlike part here → (here ≡ parts.Link → ⊥)
    → IsPastAll (context_after (kind_of (meant_of text)) (meant_of text) (before + 1 - 1))
    → ReportsAfter part passed before text first last report → ReportsFrom (IsWrongAfter part passed (meant_of text)) text first report
none_past part here passed before text first last report are other past up_to =
    let back : before + 1 - 1 ≡ before = omega arith in
    let there = subst (λ (n : ℕ). IsPastAll (context_after (kind_of (meant_of text)) (meant_of text) n)) back past in
    reported_all part passed before text first last report (λ n wrong later. elim wrong.2 [
      | inl is ↦ other (are.there is.0)
      | inr is ↦ past_all (meant_of text) before n there is.1 later
    ]) up_to

-- and after as many lines as there may be
pub none_more : (part : Part) (passed before : ℕ) (text : List ℕ) (first last : ℕ) (report : List ℕ) → 2 ^ 64 ≤ before + 1 → ReportsAfter part passed before text first last report
    → ReportsFrom (IsWrongAfter part passed (meant_of text)) text first report
none_more part passed before text first last report all up_to =
    reported_all part passed before text first last report (λ n wrong later. let small = wrong.1 in omega (arith, small, later, all)) up_to
