-- What is appended part by part.
use Rattle.std.proofs.Common.{◌≡◌, ◌<◌, ◌⊎◌, ℕ, zero, suc, inl, inr, ap, sym, arith, subst, List, [], ◌∷◌, ◌++◌, length, ◌∙◌, refl, append_assoc, codes, Result, Ok, Err, OnOk}
use Rattle.std.specs.Fmt.{decimal}
use Rattle.std.specs.Prelude.{All}
use Rattle.std.proofs.lemmas.List.Elements.{All-append}
use Rattle.tx_lines.specs.Schedule.{lines_of}
use Rattle.tx_translate.specs.Meant.{own_line}
use Rattle.tx_check.specs.Numbered.{line_at}
use Rattle.tx_check.specs.Speaking.{line_sentence, FaultKind, IsOfKind, SpeaksAt}
use Rattle.tx_check.specs.declared.trouble.LineTrouble.TheVariants.{TooLong}
use Rattle.tx_check.specs.Diagnostics.{diagnostic_text, last_line, AreRising, Diagnostic, IsAmong, IsColumn, IsDiagnosticIn, IsDiagnosticOf, IsInLine, IsWrongOwn, Reports, ReportsFrom, ReportsOfKind, ReportsUpTo}
use Rattle.tx_translate.specs.OwnLines.{without_return}

line_append : (a b c d e s : List ℕ) → (a ++ (b ++ (c ++ (d ++ (e ++ s))))) ++ 10 ∷ [] ≡ a ++ (b ++ (c ++ (d ++ (e ++ (s ++ 10 ∷ [])))))
line_append a b c d e s = simp append_assoc refl

-- a diagnostic
reports_line : (number column : ℕ) (bytes old sentence new : List ℕ) → IsColumn bytes column → IsInLine sentence → SpeaksAt bytes column sentence → (512 < length (without_return bytes) → sentence ≡ line_sentence TooLong)
    → new ≡ old ++ (codes "line " ++ (decimal number ++ (codes ", column " ++ (decimal column ++ (codes ": " ++ (sentence ++ 10 ∷ [])))))) → Reports number bytes old new
reports_line number column bytes old sentence new inside in_line speaks long spelled = record {
  diagnostic = record { line = number; column = column; sentence = sentence };
  at = refl;
  good = record { column = inside; in_line = in_line; speaks = speaks; long = long };
  more = spelled ∙ ap (λ (t : List ℕ). old ++ t) (sym (line_append (codes "line ") (decimal number) (codes ", column ") (decimal column) (codes ": ") sentence));
}

pub report_appended : {A E : Type 0} (result : Result A E) (number column : ℕ) (bytes old sentence new : List ℕ) → IsColumn bytes column → IsInLine sentence → SpeaksAt bytes column sentence → (512 < length (without_return bytes) → sentence ≡ line_sentence TooLong)
    → OnOk result (new ≡ old ++ (codes "line " ++ (decimal number ++ (codes ", column " ++ (decimal column ++ (codes ": " ++ (sentence ++ 10 ∷ []))))))) → OnOk result (Reports number bytes old new)
report_appended (Ok value) number column bytes old sentence new inside in_line speaks long spelled = reports_line number column bytes old sentence new inside in_line speaks long spelled
report_appended (Err error) number column bytes old sentence new inside in_line speaks long spelled = tt

-- and it is of the kind of its sentence
pub kind_appended : {A E : Type 0} (result : Result A E) (number column : ℕ) (bytes old sentence new : List ℕ) → IsColumn bytes column → IsInLine sentence → SpeaksAt bytes column sentence → (512 < length (without_return bytes) → sentence ≡ line_sentence TooLong)
    → OnOk result (new ≡ old ++ (codes "line " ++ (decimal number ++ (codes ", column " ++ (decimal column ++ (codes ": " ++ (sentence ++ 10 ∷ []))))))) → OnOk result ((kind : FaultKind) → IsOfKind kind sentence → ReportsOfKind kind number bytes old new)
unfolding reports_line
kind_appended (Ok value) number column bytes old sentence new inside in_line speaks long spelled = λ kind is. record {
  reports = reports_line number column bytes old sentence new inside in_line speaks long spelled;
  of_kind = is;
}
kind_appended (Err error) number column bytes old sentence new inside in_line speaks long spelled = tt

all_one : (P : Diagnostic → Type 0) (x : Diagnostic) → P x → All P (x ∷ [])
all_one P x holds zero d below = holds
all_one P x holds (suc k) d below = absurd (omega arith)

lines_append : (xs : List Diagnostic) (x : Diagnostic) → lines_of diagnostic_text (xs ++ x ∷ []) ≡ lines_of diagnostic_text xs ++ (diagnostic_text x ++ 10 ∷ [])
lines_append [] x = refl
lines_append (first ∷ xs) x =
    ap (λ (t : List ℕ). diagnostic_text first ++ 10 ∷ t) (lines_append xs x) ∙ sym (append_assoc (diagnostic_text first) (10 ∷ lines_of diagnostic_text xs) (diagnostic_text x ++ 10 ∷ []))

rising_more : (before : ℕ) (xs : List Diagnostic) (x : Diagnostic) → AreRising before xs → last_line before xs < x.line → AreRising before (xs ++ x ∷ [])
rising_more before [] x rising after = (after, tt)
rising_more before (first ∷ xs) x rising after = (rising.0, rising_more first.line xs x rising.1 after)

last_more : (before : ℕ) (xs : List Diagnostic) (x : Diagnostic) → last_line before (xs ++ x ∷ []) ≡ x.line
last_more before [] x = refl
last_more before (first ∷ xs) x = last_more first.line xs x

diagnostic_in : (text bytes : List ℕ) (line : ℕ) (diagnostic : Diagnostic) → diagnostic.line ≡ line → bytes ≡ line_at line text → IsDiagnosticOf bytes diagnostic → IsDiagnosticIn text diagnostic
diagnostic_in text bytes line diagnostic at same good = subst (λ (n : ℕ). IsDiagnosticOf (line_at n text) diagnostic) (sym at) (subst (λ (b : List ℕ). IsDiagnosticOf b diagnostic) same good)

-- reported lines
among_more : (line : ℕ) (xs : List Diagnostic) (x : Diagnostic) → IsAmong line xs → IsAmong line (xs ++ x ∷ [])
among_more line [] x is = absurd is
among_more line (first ∷ xs) x (inl is) = inl is
among_more line (first ∷ xs) x (inr is) = inr (among_more line xs x is)

among_last : (line : ℕ) (xs : List Diagnostic) (x : Diagnostic) → x.line ≡ line → IsAmong line (xs ++ x ∷ [])
among_last line [] x is = inl is
among_last line (first ∷ xs) x is = inr (among_last line xs x is)

last_among : (first : Diagnostic) (others : List Diagnostic) → IsAmong (last_line first.line others) (first ∷ others)
last_among first [] = inl refl
last_among first (next ∷ others) = inr (last_among next others)

-- where fewer lines are wanted
pub fewer : (IsWanted IsLess : ℕ → Type 0) (text : List ℕ) (line : ℕ) (report : List ℕ) → ((meant : ℕ) → IsLess meant → IsWanted meant) → ReportsFrom IsWanted text line report
    → ReportsFrom IsLess text line report
fewer IsWanted IsLess text line report less reports = record {
  first = reports.first;
  others = reports.others;
  at = reports.at;
  rising = reports.rising;
  good = reports.good;
  wrong = reports.wrong;
  none_left_out = λ meant wanted. reports.none_left_out meant (less meant wanted);
  spelled = reports.spelled;
}

-- the last reported line may be wanted too
pub last_known : (IsWanted IsMore : ℕ → Type 0) (text : List ℕ) (line last : ℕ) (report : List ℕ) → ((meant : ℕ) → IsMore meant → IsWanted meant ⊎ (own_line text meant ≡ last))
    → ReportsUpTo IsWanted text line last report → ReportsUpTo IsMore text line last report
last_known IsWanted IsMore text line last report more up_to =
    let from = up_to.from in
    let there : last_line from.first.line from.others ≡ last = ap (λ (n : ℕ). last_line n from.others) from.at ∙ up_to.up_to in
    record {
      from = record {
        first = from.first;
        others = from.others;
        at = from.at;
        rising = from.rising;
        good = from.good;
        wrong = from.wrong;
        none_left_out = λ meant wanted. elim (more meant wanted) [
          | inl before ↦ from.none_left_out meant before
          | inr here ↦ subst (λ (n : ℕ). IsAmong n (from.first ∷ from.others)) (there ∙ sym here) (last_among from.first from.others)
        ];
        spelled = from.spelled;
      };
      up_to = up_to.up_to;
    }

-- the first reported line
pub first_reported : (IsWanted : ℕ → Type 0) (text bytes : List ℕ) (line : ℕ) (old new : List ℕ) → ((meant : ℕ) → IsWanted meant → ⊥) → bytes ≡ line_at line text → old ≡ []
    → Reports line bytes old new → ReportsUpTo IsWanted text line line new
first_reported IsWanted text bytes line old new no_other same none reports = record {
  from = record {
    first = reports.diagnostic;
    others = [];
    at = reports.at;
    rising = tt;
    good = all_one (IsDiagnosticIn text) reports.diagnostic (diagnostic_in text bytes line reports.diagnostic reports.at same reports.good);
    wrong = λ k d below. absurd (omega (arith, below));
    none_left_out = λ meant wanted. absurd (no_other meant wanted);
    spelled = reports.more ∙ ap (λ (t : List ℕ). t ++ (diagnostic_text reports.diagnostic ++ 10 ∷ [])) none;
  };
  up_to = refl;
}

-- one more
pub more_reported : (IsWanted IsMore : ℕ → Type 0) (text bytes : List ℕ) (line last number : ℕ) (old new : List ℕ)
    → ((meant : ℕ) → IsMore meant → IsWanted meant ⊎ (own_line text meant ≡ number)) → bytes ≡ line_at number text → IsWrongOwn text number
    → Reports number bytes old new → last < number → ReportsUpTo IsWanted text line last old → ReportsUpTo IsMore text line number new
more_reported IsWanted IsMore text bytes line last number old new more same wrong reports below up_to =
    let from = up_to.from in
    let after : last_line line from.others < reports.diagnostic.line = omega (arith, below, up_to.up_to, reports.at) in
    let good = diagnostic_in text bytes number reports.diagnostic reports.at same reports.good in
    record {
      from = record {
        first = from.first;
        others = from.others ++ reports.diagnostic ∷ [];
        at = from.at;
        rising = rising_more line from.others reports.diagnostic from.rising after;
        good = All-append (IsDiagnosticIn text) (from.first ∷ from.others) (reports.diagnostic ∷ []) from.good (all_one (IsDiagnosticIn text) reports.diagnostic good);
        wrong = All-append (λ (other : Diagnostic). IsWrongOwn text other.line) from.others (reports.diagnostic ∷ []) from.wrong
            (all_one (λ (other : Diagnostic). IsWrongOwn text other.line) reports.diagnostic (subst (IsWrongOwn text) (sym reports.at) wrong));
        none_left_out = λ meant wanted. elim (more meant wanted) [
          | inl before ↦ among_more (own_line text meant) (from.first ∷ from.others) reports.diagnostic (from.none_left_out meant before)
          | inr here ↦ among_last (own_line text meant) (from.first ∷ from.others) reports.diagnostic (reports.at ∙ sym here)
        ];
        spelled = reports.more ∙ ap (λ (t : List ℕ). t ++ (diagnostic_text reports.diagnostic ++ 10 ∷ [])) from.spelled ∙ sym (lines_append (from.first ∷ from.others) reports.diagnostic);
      };
      up_to = last_more line from.others reports.diagnostic ∙ reports.at;
    }
