-- The steps of a schedule: their text has one fault at most, and none where it is whole.
use Rattle.std.proofs.Common.{◌≡◌, ◌∙◌, ℕ, ◌<◌, List, ◌∷◌, ◌++◌, Some, length, length-append, map, refl, ap, sym, subst, arith, All}
use Rattle.std.proofs.lemmas.List.{length-map}
use Rattle.tx_base.specs.declared.steps.Step.{Step}
use Rattle.tx_check.proofs.EndedLines.{all_at, all_each, among, spelled_lines, AreLinesEach}
use Rattle.tx_check.proofs.NextLines.{next_once, next_right, some_after, IsRight}
use Rattle.tx_check.proofs.OneFault.{IsFaulty, IsGrammar}
use Rattle.tx_check.proofs.ShortLines.{short_step}
use Rattle.tx_lines.specs.Lines.{step_text}
use Rattle.tx_lines.specs.Schedule.{after_line, first_line, AreSteps, FaultsAmong, FaultsAtNext, FaultsAtStep, FitsStepOf, IsNoStep}
use Rattle.tx_lines.specs.declared.faults.Fault.{Fault}
use Rattle.tx_lines.specs.declared.read.header.Version.{Version}

-- the lines are those of steps
pub record BeginsSteps (version : Version) (lines : List (List ℕ)) : Type 0 where
  pub steps : List Step
  pub same : lines ≡ map step_text steps
  pub are : AreSteps version steps

pub each_step : (version : Version) (steps : List Step) → AreSteps version steps → AreLinesEach (map step_text steps)
each_step version steps are = all_each (FitsStepOf version) step_text steps (λ step fits. (short_step step fits.fits).in_line) are.fit

-- a step is no line at fault
pub step_right : (version : Version) (step : Step) (rest behind : List ℕ) → FitsStepOf version step → first_line rest ≡ step_text step → after_line rest ≡ Some behind → IsRight (IsNoStep version) rest
step_right version step rest behind fits line after = record {
  short = omega (arith, ap length line, (short_step step fits.fits).few);
  ended = some_after rest behind after;
  some = λ none. none step fits.fits fits.of line;
}

-- one of some steps
pub record IsStepAt (version : Version) (before : List (List ℕ)) (line : List ℕ) : Type 0 where
  pub step : Step
  pub fits : FitsStepOf version step
  pub spelled : step_text step ≡ line
  pub few : length before < 4096

pub step_at : (version : Version) (steps : List Step) (before : List (List ℕ)) (line : List ℕ) (more : List (List ℕ)) → AreSteps version steps → before ++ line ∷ more ≡ map step_text steps → IsStepAt version before line
step_at version steps before line more are same =
    let found = among step_text steps before line more (sym same) in
    record {
      step = found.this;
      fits = all_at (FitsStepOf version) found.earlier found.this found.later (subst (All (FitsStepOf version)) found.parts are.fit);
      spelled = found.spelled;
      few = omega (
        arith,
        are.few,
        ap length found.parts,
        length-append found.earlier (found.this ∷ found.later),
        ap length found.before_this,
        length-map found.earlier step_text,
      );
    }

-- what is at fault after some steps
pub record FaultsAfterSteps (version : Version) (lines : List (List ℕ)) (rest : List ℕ) (fault : Fault) : Type 0 where
  pub begins : BeginsSteps version lines
  pub fault_after : FaultsAtStep version (length begins.steps) rest fault

pub same_length : {A : Type 0} (spelling : A → List ℕ) (xs ys : List A) (lines : List (List ℕ)) → lines ≡ map spelling xs → lines ≡ map spelling ys → length xs ≡ length ys
same_length spelling xs ys lines first second = omega (arith, ap length first, ap length second, length-map xs spelling, length-map ys spelling)

step_once : (version : Version) (lines : List (List ℕ)) (rest : List ℕ) (a b : Fault) → FaultsAfterSteps version lines rest a → FaultsAfterSteps version lines rest b → a ≡ b
step_once version lines rest a b first second =
    let size = same_length step_text second.begins.steps first.begins.steps lines second.begins.same first.begins.same in
    next_once 2 (IsNoStep version) (length first.begins.steps) rest a b first.fault_after.1
    (subst (λ (n : ℕ). FaultsAtNext 2 (IsNoStep version) n rest b) size second.fault_after.1)

right_step : (version : Version) (before : List (List ℕ)) (line : List ℕ) (more : List (List ℕ)) (rest behind : List ℕ) (fault : Fault) → BeginsSteps version (before ++ line ∷ more)
    → first_line rest ≡ line → after_line rest ≡ Some behind → FaultsAfterSteps version before rest fault → ⊥
right_step version before line more rest behind fault begun is after faults =
    let found = step_at version begun.steps before line more begun.are begun.same in
    let size : length faults.begins.steps < 4096 = omega (arith, found.few, ap length faults.begins.same, length-map faults.begins.steps step_text) in
    next_right 2 (IsNoStep version) (length faults.begins.steps) rest fault
    (step_right version found.step rest behind found.fits (is ∙ sym found.spelled) after) size faults.fault_after.1

pub schedule_grammar : (version : Version) → IsGrammar (BeginsSteps version) (BeginsSteps version) (FaultsAfterSteps version)
schedule_grammar version = record {
  whole_begun = λ lines whole. whole;
  fault_begun = λ lines rest fault faults. faults.begins;
  each = λ lines begun. subst AreLinesEach (sym begun.same) (each_step version begun.steps begun.are);
  right = right_step version;
  ends = λ lines fault whole faults. faults.fault_after.0 refl;
  one = step_once version;
}

-- what the definition of a schedule says is at fault
pub schedule_faulty : (version : Version) (text : List ℕ) (fault : Fault) → FaultsAmong step_text (AreSteps version) (FaultsAtStep version) text fault → IsFaulty (FaultsAfterSteps version) text fault
schedule_faulty version text fault among = record {
  lines = map step_text among.before;
  rest = among.rest;
  parts = among.parts ∙ ap (λ (t : List ℕ). t ++ among.rest) (spelled_lines step_text among.before);
  next = record { begins = record { steps = among.before; same = refl; are = among.good }; fault_after = among.fault_after };
}
