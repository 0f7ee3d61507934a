-- Lines that are read one after another, and the fault after them.
use Rattle.std.proofs.Common.{◌≡◌, ℕ, zero, suc, ◌+◌, ◌<◌, List, [], ◌∷◌, ◌++◌, length, ap, ◌∙◌, sym, arith, append_assoc, length-append}
use Rattle.std.specs.Prelude.{All}
use Rattle.std.proofs.lemmas.List.Elements.{All-append}
use Rattle.tx_base.specs.declared.steps.Step.{Step}
use Rattle.tx_lines.specs.declared.faults.Fault.{Fault}
use Rattle.tx_lines.specs.declared.faults.Fault.TheVariants.{NotALine, NoLabel, TooLong, Reader, Writer, NoMemory}
use Rattle.tx_lines.specs.declared.read.header.Version.{Version}
use Rattle.tx_lines.specs.Lines.{step_text}
use Rattle.tx_lines.specs.Schedule.{lines_of, Adds, AreSteps, FaultsAmong, FaultsBy, FitsStepOf}

all_one : {A : Type 0} (P : A → Type 0) (x : A) → P x → All P (x ∷ [])
all_one P x holds zero d below = holds
all_one P x holds (suc k) d below = absurd (omega arith)

-- all of some things are good, and so is one more
pub all_more : {A : Type 0} (P : A → Type 0) (xs : List A) (x : A) (more : List A) → All P xs → P x → more ≡ xs ++ x ∷ [] → All P more
all_more P xs x more all holds pushed = rw pushed (All-append P xs (x ∷ []) all (all_one P x holds))

pub length_more : {A : Type 0} (xs : List A) (x : A) (more : List A) → more ≡ xs ++ x ∷ [] → length more ≡ length xs + 1
length_more xs x more pushed = omega (arith, ap length pushed, length-append xs (x ∷ []))

module _ {A : Type 0} (spelling : A → List ℕ) where
  lines_append : (xs : List A) (x : A) (rest : List ℕ) → lines_of spelling (xs ++ x ∷ []) ++ rest ≡ lines_of spelling xs ++ (spelling x ++ 10 ∷ rest)
  lines_append [] x rest = append_assoc (spelling x) (10 ∷ []) rest
  lines_append (first ∷ xs) x rest =
      append_assoc (spelling first) (10 ∷ lines_of spelling (xs ++ x ∷ [])) rest
      ∙ ap (λ (t : List ℕ). spelling first ++ 10 ∷ t) (lines_append xs x rest)
      ∙ sym (append_assoc (spelling first) (10 ∷ lines_of spelling xs) (spelling x ++ 10 ∷ rest))

  -- one line more is read of a text
  pub text_more : (xs : List A) (x : A) (more : List A) (text left rest : List ℕ) → text ≡ lines_of spelling xs ++ left → left ≡ spelling x ++ 10 ∷ rest → more ≡ xs ++ x ∷ [] →
      text ≡ lines_of spelling more ++ rest
  text_more xs x more text left rest parts spelled pushed =
      parts ∙ ap (λ (t : List ℕ). lines_of spelling xs ++ t) spelled ∙ sym (lines_append xs x rest) ∙ ap (λ (ys : List A). lines_of spelling ys ++ rest) (sym pushed)

-- the steps with one more
pub steps_more : (version : Version) (line : List ℕ) (steps more : List Step) → AreSteps version steps → length steps < 4096 → (adds : Adds step_text (FitsStepOf version) line steps more) → AreSteps version more
steps_more version line steps more are few adds = record {
  fit = all_more (FitsStepOf version) steps adds.added more are.fit adds.good adds.more;
  few = omega (arith, few, length_more steps adds.added more adds.more);
}

-- where a fault of one kind is of another
pub faults_by : (P Q : Fault → Type 0) → ((fault : Fault) → P fault → Q fault) → (fault : Fault) → FaultsBy P fault → FaultsBy Q fault
faults_by P Q so (NotALine line) is = so (NotALine line) is
faults_by P Q so (NoLabel line) is = so (NoLabel line) is
faults_by P Q so (TooLong line) is = so (TooLong line) is
faults_by P Q so NoMemory is = tt
faults_by P Q so Reader is = absurd is
faults_by P Q so Writer is = absurd is

-- the fault after some lines is one of the text, where there is one
module _ {A : Type 0} (spelling : A → List ℕ) (AreGood : List A → Type 0) (After : ℕ → List ℕ → Fault → Type 0) where
  pub faults_among : (xs : List A) (text left : List ℕ) (fault : Fault) → AreGood xs → text ≡ lines_of spelling xs ++ left → FaultsBy (After (length xs) left) fault → FaultsBy (FaultsAmong spelling AreGood After text) fault
  faults_among xs text left fault good parts is =
      faults_by (After (length xs) left) (FaultsAmong spelling AreGood After text) (λ f at. record { before = xs; rest = left; good = good; parts = parts; fault_after = at }) fault is
