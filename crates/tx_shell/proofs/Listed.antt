-- The lines of entries, as far as they are appended.
use Rattle.std.proofs.Common.{◌≡◌, ℕ, ◌+◌, ◌≤◌, List, [], ◌∷◌, ◌++◌, drop, take, length, map, reverse, sym, ap, ◌∙◌, append_assoc, refl}
use Rattle.std.proofs.lemmas.List.{append-nil, reverse-reverse, take-map}
use Rattle.std.proofs.Math.ListN.{drop_of_length-le}
use Rattle.tx_base.specs.declared.steps.Accepted.{Accepted}
use Rattle.tx_base.specs.declared.steps.Step.{Step}
use Rattle.tx_journal.specs.Entries.{accepted_of, history_of}
use Rattle.tx_journal.specs.declared.entry.Entry.{Entry}
use Rattle.tx_lines.specs.Lines.{step_text}
use Rattle.tx_lines.specs.Schedule.{steps_text}
use Rattle.tx_script.specs.Debug.{first_steps}
use Rattle.tx_shell.specs.Journals.{by_number, steps_of}

-- what is said of the first i entries is after what there was before
abbrev pub ListedSoFar : {B : Type 0} → (ℕ → Accepted → List B) → List Entry → List B → List B → ℕ → Type 0
ListedSoFar say entries before text i = before ++ by_number say 1 (map accepted_of entries) ≡ text ++ by_number say (i + 1) (map accepted_of (drop i entries))

pub one_listed_more : {B : Type 0} (say : ℕ → Accepted → List B) (entries : List Entry) (before text more : List B) (i : ℕ) (entry : Entry) → ListedSoFar say entries before text i
    → drop i entries ≡ entry ∷ drop (i + 1) entries → more ≡ text ++ say (i + 1) (accepted_of entry) → ListedSoFar say entries before more (i + 1)
one_listed_more {B} say entries before text more i entry so cut put =
    let rest : List B = by_number say (i + 1 + 1) (map accepted_of (drop (i + 1) entries)) in
    so
    ∙ ap (λ (xs : List Entry). text ++ by_number say (i + 1) (map accepted_of xs)) cut
    ∙ sym (append_assoc text (say (i + 1) (accepted_of entry)) rest)
    ∙ ap (λ (t : List B). t ++ rest) (sym put)

pub all_listed : {B : Type 0} (say : ℕ → Accepted → List B) (entries : List Entry) (before text : List B) (i : ℕ) → ListedSoFar say entries before text i → length entries ≤ i
    → text ≡ before ++ by_number say 1 (map accepted_of entries)
all_listed say entries before text i so past =
    sym (so ∙ ap (λ (xs : List Entry). text ++ by_number say (i + 1) (map accepted_of xs)) (drop_of_length-le entries past) ∙ append-nil text)

-- the steps of the first i entries are there
abbrev pub StepsSoFar : List Entry → List ℕ → List ℕ → ℕ → Type 0
StepsSoFar entries before text i = before ++ steps_text (steps_of entries) ≡ text ++ steps_text (steps_of (drop i entries))

pub one_step_more : (entries : List Entry) (before text more : List ℕ) (i : ℕ) (entry : Entry) → StepsSoFar entries before text i
    → drop i entries ≡ entry ∷ drop (i + 1) entries → more ≡ text ++ (step_text entry.step ++ 10 ∷ []) → StepsSoFar entries before more (i + 1)
one_step_more entries before text more i entry so cut put =
    let rest : List ℕ = steps_text (steps_of (drop (i + 1) entries)) in
    so
    ∙ ap (λ (xs : List Entry). text ++ steps_text (steps_of xs)) cut
    ∙ ap (λ (t : List ℕ). text ++ t) (sym (append_assoc (step_text entry.step) (10 ∷ []) rest))
    ∙ sym (append_assoc text (step_text entry.step ++ 10 ∷ []) rest)
    ∙ ap (λ (t : List ℕ). t ++ rest) (sym put)

pub all_steps : (entries : List Entry) (before text : List ℕ) (i : ℕ) → StepsSoFar entries before text i → length entries ≤ i → text ≡ before ++ steps_text (steps_of entries)
all_steps entries before text i so past =
    sym (so ∙ ap (λ (xs : List Entry). text ++ steps_text (steps_of xs)) (drop_of_length-le entries past) ∙ append-nil text)

-- entries and their history, the oldest first
pub oldest_first : (entries : List Entry) → reverse (history_of entries) ≡ map accepted_of entries
oldest_first entries = reverse-reverse (map accepted_of entries)

-- the entries up to a position are the first steps of the history
pub history_to : (at : ℕ) (entries : List Entry) → history_of (take at entries) ≡ first_steps at (history_of entries)
history_to at entries =
    ap (λ (h : List Accepted). reverse h) (sym (take-map accepted_of at entries))
    ∙ ap (λ (h : List Accepted). reverse (take at h)) (sym (oldest_first entries))

steps_said : (entries : List Entry) → steps_of entries ≡ map (λ (e : Accepted). e.step) (map accepted_of entries)
steps_said [] = refl
steps_said (entry ∷ entries) = ap (λ (steps : List Step). entry.step ∷ steps) (steps_said entries)

pub made_steps : (at : ℕ) (entries : List Entry) → steps_of (take at entries) ≡ map (λ (e : Accepted). e.step) (take at (reverse (history_of entries)))
made_steps at entries =
    steps_said (take at entries)
    ∙ ap (λ (es : List Accepted). map (λ (e : Accepted). e.step) es) (sym (take-map accepted_of at entries) ∙ ap (λ (es : List Accepted). take at es) (sym (oldest_first entries)))
