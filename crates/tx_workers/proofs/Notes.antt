-- The places and the notes of entries.
use Rattle.std.proofs.Common.{◌≡◌, ℕ, suc, ◌+◌, Bool, true, false, ◌==◌, List, [], ◌∷◌, All, length, vec_len, arith, ap, refl, sym, ◌∙◌}
use Rattle.std.proofs.lemmas.Bool.Decides.{nat_tests}
use Rattle.std.proofs.lemmas.List.Elements.{All-cons, All-head, All-nil, All-tail}
use Rattle.tx_base.specs.declared.steps.Accepted.{Accepted}
use Rattle.tx_journal.specs.Sessions.{SessionState}
use Rattle.tx_journal.specs.declared.entry.Entry.{Entry}
use Rattle.tx_lines.specs.declared.programs.Program.{Program}
use Rattle.tx_workers.specs.Runs.{AreNoted, IsOutcome, IsWorked}
use Rattle.tx_workers.specs.Teams.{made, noted, noted_if, notes_of, placed_if, places_of, AreRunners, IsCrew}
use Rattle.tx_workers.specs.declared.runner.Runner.{Runner}
use Rattle.tx_workers.specs.declared.worker.Worker.{Worker}

other_is : (number : ℕ) (e : Entry) → (e.worker ≡ number → ⊥) → (e.worker == number) ≡ false
other_is number e other = grind (arith, nat_tests)

-- where the first entry is not the worker's, it has no place and no note
pub unplaced : (number place : ℕ) (left later : List Entry) (e : Entry) → left ≡ e ∷ later → (e.worker ≡ number → ⊥) → places_of number place left ≡ places_of number (place + 1) later
unplaced number place left later e first_is other =
    ap (places_of number place) first_is ∙ ap (λ b. placed_if b place (places_of number (place + 1) later)) (other_is number e other)

-- a worker has as many places as notes
as_many : (number place : ℕ) (entries : List Entry) → length (places_of number place entries) ≡ length (notes_of number entries)
as_many number place [] = refl
as_many number place (e ∷ es) = by (e.worker == number) (as_many number (place + 1) es)
  where
    by : (b : Bool) → length (places_of number (place + 1) es) ≡ length (notes_of number es)
        → length (placed_if b place (places_of number (place + 1) es)) ≡ length (noted_if b e (notes_of number es))
    by true same = ap suc same
    by false same = same

-- a worker with those notes
with_notes : (runner : Runner) (notes : List Accepted) → length notes ≡ vec_len runner.made → Worker
with_notes runner notes same = record {
  number = runner.number;
  total = runner.total;
  last = runner.last;
  notes = record {
    ptr = runner.made.ptr;
    len = vec_len runner.made;
    cap = runner.made.cap;
    alloc = runner.made.alloc;
    items = notes;
    ok = (sym same, runner.made.ok.1);
    small = runner.made.small;
  };
}

module _ (start : ℕ) (added : List Entry) where
  abbrev pub IsPlaced : Runner → Type 0
  IsPlaced runner = runner.made.items ≡ places_of runner.number start added

  -- it has as many places as it would have notes
  of_notes : (runner : Runner) → IsPlaced runner → length (notes_of runner.number added) ≡ vec_len runner.made
  of_notes runner placed = sym (as_many runner.number start added) ∙ sym (ap length placed) ∙ sym runner.made.ok.0

  -- there are workers with the notes of what they made
  pub workers_there : (runners : List Runner) → All IsPlaced runners → (workers : List Worker) × AreNoted added runners workers
  unfolding with_notes
  workers_there [] all = ([], tt)
  workers_there (runner ∷ runners) all =
      let rest = workers_there runners (All-tail IsPlaced runner runners all) in
      (with_notes runner (notes_of runner.number added) (of_notes runner (All-head IsPlaced runner runners all)) ∷ rest.0, (refl, refl, rest.1))

  same_count : (runner : Runner) (worker : Worker) → IsPlaced runner → worker.notes.items ≡ notes_of runner.number added → vec_len worker.notes ≡ vec_len runner.made
  same_count runner worker placed notes = worker.notes.ok.0 ∙ ap length notes ∙ of_notes runner placed

  pub noted_made : (runners : List Runner) (workers : List Worker) → All IsPlaced runners → AreNoted added runners workers → noted workers ≡ made runners
  noted_made [] [] all are = refl
  noted_made [] (worker ∷ workers) all are = absurd are
  noted_made (runner ∷ runners) [] all are = absurd are
  noted_made (runner ∷ runners) (worker ∷ workers) all are =
      omega (
        arith,
        same_count runner worker (All-head IsPlaced runner runners all) are.1,
        noted_made runners workers (All-tail IsPlaced runner runners all) are.2,
      )

  crew_of : (from turns : ℕ) (runners : List Runner) (workers : List Worker) → All IsPlaced runners → AreNoted added runners workers → AreRunners from turns runners → IsCrew from turns workers
  crew_of from turns [] [] all are crew = tt
  crew_of from turns [] (worker ∷ workers) all are crew = absurd are
  crew_of from turns (runner ∷ runners) [] all are crew = absurd are
  crew_of from turns (runner ∷ runners) (worker ∷ workers) all are crew = (
    are.0 ∙ crew.0,
    omega (arith, same_count runner worker (All-head IsPlaced runner runners all) are.1, crew.1),
    crew_of (from + 1) turns runners workers (All-tail IsPlaced runner runners all) are.2 crew.2,
  )

same_length : (added : List Entry) (runners : List Runner) (workers : List Worker) → AreNoted added runners workers → length workers ≡ length runners
same_length added [] [] are = refl
same_length added [] (worker ∷ workers) are = absurd are
same_length added (runner ∷ runners) [] are = absurd are
same_length added (runner ∷ runners) (worker ∷ workers) are = ap suc (same_length added runners workers are.2)

all_noted : (added : List Entry) (runners : List Runner) (workers : List Worker) → AreNoted added runners workers → All (λ w. w.notes.items ≡ notes_of w.number added) workers
all_noted added [] [] are = All-nil (λ w. w.notes.items ≡ notes_of w.number added)
all_noted added [] (worker ∷ workers) are = absurd are
all_noted added (runner ∷ runners) [] are = absurd are
all_noted added (runner ∷ runners) (worker ∷ workers) are =
    All-cons (λ w. w.notes.items ≡ notes_of w.number added) worker workers (are.1 ∙ ap (λ n. notes_of n added) (sym are.0)) (all_noted added runners workers are.2)

-- workers with the notes of what a run made of them have worked
pub have_worked : (program : Program) (given : SessionState) (count turns : ℕ) (session : SessionState) (runners : List Runner) (workers : List Worker)
    (run : IsOutcome program given count turns session runners) → AreNoted run.added runners workers → IsWorked program given count turns session workers
have_worked program given count turns session runners workers run are =
    let start : ℕ = length given.entries in
    record {
      added = run.added;
      grown = run.grown;
      boot = run.boot;
      at_end = run.at_end;
      named = run.named;
      counted = run.counted ∙ sym (noted_made start run.added runners workers run.places are);
      count_is = same_length run.added runners workers are ∙ run.count_is;
      crew = crew_of start run.added 1 turns runners workers run.places are run.crew;
      notes = all_noted run.added runners workers are;
    }
