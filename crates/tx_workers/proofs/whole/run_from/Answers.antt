use Rattle.std.proofs.Common.{length}
use Rattle.tx_workers.proofs.Notes.{have_worked, workers_there}
use Rattle.tx_workers.proofs.whole.run_from.Goals as goal

-- no notes were made: the workers that they would be of are there all the same
pub returns-in-Ok-run_without_notes : goal.returns-in-Ok-run_without_notes
returns-in-Ok-run_without_notes g c =
    let program = c.in-Ok.program in
    let given = c.in-Ok-boot_by.session in
    let booted = c.in-Ok-boot_by.ensures in
    let outcome = c.in-Ok-run_without_notes.outcome in
    let runners = outcome.runners.items in
    let run = c.in-Ok-run_without_notes.ensures.outcome in
    let there = workers_there (length given.entries) run.added runners run.places in (
      record {
        program = program;
        given = given;
        crew = there.0;
        spelled = c.in-Ok.ensures.0;
        booted = record { entries = booted.entries; inverses = booted.inverses; width = booted.width; count = booted.count };
        worked = have_worked program given c.args.workers c.args.turns outcome.session runners there.0 run there.1;
      },
      c.in-Ok.ensures.1,
    )

pub returns-in_default : goal.returns-in_default
returns-in_default g c = (record { program = c.in-Ok.program; spelled = c.in-Ok.ensures.0; thread = λ same. absurd (cc) }, c.in-Ok.ensures.1)

pub returns : goal.returns
returns g c = (
  record {
    program = c.in-Ok.program;
    spelled = c.in-Ok.ensures.0;
    thread = λ same. let is = c.in-Err-run_without_notes.is in c.run_without_notes.ensures.thread (cc);
  },
  c.in-Ok.ensures.1,
)
