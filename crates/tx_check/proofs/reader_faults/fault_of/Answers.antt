use Rattle.tx_check.proofs.FoundFaults.{found}
use Rattle.tx_check.specs.declared.kinds.Kind.TheVariants as kinds
use Rattle.tx_lines.specs.Programs.{ReadsProgram}
use Rattle.tx_lines.specs.Schedule.{ReadsSchedule}
use Rattle.tx_lines.specs.Walks.{ReadsWalk}
use Rattle.tx_check.proofs.reader_faults.fault_of.Goals as goal

pub returns-in-Schedule : goal.returns-in-Schedule
returns-in-Schedule c = λ some.
    let text = c.args.text.now in
    rw c.in-Schedule.is (found (ReadsSchedule text) kinds.Schedule text c.read_schedule.result c.err.result (λ schedule reads. (schedule, reads)) (λ fault is. is) c.read_schedule.ensures c.err.ensures.value some)

pub returns-in-Walk : goal.returns-in-Walk
returns-in-Walk c = λ some.
    let text = c.args.text.now in
    rw c.in-Walk.is (found (ReadsWalk text) kinds.Walk text c.read_walk.result c.err-in-Walk.result (λ walk reads. (walk, reads)) (λ fault is. is) c.read_walk.ensures c.err-in-Walk.ensures.value some)

pub returns-in-Program : goal.returns-in-Program
returns-in-Program c = λ some.
    let text = c.args.text.now in
    rw c.in-Program.is (found (ReadsProgram text) kinds.Program text c.read_program_text.result c.err-in-Program.result (λ program reads. (program, reads)) (λ fault is. is) c.read_program_text.ensures c.err-in-Program.ensures.value some)
