use Rattle.std.proofs.Common.{◌<◌, ◌∙◌, length, Some, refl, ap, arith, length-set}
use Rattle.std.proofs.Math.ListN.{set}
use Rattle.tx_base.specs.declared.errors.Errno.TheVariants.{TooManyDescriptors}
use Rattle.tx_model.specs.Book.{pipe}
use Rattle.tx_model.specs.Numbers.{error_answer}
use Rattle.tx_model.specs.Words.{with_two_slots}
use Rattle.tx_model.specs.Forms.{effect_of}
use Rattle.tx_desc.specs.Outcomes.{with_table}
use Rattle.tx_desc.specs.declared.opened.Opened.{Opened}
use Rattle.tx_desc.proofs.Counting.{keeps_then, opens_keeps}
use Rattle.tx_desc.proofs.Effects.{done_keeps}
use Rattle.tx_desc.proofs.Free.{free_inside, free_none, two_parts}
use Rattle.tx_desc.proofs.Pipes.{pipe_full, pipe_done, pipe_keeps, first_there, second_there, still_free, still_inside}
use Rattle.tx_desc.proofs.table.FdTable.plan_pipe.Goals as goal

pub returns-in_default-clause-answer : goal.returns-in_default-clause-answer
returns-in_default-clause-answer c = λ caller descs same free has no_pipe.
    pipe_full c.args.pipe c.args.read.0 c.args.write.0 caller c.args.self.now descs same has no_pipe free.first free.second (c.in_default.ensures c.args.read.0)

pub returns-in_default-clause-descriptions : goal.returns-in_default-clause-descriptions
returns-in_default-clause-descriptions c = λ caller descs same free has no_pipe.
    done_keeps (pipe c.args.pipe.0 c.args.read.0 c.args.write.0) caller (error_answer TooManyDescriptors) caller.process descs
    (ap (effect_of caller.number caller.process) (returns-in_default-clause-answer c caller descs same free has no_pipe)) has

pub returns-clause-answer : goal.returns-clause-answer
returns-clause-answer c = λ caller descs same free has no_pipe.
    let parts = two_parts c.args.read.0 c.args.self.now (c.in-Some.first, c.in-Some.second) (c.in-Some.ensures c.args.read.0) in
    let sized = free.sized in
    let read_in : c.args.read.0 < length descs = omega arith in
    let write_in : c.args.write.0 < length descs = omega arith in
    let new = set (set c.args.self.now c.in-Some.first (Some c.args.read.0)) c.in-Some.second (Some c.args.write.0) in
    let mid = set descs c.args.read.0 (Some c.first.result) in
    let after = set mid c.args.write.0 (Some c.first-2.result) in
    let write_still = still_inside c.args.read.0 c.args.write.0 c.first.result descs mid refl write_in in
    pipe_done c.args.pipe c.args.read.0 c.args.write.0 caller c.args.self.now descs same has no_pipe free.first free.second
    c.in-Some.first c.in-Some.second new after parts.0 parts.1 refl
    (first_there c.args.read.0 c.args.write.0 c.first.result c.first-2.result descs mid after c.requires.apart read_in refl refl ∙ ap Some c.first.ensures)
    (second_there c.args.write.0 c.first-2.result mid after write_still refl ∙ ap Some c.first-2.ensures)

pub returns-clause-descriptions : goal.returns-clause-descriptions
returns-clause-descriptions c = λ caller descs same free has no_pipe.
    let new = set (set c.args.self.now c.in-Some.first (Some c.args.read.0)) c.in-Some.second (Some c.args.write.0) in
    let mid = set descs c.args.read.0 (Some c.first.result) in
    let after = set mid c.args.write.0 (Some c.first-2.result) in
    pipe_keeps (pipe c.args.pipe.0 c.args.read.0 c.args.write.0) caller c.args.pipe.0 c.args.read.0 c.args.write.0
    (with_two_slots c.in-Some.first c.in-Some.second (with_table new caller.process)) c.first.result c.first-2.result descs mid after
    (returns-clause-answer c caller descs same free has no_pipe) refl refl has

pub returns-clause-counts : goal.returns-clause-counts
returns-clause-counts c = λ descs free.
    let parts = two_parts c.args.read.0 c.args.self.now (c.in-Some.first, c.in-Some.second) (c.in-Some.ensures c.args.read.0) in
    let sized = free.sized in
    let read_in : c.args.read.0 < length descs = omega arith in
    let write_in : c.args.write.0 < length descs = omega arith in
    let one = set c.args.self.now c.in-Some.first (Some c.args.read.0) in
    let mid = set descs c.args.read.0 (Some c.first.result) in
    let after = set mid c.args.write.0 (Some c.first-2.result) in
    keeps_then c.args.self.now one (set one c.in-Some.second (Some c.args.write.0)) descs mid after
    (opens_keeps c.args.read.0 c.first.result c.in-Some.first c.args.self.now descs read_in free.first (ap (λ (o : Opened). o.names) c.first.ensures)
    (free_inside c.args.self.now c.in-Some.first parts.0) (free_none c.args.self.now c.in-Some.first parts.0))
    (opens_keeps c.args.write.0 c.first-2.result c.in-Some.second one mid
    (still_inside c.args.read.0 c.args.write.0 c.first.result descs mid refl write_in)
    (still_free c.args.read.0 c.args.write.0 c.first.result descs mid c.requires.apart refl free.second) (ap (λ (o : Opened). o.names) c.first-2.ensures)
    (free_inside one c.in-Some.second parts.1) (free_none one c.in-Some.second parts.1))

pub returns-clause-numbers : goal.returns-clause-numbers
returns-clause-numbers c =
    let parts = two_parts c.args.read.0 c.args.self.now (c.in-Some.first, c.in-Some.second) (c.in-Some.ensures c.args.read.0) in
    let one = set c.args.self.now c.in-Some.first (Some c.args.read.0) in
    let first = free_inside c.args.self.now c.in-Some.first parts.0 in
    let second = free_inside one c.in-Some.second parts.1 in
    let all = length-set c.args.self.now c.in-Some.first (Some c.args.read.0) in
    ((omega arith, (omega arith, tt)), (omega arith, (omega arith, tt)))
