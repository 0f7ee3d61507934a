use Rattle.std.proofs.Common.{rules, true, ◌≡◌, ◌<◌, ◌++◌, ◌∷◌, [], length}
use Rattle.std.proofs.Math.Seq.{set-append_seam}
use Rattle.tx_translate.proofs.first_lines.add_step.Goals as goal

pub returns-then-read_step_into-clause-added : goal.returns-then-read_step_into-clause-added
returns-then-read_step_into-clause-added c = λ is.
    let steps = c.args.steps.now.items in
    let step = c.read_step_into.new.step in
    let read : c.read_step_into.result ≡ true = search rules in
    let grown : c.push.new.self.items ≡ steps ++ c.blank.result ∷ [] = search rules in
    let last : c.len-count.result ≡ length steps = search (rules, c.len-count.ensures) in
    let few : length steps < 4096 = search rules in (
      search rules,
      few,
      record {
        added = step;
        more = rw (grown, last) (set-append_seam steps c.blank.result [] step);
        spelled = rw read at c.read_step_into.ensures.found;
        good = rw read at c.read_step_into.ensures.fits;
      },
    )
