use Rattle.std.proofs.Common.{rules, true, ◌≡◌, ◌++◌, ◌∷◌, [], length}
use Rattle.std.proofs.Math.Seq.{set-append_seam}
use Rattle.tx_lines.proofs.read.text.push_step.Goals as goal

pub returns-clause-added : goal.returns-clause-added
returns-clause-added c =
    let steps = c.args.steps.now.items in
    let step = c.read_step_into.new.step in
    let read : c.read_step_into.result ≡ true = c.if-not-read_step_into.false in
    let grown : c.push.new.self.items ≡ steps ++ c.blank.result ∷ [] = search rules in
    let last : c.len-count.result ≡ length steps = search (rules, c.len-count.ensures) in
    record {
      added = step;
      more = rw (grown, last) (set-append_seam steps c.blank.result [] step);
      spelled = rw read at c.read_step_into.ensures.found;
      good = record { fits = rw read at c.read_step_into.ensures.fits; of = rw read at c.read_step_into.ensures.within };
    }
