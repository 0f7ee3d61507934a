use Rattle.std.proofs.Common.{rules, ◌<◌, ◌≤◌, ap, sym, ◌∙◌}
use Rattle.std.specs.Option.{option_copied}
use Rattle.tx_model.specs.Membership.{inside_by}
use Rattle.tx_proc.specs.Parts.{process_of}
use Rattle.tx_workers.specs.Offers.{in_order, is_offered, offered}
use Rattle.tx_workers.proofs.Finding.{found_here, found_later, found_nowhere}
use Rattle.tx_workers.proofs.Unoffered.{none_offered}
use Rattle.tx_workers.proofs.offers.offered.Goals as goal

pub returns-then-is_empty : goal.returns-then-is_empty
returns-then-is_empty c = λ t.
    let me = process_of c.args.proc.now in
    let nothing = c.is_empty.ensures.0 c.if-is_empty.true in
    none_offered me (ap (λ p. p.standard) nothing) (ap (λ p. p.queued) nothing) (inside_by t (option_copied c.args.mark))

pub returns-then-is_offered : goal.returns-then-is_offered
returns-then-is_offered c t =
    let inside = inside_by t (option_copied c.args.mark) in
    let me = process_of c.args.proc.now in
    let within : c.loop-i.i < 20 = search rules in
    found_here (is_offered inside me) in_order c.loop-i.i 0 (offered inside me) (c.loop-i.invariant t) within (sym (c.is_offered.ensures t) ∙ c.if-is_offered.true)

pub loop-i-preserved : goal.loop-i-preserved
loop-i-preserved c t =
    let inside = inside_by t (option_copied c.args.mark) in
    let me = process_of c.args.proc.now in
    let within : c.loop-i.i < 20 = search rules in
    found_later (is_offered inside me) in_order c.loop-i.i 0 (offered inside me) (c.loop-i.invariant t) within (sym (c.is_offered.ensures t) ∙ c.if-is_offered.false)

pub returns : goal.returns
returns c t =
    let inside = inside_by t (option_copied c.args.mark) in
    let me = process_of c.args.proc.now in
    let past : 20 ≤ c.loop-i.i = search rules in
    found_nowhere (is_offered inside me) in_order c.loop-i.i (offered inside me) (c.loop-i.invariant t) past
