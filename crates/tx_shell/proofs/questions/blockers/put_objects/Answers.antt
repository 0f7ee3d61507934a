use Rattle.std.proofs.Common.{rules, ◌<◌, ◌≤◌, ◌++◌, ◌∙◌, ℕ, List, ap, length, string_bytes}
use Rattle.std.proofs.lemmas.List.{take_all}
use Rattle.tx_shell.proofs.Gathered.{each_more, text_map}
use Rattle.tx_shell.specs.Blockers.{blocked_of}
use Rattle.tx_shell.specs.Names.{named}
use Rattle.tx_shell.specs.Reasons.{blocked_line}
use Rattle.tx_shell.specs.declared.questions.blockers.Blocker.{Blocker}
use Rattle.tx_state_text.specs.Each.{each_text}
use Rattle.tx_shell.proofs.questions.blockers.put_objects.Goals as goal

pub loop-i-preserved : goal.loop-i-preserved
loop-i-preserved c =
    let inside : c.loop-i.i < length c.args.blockers.now = search rules in
    let line : Blocker → List ℕ = λ b. blocked_line (named c.args.names) (blocked_of b) in
    each_more line c.args.blockers.now c.loop-i.i c.index-blockers-i.result (string_bytes c.args.text.now) (string_bytes c.loop-i.text) (string_bytes c.put_object.new.text) inside c.loop-i.invariant
    (c.in_ok-put_object.ensures ∙ ap (λ (b : Blocker). string_bytes c.loop-i.text ++ line b) c.index-blockers-i.is)

pub returns : goal.returns
returns c =
    let done : length c.args.blockers.now ≤ c.loop-i.i = search rules in
    c.loop-i.invariant
    ∙ ap (λ (bs : List Blocker). string_bytes c.args.text.now ++ each_text (λ b. blocked_line (named c.args.names) (blocked_of b)) bs) (take_all c.loop-i.i c.args.blockers.now done)
    ∙ ap (λ (t : List ℕ). string_bytes c.args.text.now ++ t) (text_map (blocked_line (named c.args.names)) blocked_of c.args.blockers.now)
