use Rattle.std.proofs.Common.{rules, ◌≤◌, ◌<◌, ◌∙◌, ◌++◌, ℕ, List, ap, refl, get_or, string_bytes}
use Rattle.std.proofs.lemmas.Result.{on_ok_weaker}
use Rattle.tx_base.specs.Signals.{bits_of}
use Rattle.tx_lines.proofs.Known.{all_looked, all_signals, none_looked, one_more_looked}
use Rattle.tx_lines.proofs.print.members.put_set.Goals as goal

pub loop-i-init : goal.loop-i-init
loop-i-init c = none_looked (bits_of c.args.set) (string_bytes c.args.text.now)

pub loop-i-preserved : goal.loop-i-preserved
loop-i-preserved c =
    let inside : c.loop-i.i < 19 = search rules in
    one_more_looked (bits_of c.args.set) (string_bytes c.args.text.now) (string_bytes c.loop-i.text) (string_bytes c.put_signal.new.text) c.loop-i.some c.in_ok-some.some c.loop-i.i (get_or all_signals c.loop-i.i 0)
    c.loop-i.invariant inside refl c.in_ok-some.ensures.text c.in_ok-some.ensures.some

pub returns : goal.returns
returns c =
    let done : 19 ≤ c.loop-i.i = search rules in
    on_ok_weaker c.put.result
    (λ more. all_looked (bits_of c.args.set) (string_bytes c.args.text.now) (string_bytes c.loop-i.text) (string_bytes c.put.new.text) c.loop-i.some c.loop-i.i c.loop-i.invariant done
    (more ∙ ap (λ (t : List ℕ). string_bytes c.loop-i.text ++ t) c.dash.ensures))
    c.put.ensures
