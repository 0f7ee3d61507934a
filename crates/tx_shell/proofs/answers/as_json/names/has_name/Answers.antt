use Rattle.std.proofs.Common.{◌≡◌, ◌∙◌, ◌<◌, ◌||◌, true, false, add-one, ap, arith, is_some, refl, sym}
use Rattle.tx_shell.proofs.NamesThere.{has_one, some_mapped}
use Rattle.tx_shell.specs.Names.{has_name, named}
use Rattle.tx_shell.proofs.answers.as_json.names.has_name.Goals as goal

pub loop-process-init : goal.loop-process-init
unfolding has_name
loop-process-init c = refl

pub returns-then-is_some : goal.returns-then-is_some
returns-then-is_some c =
    let names = named c.args.names in
    let below : c.loop-process.process < 257 = omega (arith, c.loop-process-test.true, c.limit-process-end.ensures) in
    let some : is_some (names c.loop-process.process) ≡ true = ap is_some (sym c.of.ensures) ∙ some_mapped (λ name. name.now) c.of.result ∙ sym c.is_some.ensures ∙ c.if-is_some.true in
    sym (has_one names c.loop-process.process 257 below some)

pub loop-process-preserved : goal.loop-process-preserved
unfolding has_name
loop-process-preserved c =
    let names = named c.args.names in
    let none : is_some (names c.loop-process.process) ≡ false = ap is_some (sym c.of.ensures) ∙ some_mapped (λ name. name.now) c.of.result ∙ sym c.is_some.ensures ∙ c.if-is_some.false in
    ap (has_name names) (add-one c.loop-process.process) ∙ (λ i. c.loop-process.invariant i || none i)
