use Rattle.std.proofs.Common.{◌≡◌, ◌∙◌, ◌∷◌, ◌++◌, sym}
use Rattle.std.specs.Bool.{then_some}
use Rattle.std.proofs.lemmas.Option.{IfSome_then}
use Rattle.tx_lines.proofs.FirstWord.{split_parts}
use Rattle.tx_lines.proofs.read.calls.other_call.Goals as goal

pub returns-in-Some-clause-found : goal.returns-in-Some-clause-found
returns-in-Some-clause-found c =
    let whole : c.args.text.now ≡ c.in-Some.name.now ++ 32 ∷ c.in-Some.arguments.now = split_parts 32 c.args.text.now c.in-Some.name.now c.in-Some.arguments.now (sym c.in-Some.ensures) in
    IfSome_then (then_some c.memory_call.result c.memory_call.new.call) c.memory_call.ensures.found (λ call spells. (whole ∙ spells.0, spells.1, spells.2))
