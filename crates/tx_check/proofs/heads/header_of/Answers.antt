use Rattle.std.proofs.Common.{◌≡◌, ◌∙◌, ◌∷◌, ◌++◌, [], List, ℕ, ap, rules, sym, true}
use Rattle.tx_check.proofs.FirstLines.{header_spelled, header_wrong}
use Rattle.tx_lines.specs.Schedule.{first_line}
use Rattle.tx_translate.specs.MeantLines.{left_of}
use Rattle.tx_check.proofs.heads.header_of.Goals as goal

pub returns-in-Ok : goal.returns-in-Ok
returns-in-Ok c =
    let text = left_of c.args.text in
    let next = c.cut.ensures.line in
    let line : c.meaning.result.now ≡ first_line text = c.meaning.ensures ∙ next.bytes in
    let head : c.as_slice.result.now ≡ first_line text ++ 10 ∷ [] = c.as_slice.ensures.value ∙ c.in-Some.ensures ∙ ap (λ (t : List ℕ). t ++ 10 ∷ []) line in
    let ended : c.cut.result.0.is_ended ≡ true = search rules in
    header_spelled c.args.kind text c.as_slice.result.now (left_of c.cut.result.1) c.in-Ok._rest.now c.in-Ok.header head (sym next.ended ∙ ended) next.behind c.in-Ok.ensures

pub returns-in-Err : goal.returns-in-Err
returns-in-Err c =
    let text = left_of c.args.text in
    let line : c.meaning.result.now ≡ first_line text = c.meaning.ensures ∙ c.cut.ensures.line.bytes in
    let head : c.as_slice.result.now ≡ first_line text ++ 10 ∷ [] = c.as_slice.ensures.value ∙ c.in-Some.ensures ∙ ap (λ (t : List ℕ). t ++ 10 ∷ []) line in
    header_wrong c.args.kind text c.as_slice.result.now c.in-Err.fault head c.in-Err.ensures
