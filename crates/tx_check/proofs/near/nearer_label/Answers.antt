use Rattle.std.proofs.Common.{◌++◌, ◌∷◌, [], List, ℕ, option_map, subst}
use Rattle.tx_check.proofs.FaultKinds.{ok_map}
use Rattle.tx_check.proofs.NearNames.{with_label_name}
use Rattle.tx_check.specs.Near.{near, with_name, FindsNear}
use Rattle.tx_translate.specs.MeantLines.{line_of}
use Rattle.tx_check.proofs.near.nearer_label.Goals as goal

pub returns-in-Some : goal.returns-in-Some
returns-in-Some c =
    let word = c.args.word.now in
    let line = line_of c.args.line in
    ok_map c.nearer.result (λ next. (names : List (List ℕ)) → FindsNear word names 5 (option_map near c.args.nearest) → FindsNear word (names ++ c.in-Some.name.now ∷ []) 5 (option_map near next))
    (λ next. (names : List (List ℕ)) → FindsNear word names 5 (option_map near c.args.nearest) → FindsNear word (with_name line names) 5 (option_map near next))
    (λ next more names is.
    rw (with_label_name line names c.in-Some.ensures.label)
    (subst (λ (name : List ℕ). FindsNear word (names ++ name ∷ []) 5 (option_map near next)) c.in-Some.ensures.name (more names is)))
    c.nearer.ensures
