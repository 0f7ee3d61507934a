use Rattle.std.proofs.Common.{◌≡◌, ◌∙◌, List, None, Some, ap, sym, subst, is_some, IfSome, IsTrue}
use Rattle.std.specs.List.{find}
use Rattle.std.specs.Prelude.{option_map}
use Rattle.tx_explain.specs.declared.topic.Group.{Group}
use Rattle.tx_explain.specs.Table.{Row}
use Rattle.tx_explain.specs.Topics.{asked, name_in, opens, spells, topics_in}
use Rattle.tx_explain.proofs.Asked.{found_formed, row_is}
use Rattle.tx_explain.proofs.Known.{answers, answers_page, every_call, every_error, every_number, every_refusal}
use Rattle.tx_explain.proofs.find.explain.Goals as goal

known : (c : goal.After-from_residual) → is_some c.from_residual.result ≡ is_some (asked c.args.word.now)
known c =
    let found = c.in_err-topic.ensures ∙ ap (λ (gs : List Group). find (spells c.args.word.now) (topics_in gs)) c.as_slice.ensures in
    ap is_some c.from_residual.ensures ∙ sym (ap (λ it. is_some (option_map name_in it)) (row_is c.args.word.now c.groups-groups.result None c.groups-groups.ensures.rows found))

pub returns-in_err-topic-clause-known : goal.returns-in_err-topic-clause-known
returns-in_err-topic-clause-known c = known c

none_begins : (c : goal.After-from_residual) → IfSome c.from_residual.result (λ text. IfSome (asked c.args.word.now) (λ name. IsTrue (opens name text.now)))
none_begins c = subst (λ it. IfSome it (λ text. IfSome (asked c.args.word.now) (λ name. IsTrue (opens name text.now)))) (sym c.from_residual.ensures) tt

pub returns-in_err-topic-clause-calls : goal.returns-in_err-topic-clause-calls
returns-in_err-topic-clause-calls c = λ call is. answers_page c.args.word.now _ _ _ (known c) (none_begins c) is (every_call call)

pub returns-in_err-topic-clause-refusals : goal.returns-in_err-topic-clause-refusals
returns-in_err-topic-clause-refusals c = λ why is. answers_page c.args.word.now _ _ _ (known c) (none_begins c) is (every_refusal why)

pub returns-in_err-topic-clause-errors : goal.returns-in_err-topic-clause-errors
returns-in_err-topic-clause-errors c = λ error is. answers_page c.args.word.now _ _ _ (known c) (none_begins c) is (every_error error)

pub returns-in_err-topic-clause-numbers : goal.returns-in_err-topic-clause-numbers
returns-in_err-topic-clause-numbers c = λ error is. answers c.args.word.now _ _ (known c) is (every_number error)

pub returns-clause-first : goal.returns-clause-first
returns-clause-first c =
    let found = c.in_ok-topic.ensures ∙ ap (λ (gs : List Group). find (spells c.args.word.now) (topics_in gs)) c.as_slice.ensures in
    sym (ap (option_map (λ (row : Row). row.1)) (row_is c.args.word.now c.groups-groups.result (Some c.in_ok-topic.topic.now) c.groups-groups.ensures.rows found))

pub returns-clause-known : goal.returns-clause-known
returns-clause-known c =
    let found = c.in_ok-topic.ensures ∙ ap (λ (gs : List Group). find (spells c.args.word.now) (topics_in gs)) c.as_slice.ensures in
    sym (ap (λ it. is_some (option_map name_in it)) (row_is c.args.word.now c.groups-groups.result (Some c.in_ok-topic.topic.now) c.groups-groups.ensures.rows found))

pub returns-clause-opens : goal.returns-clause-opens
returns-clause-opens c =
    let found = c.in_ok-topic.ensures ∙ ap (λ (gs : List Group). find (spells c.args.word.now) (topics_in gs)) c.as_slice.ensures in
    let row = row_is c.args.word.now c.groups-groups.result (Some c.in_ok-topic.topic.now) c.groups-groups.ensures.rows found in
    let formed = found_formed c.args.word.now c.groups-groups.result _ c.groups-groups.ensures.formed found in
    subst (λ name. IfSome name (λ word. IsTrue (opens word c.in_ok-topic.topic.now.text.now))) (sym (ap (option_map name_in) row)) formed.0

pub returns-clause-lines : goal.returns-clause-lines
returns-clause-lines c =
    let found = c.in_ok-topic.ensures ∙ ap (λ (gs : List Group). find (spells c.args.word.now) (topics_in gs)) c.as_slice.ensures in
    (found_formed c.args.word.now c.groups-groups.result _ c.groups-groups.ensures.formed found).1

pub returns-clause-calls : goal.returns-clause-calls
returns-clause-calls c = λ call is. answers_page c.args.word.now _ _ (Some c.in_ok-topic.topic.now.text) (returns-clause-known c) (returns-clause-opens c) is (every_call call)

pub returns-clause-refusals : goal.returns-clause-refusals
returns-clause-refusals c = λ why is. answers_page c.args.word.now _ _ (Some c.in_ok-topic.topic.now.text) (returns-clause-known c) (returns-clause-opens c) is (every_refusal why)

pub returns-clause-errors : goal.returns-clause-errors
returns-clause-errors c = λ error is. answers_page c.args.word.now _ _ (Some c.in_ok-topic.topic.now.text) (returns-clause-known c) (returns-clause-opens c) is (every_error error)
