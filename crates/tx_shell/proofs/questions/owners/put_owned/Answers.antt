use Rattle.std.proofs.Common.{◌≡◌, ℕ, List, ◌∷◌, ◌++◌, ◌∙◌, ap, append_assoc, arith, string_bytes}
use Rattle.std.proofs.lemmas.Result.{on_ok_weaker}
use Rattle.tx_content.specs.Content.{view_of}
use Rattle.tx_shell.proofs.Numbered.{all_numbered, none_numbered, one_numbered}
use Rattle.tx_waits.specs.Kinds.{limit_of, word_of}
use Rattle.tx_shell.specs.Names.{named}
use Rattle.tx_shell.specs.Owners.{list_said, listed_below, number_said, owns_one}
use Rattle.tx_shell.proofs.questions.owners.put_owned.Goals as goal

pub loop-number-init : goal.loop-number-init
loop-number-init c = none_numbered (number_said (named c.args.names) c.args.kind) (owns_one (view_of c.args.machine.now) c.args.starter.0 c.args.kind) (string_bytes c.write.new.self)

pub loop-number-preserved : goal.loop-number-preserved
loop-number-preserved c =
    let view = view_of c.args.machine.now in
    one_numbered (number_said (named c.args.names) c.args.kind) (owns_one view c.args.starter.0 c.args.kind) (string_bytes c.write.new.self) (string_bytes c.loop-number.text) (string_bytes c.put_number.new.text) c.loop-number.some c.in_ok-some.some
    c.has_reserved-listed.result c.loop-number.number c.loop-number.invariant (c.has_reserved-listed.ensures ∙ ap (view.reserved c.args.starter.0) c.object.ensures) c.in_ok-some.ensures.text c.in_ok-some.ensures.some

pub returns : goal.returns
returns c =
    let past = c.loop-number-test.false in
    let within = c.loop-number.auto.number-end in
    let limit : c.limit-number-end.result ≡ limit_of c.args.kind = c.limit-number-end.ensures in
    let owns = owns_one (view_of c.args.machine.now) c.args.starter.0 c.args.kind in
    let listed : List ℕ = list_said (number_said (named c.args.names) c.args.kind) (listed_below owns (limit_of c.args.kind)) in
    let front : string_bytes c.write.new.self ≡ string_bytes c.args.text.now ++ 32 ∷ word_of c.args.kind =
    c.in_ok-write.ensures.bytes ∙ ap (λ (word : List ℕ). string_bytes c.args.text.now ++ 32 ∷ word) c.word.ensures in
    on_ok_weaker c.put.result
    (λ put. all_numbered (number_said (named c.args.names) c.args.kind) owns (string_bytes c.write.new.self) (string_bytes c.loop-number.text) (string_bytes c.put.new.text) c.loop-number.some c.loop-number.number
    (limit_of c.args.kind) c.loop-number.invariant (omega (arith, past, within, limit)) (put ∙ ap (λ (t : List ℕ). string_bytes c.loop-number.text ++ t) c.dash.ensures)
    ∙ ap (λ (t : List ℕ). t ++ listed) front ∙ append_assoc (string_bytes c.args.text.now) (32 ∷ word_of c.args.kind) listed) c.put.ensures
