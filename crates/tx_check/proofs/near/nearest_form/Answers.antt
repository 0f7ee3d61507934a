use Rattle.std.proofs.Common.{◌∙◌, ◌++◌, ◌∷◌, [], List, ℕ, append_assoc, ap, arith, map, option_map, subst, sym, take}
use Rattle.std.proofs.lemmas.List.{take_all}
use Rattle.tx_check.proofs.NearNames.{one_more}
use Rattle.tx_check.specs.Near.{near, FindsNear}
use Rattle.tx_check.proofs.near.nearest_form.Goals as goal

pub loop-at-preserved : goal.loop-at-preserved
loop-at-preserved c = λ names is.
    let word = c.args.word.now in
    let forms = c.args.forms.now in
    let at = c.loop-at.at in
    let before = names ++ map (λ form. form.0.now) (take at forms) in
    let next = c.in_ok-found.ensures before (c.loop-at.invariant names is) in
    let one = subst (λ (name : List ℕ). FindsNear word (before ++ name ∷ []) 5 (option_map near c.in_ok-found.found)) c.as_bytes.ensures.value next in
    let more = one_more (λ form. form.0.now) forms at _ (omega (arith, c.loop-at-test.true)) in
    subst (λ (those : List (List ℕ)). FindsNear word those 5 (option_map near c.in_ok-found.found))
    (sym (ap (λ (those : List (List ℕ)). names ++ those) more ∙ sym (append_assoc names (map (λ form. form.0.now) (take at forms)) _))) one

pub returns : goal.returns
returns c = λ names is.
    let all = take_all c.loop-at.at c.args.forms.now (omega (arith, c.loop-at-test.false)) in
    rw all at (c.loop-at.invariant names is)
