use Rattle.std.proofs.Common.{◌≡◌, ◌+◌, ◌<◌, ◌++◌, suc, ℕ, ◌∷◌, arith, drop, length, string_bytes, refl, sym, ap, ◌∙◌, add-one, drop-cons}
use Rattle.tx_shell.proofs.Differed.{one_past, pair_more, pairs_said}
use Rattle.tx_shell.specs.Differences.{differing}
use Rattle.tx_shell.proofs.questions.differences.put_all_differing.Goals as goal

pub loop-i-init : goal.loop-i-init
loop-i-init c = refl

pub loop-i-preserved : goal.loop-i-preserved
loop-i-preserved c =
    let i : ℕ = c.loop-i.i in
    let before = c.args.before.now in
    let after = c.args.after.now in
    let one = c.index-before-i.result in
    let other = c.index-after-i.result in
    let low : i < length before = omega (arith, c.loop-i-test.true, c.min-end.ensures) in
    let high : i < length after = omega (arith, c.loop-i-test.true, c.min-end.ensures) in
    let first : drop i before ≡ one ∷ drop (i + 1) before =
    drop-cons before i one low
    ∙ ap (λ x. x ∷ drop (suc i) before) (sym c.index-before-i.is)
    ∙ ap (λ (n : ℕ). one ∷ drop n before) (sym (add-one i)) in
    let second : drop i after ≡ other ∷ drop (i + 1) after =
    drop-cons after i other high
    ∙ ap (λ x. x ∷ drop (suc i) after) (sym c.index-after-i.is)
    ∙ ap (λ (n : ℕ). other ∷ drop n after) (sym (add-one i)) in
    pair_more string_bytes before after (string_bytes c.args.text.now) (string_bytes c.loop-i.text) (string_bytes c.put_differing.new.text) i one other c.loop-i.invariant first second
    (c.in_ok-put_differing.ensures ∙ (λ j. string_bytes c.loop-i.text ++ differing (c.as_str.ensures.value j) (c.as_str-in-loop-i.ensures.value j)))

pub returns : goal.returns
returns c =
    pairs_said string_bytes c.args.before.now c.args.after.now (string_bytes c.args.text.now) (string_bytes c.loop-i.text) c.loop-i.i c.loop-i.invariant
    (one_past (length c.args.before.now) (length c.args.after.now) c.min-end.result c.loop-i.i (omega (arith, c.min-end.ensures)) c.loop-i-test.false)
