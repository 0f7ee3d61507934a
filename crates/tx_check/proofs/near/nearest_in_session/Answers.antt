use Rattle.std.proofs.Common.{◌≡◌, ◌++◌, [], List, ℕ, map, option_map, refl, subst}
use Rattle.tx_check.specs.Near.{call_names, near, FindsNear}
use Rattle.tx_check.specs.declared.forms.TheConstants.{SESSION}
use Rattle.tx_check.proofs.near.nearest_in_session.Goals as goal

pub returns : goal.returns
returns c =
    let word = c.args.word.now in
    let commands : map (λ form. form.0.now) c.as_slice.result.now ≡ map (λ form. form.0.now) SESSION = rw c.as_slice.ensures refl in
    let calls : map (λ form. form.0.now) c.as_slice-2.result.now ≡ call_names = rw c.as_slice-2.ensures refl in
    let command = subst (λ (names : List (List ℕ)). FindsNear word names 5 (option_map near c.in_ok-command.command)) commands (c.in_ok-command.ensures [] tt) in
    let nearest = c.in_ok-nearest.ensures (map (λ form. form.0.now) SESSION) command in
    c.named.ensures word (map (λ form. form.0.now) SESSION ++ call_names)
    (subst (λ (names : List (List ℕ)). FindsNear word (map (λ form. form.0.now) SESSION ++ names) 5 (option_map near c.in_ok-nearest.nearest)) calls nearest)
