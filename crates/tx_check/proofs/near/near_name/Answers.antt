use Rattle.std.proofs.Common.{◌≡◌, List, ℕ, IfOk, inr, map, option_map, refl, subst}
use Rattle.tx_check.proofs.FaultKinds.{ok_map}
use Rattle.tx_check.specs.Near.{call_names, name_of, FindsName, IsFoundIn}
use Rattle.tx_check.specs.declared.trouble.Names.TheVariants as lists
use Rattle.tx_check.proofs.near.near_name.Goals as goal

pub returns-in-Calls : goal.returns-in-Calls
returns-in-Calls c =
    let word = c.args.word.now in
    let found = c.nearest_name.result in
    let same : map (λ form. form.0.now) c.as_slice.result.now ≡ call_names = rw c.as_slice.ensures refl in
    let is = subst (λ (names : List (List ℕ)). IfOk found (λ name. FindsName word names 5 (option_map name_of name))) same c.nearest_name.ensures in
    rw c.in-Calls.is (ok_map found (λ name. FindsName word call_names 5 (option_map name_of name)) (IsFoundIn lists.Calls word) (λ name is. inr is) is)
