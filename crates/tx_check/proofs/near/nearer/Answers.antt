use Rattle.std.proofs.Common.{◌<◌, ◌≤◌, ℕ, Option, IfNone, IfSome, option_map, subst, sym}
use Rattle.tx_check.proofs.NearNames.{nearer_found, not_nearer}
use Rattle.tx_check.specs.Near.{near, IsNear}
use Rattle.tx_check.proofs.near.nearer.Goals as goal

pub returns-in-Some : goal.returns-in-Some
returns-in-Some c = λ names is.
    let word = c.args.word.now in
    let near_it = subst (λ (f : Option ℕ). IfSome f (IsNear word c.args.name.now)) c.in-Some.is c.in_ok-fewer.ensures.near in
    let less = subst (λ (f : Option ℕ). IfSome f (λ d. d < c.bound.result)) c.in-Some.is c.in_ok-fewer.ensures.fewer in
    rw (sym c.requires) (nearer_found word names 5 c.bound.result c.in-Some.fewer (option_map near c.args.nearest) c.args.name.now c.bound.ensures near_it less is)

pub returns-in-None : goal.returns-in-None
returns-in-None c = λ names is.
    let far = subst (λ (f : Option ℕ). IfNone f ((d : ℕ) → IsNear c.args.word.now c.args.name.now d → c.bound.result ≤ d)) c.in-None.is c.in_ok-fewer.ensures.far in
    not_nearer c.args.word.now names 5 c.bound.result (option_map near c.args.nearest) c.args.name.now c.bound.ensures far is
