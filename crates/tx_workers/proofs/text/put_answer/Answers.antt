use Rattle.std.proofs.Common.{rules, ◌≡◌, ◌∷◌, [], ◌++◌, ◌∙◌, List, ℕ, ap, sym, subst, arith, pos, to_z, codes, string_bytes}
use Rattle.std.proofs.lemmas.Fmt.{decimal_digit}
use Rattle.std.proofs.lemmas.Int.{to_z-of_z}
use Rattle.std.specs.Fmt.{signed_decimal}
use Rattle.std.specs.Int.{w64}
use Rattle.std.specs.Prelude.{FitsSigned, OnOk}
use Rattle.tx_base.specs.declared.steps.Reply.{Reply}
use Rattle.tx_state_text.specs.Replies.{reply_text}
use Rattle.tx_workers.proofs.text.put_answer.Goals as goal

pub returns-then-ret-eq0 : goal.returns-then-ret-eq0
returns-then-ret-eq0 c =
    let fits : FitsSigned w64 c.in-Done.ret = search rules in
    let none : c.in-Done.ret ≡ pos 0 = sym (to_z-of_z w64 c.in-Done.ret fits) ∙ ap (to_z w64) c.if-ret-eq0.true in
    let spelled : signed_decimal c.in-Done.ret ≡ 48 ∷ [] = ap signed_decimal none ∙ decimal_digit 0 (omega arith) in
    let line : codes " : " ++ (reply_text c.args.reply.now ++ 10 ∷ []) ≡ codes " : ok 0\n" =
    ap (λ (reply : Reply). codes " : " ++ (reply_text reply ++ 10 ∷ [])) c.in-Done.is ∙ ap (λ (digits : List ℕ). codes " : " ++ ((codes "ok " ++ digits) ++ 10 ∷ [])) spelled in
    subst (λ (bytes : List ℕ). OnOk c.put.result (string_bytes c.put.new.text ≡ string_bytes c.args.text.now ++ bytes)) (sym line) c.put.ensures
