use Rattle.std.proofs.Common.{rules, ◌≡◌, ◌∷◌, [], ◌++◌, ◌∙◌, List, ℕ, ℤ, ap, sym, subst, arith, pos, to_z, codes, string_bytes}
use Rattle.std.proofs.lemmas.Fmt.{decimal_digit, decimal_step}
use Rattle.std.proofs.lemmas.Int.{to_z-of_z}
use Rattle.std.specs.Fmt.{decimal}
use Rattle.std.specs.Int.{w64}
use Rattle.std.specs.Prelude.{FitsSigned, OnOk}
use Rattle.tx_base.specs.declared.steps.Reply.{Reply}
use Rattle.tx_base.specs.declared.steps.Reply.TheVariants.{Done}
use Rattle.tx_state_text.specs.Replies.{named_reply_text}
use Rattle.tx_shell.proofs.answers.steps.put_reply_line.Goals as goal

-- the status of an abort that a member asked for
called_off : decimal 201 ≡ codes "201"
called_off =
    decimal_step 201 (omega arith) (omega arith)
    ∙ ap (λ (front : List ℕ). front ++ 49 ∷ []) (decimal_step 20 (omega arith) (omega arith) ∙ ap (λ (front : List ℕ). front ++ 48 ∷ []) (decimal_digit 2 (omega arith)))

pub returns-then-ret-eq0 : goal.returns-then-ret-eq0
returns-then-ret-eq0 c =
    let fits : FitsSigned w64 c.in-Done.ret = search rules in
    let none : c.in-Done.ret ≡ pos 0 = sym (to_z-of_z w64 c.in-Done.ret fits) ∙ ap (to_z w64) c.if-ret-eq0.true in
    let line : named_reply_text c.args.reply.now ++ 10 ∷ [] ≡ codes "ok 0\n" =
    ap (λ (reply : Reply). named_reply_text reply ++ 10 ∷ []) c.in-Done.is ∙ ap (λ (ret : ℤ). named_reply_text (Done ret) ++ 10 ∷ []) none
    ∙ ap (λ (digits : List ℕ). ((codes "ok " ++ digits) ++ []) ++ 10 ∷ []) (decimal_digit 0 (omega arith)) in
    subst (λ (bytes : List ℕ). OnOk c.put.result (string_bytes c.put.new.text ≡ bytes)) (ap (λ (front : List ℕ). front ++ codes "ok 0\n") c.clear.ensures.bytes ∙ sym line) c.put.ensures

pub returns-then-status-eq-ABORTED_BY_CALL : goal.returns-then-status-eq-ABORTED_BY_CALL
returns-then-status-eq-ABORTED_BY_CALL c =
    let spelled : decimal c.in-Aborted.status ≡ codes "201" = ap decimal c.if-status-eq-ABORTED_BY_CALL.true ∙ called_off in
    let line : named_reply_text c.args.reply.now ++ 10 ∷ [] ≡ codes "aborted 201\n" =
    ap (λ (reply : Reply). named_reply_text reply ++ 10 ∷ []) c.in-Aborted.is ∙ ap (λ (digits : List ℕ). ((codes "aborted " ++ digits) ++ []) ++ 10 ∷ []) spelled in
    subst (λ (bytes : List ℕ). OnOk c.put-then-status-eq-ABORTED_BY_CALL.result (string_bytes c.put-then-status-eq-ABORTED_BY_CALL.new.text ≡ bytes)) (ap (λ (front : List ℕ). front ++ codes "aborted 201\n") c.clear.ensures.bytes ∙ sym line) c.put-then-status-eq-ABORTED_BY_CALL.ensures
