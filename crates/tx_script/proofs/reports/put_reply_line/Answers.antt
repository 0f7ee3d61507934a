use Rattle.std.proofs.Common.{rules, ◌≡◌, ◌∷◌, [], ◌++◌, ◌∙◌, List, ℕ, ap, sym, subst, append_assoc, arith, pos, to_z, codes, string_bytes}
use Rattle.std.specs.Int.{w64}
use Rattle.std.specs.Prelude.{FitsSigned, OnOk}
use Rattle.std.specs.Fmt.{decimal, signed_decimal}
use Rattle.std.proofs.lemmas.Int.{to_z-of_z}
use Rattle.std.proofs.lemmas.Fmt.{decimal_digit, decimal_step}
use Rattle.tx_script.specs.Report.{line_text}
use Rattle.tx_script.proofs.reports.put_reply_line.Goals as goal

-- a line whose number was appended, and then what follows it
line_after : (before appended number following line : List ℕ) → appended ≡ before ++ number → line ≡ number ++ following → appended ++ following ≡ before ++ line
line_after before appended number following line is spelled =
    ap (λ (front : List ℕ). front ++ following) is ∙ append_assoc before number following ∙ ap (λ (bytes : List ℕ). before ++ bytes) (sym spelled)

-- the status of an abort that a member asked for
called_off : decimal 201 ≡ codes "201"
called_off =
    decimal_step 201 (omega arith) (omega arith)
    ∙ ap (λ (front : List ℕ). front ++ 49 ∷ []) (decimal_step 20 (omega arith) (omega arith) ∙ ap (λ (front : List ℕ). front ++ 48 ∷ []) (decimal_digit 2 (omega arith)))

pub returns-then-ret-eq0 : goal.returns-then-ret-eq0
returns-then-ret-eq0 c =
    let fits : FitsSigned w64 c.in-Done.ret = search rules in
    let none : c.in-Done.ret ≡ pos 0 = sym (to_z-of_z w64 c.in-Done.ret fits) ∙ ap (to_z w64) c.if-ret-eq0.true in
    let spelled : signed_decimal c.in-Done.ret ≡ 48 ∷ [] = ap signed_decimal none ∙ decimal_digit 0 (omega arith) in
    let line : line_text c.args.number.now c.args.reply.now ≡ decimal c.args.number.now ++ codes " ok 0\n" =
    ap (line_text c.args.number.now) c.in-Done.is ∙ ap (λ (digits : List ℕ). decimal c.args.number.now ++ 32 ∷ ((codes "ok " ++ digits) ++ 10 ∷ [])) spelled in
    subst (λ (bytes : List ℕ). OnOk c.put.result (string_bytes c.put.new.text ≡ bytes))
    (line_after (string_bytes c.args.text.now) (string_bytes c.append_to.new.text) (decimal c.args.number.now) (codes " ok 0\n") (line_text c.args.number.now c.args.reply.now) c.in_ok-append_to.ensures line)
    c.put.ensures

pub returns-then-status-eq-ABORTED_BY_CALL : goal.returns-then-status-eq-ABORTED_BY_CALL
returns-then-status-eq-ABORTED_BY_CALL c =
    let spelled : decimal c.in-Aborted.status ≡ codes "201" = ap decimal c.if-status-eq-ABORTED_BY_CALL.true ∙ called_off in
    let line : line_text c.args.number.now c.args.reply.now ≡ decimal c.args.number.now ++ codes " aborted 201\n" =
    ap (line_text c.args.number.now) c.in-Aborted.is ∙ ap (λ (digits : List ℕ). decimal c.args.number.now ++ 32 ∷ ((codes "aborted " ++ digits) ++ 10 ∷ [])) spelled in
    subst (λ (bytes : List ℕ). OnOk c.put-then-status-eq-ABORTED_BY_CALL.result (string_bytes c.put-then-status-eq-ABORTED_BY_CALL.new.text ≡ bytes))
    (line_after (string_bytes c.args.text.now) (string_bytes c.append_to.new.text) (decimal c.args.number.now) (codes " aborted 201\n") (line_text c.args.number.now c.args.reply.now) c.in_ok-append_to.ensures line)
    c.put-then-status-eq-ABORTED_BY_CALL.ensures
