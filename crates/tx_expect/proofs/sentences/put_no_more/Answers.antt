use Rattle.std.proofs.Common.{◌≡◌, ◌++◌, ◌∷◌, [], ◌∙◌, List, ℕ, OnOk, ap, append_assoc, codes, map, string_bytes, subst}
use Rattle.tx_check.specs.Speaking.{shown}
use Rattle.tx_expect.proofs.sentences.put_no_more.Goals as goal

-- the bytes before the line's end
before_end : (before first second front shown_bytes : List ℕ) → first ≡ before ++ front → second ≡ first ++ shown_bytes
    → second ++ 10 ∷ [] ≡ before ++ (front ++ (shown_bytes ++ 10 ∷ []))
before_end before first second front shown_bytes one two =
    ap (λ (t : List ℕ). t ++ 10 ∷ []) (two ∙ ap (λ (t : List ℕ). t ++ shown_bytes) one ∙ append_assoc before front shown_bytes)
    ∙ append_assoc before (front ++ shown_bytes) (10 ∷ [])
    ∙ ap (λ (t : List ℕ). before ++ t) (append_assoc front shown_bytes (10 ∷ []))

pub returns : goal.returns
returns c =
    subst (λ (bytes : List ℕ). OnOk c.put-2.result (string_bytes c.put-2.new.text ≡ bytes))
    (before_end (string_bytes c.args.report.now) (string_bytes c.put.new.text) (string_bytes c.put_shown.new.text) (codes "expected nothing more, got ") (map shown c.args.next.now) c.in_ok-put.ensures c.in_ok-put_shown.ensures)
    c.put-2.ensures
