-- What came and went where the input of a terminal over a reader and a writer has ended.
use Rattle.std.proofs.Common.{◌≡◌, ℕ, false, List, [], ◌∷◌, Option, Some, None, IfSome, is_some, length, refl, take, sym, ap, ◌∙◌, arith}
use Rattle.tx_shell.proofs.CutLines.{open_whole}
use Rattle.tx_shell.specs.Cuts.{TakesLine}
use Rattle.tx_translate.specs.MeantLines.{behind_by}
use Rattle.tx_shell.specs.Events.{Comes, End, Goes}
use Rattle.tx_lines.specs.Schedule.{after_line, first_line}

-- nothing is shown
pub nothing_went : (shown shown' : Option (List ℕ)) → shown' ≡ shown → Goes shown (End ∷ []) shown'
nothing_went None shown' same = tt
nothing_went (Some bytes) shown' same = same

no_byte : (bytes : List ℕ) → length (take 514 bytes) ≡ 0 → bytes ≡ []
no_byte [] none = refl
no_byte (byte ∷ bytes) none = absurd (omega (arith, none))

no_end : (after : Option (List ℕ)) → false ≡ is_some after → after ≡ None
no_end None none = refl
no_end (Some rest) none = absurd (cc)

-- no byte was left
pub end_came : (left left' : Option (List ℕ)) (line : List ℕ) → IfSome left (λ bytes. TakesLine false bytes left' [] line) → length line ≡ 0 → Comes left (End ∷ []) left'
end_came None left' line takes empty = tt
end_came (Some bytes) left' line takes empty =
    let after = no_end (after_line bytes) takes.ended in
    let none : bytes ≡ [] = sym (open_whole bytes after) ∙ no_byte (first_line bytes) (ap length (sym takes.kept) ∙ empty) in
    (none, takes.goes ∙ ap (λ (o : Option (List ℕ)). Some (behind_by o)) after ∙ ap Some (sym none))
