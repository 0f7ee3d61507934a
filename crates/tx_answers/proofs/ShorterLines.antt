-- What follows a line is shorter than the text.
use Rattle.std.proofs.Common.{◌≡◌, ◌<◌, ℕ, List, [], ◌∷◌, Option, Some, None, inl, inr, length, refl, ap, arith}
use Rattle.std.proofs.lemmas.Bool.Decides.{eqb_tells}
use Rattle.tx_lines.specs.Schedule.{after_line}
use Rattle.tx_translate.specs.MeantLines.{behind, behind_by}

rest_shorter : (text rest : List ℕ) → after_line text ≡ Some rest → length rest < length text
rest_shorter [] rest e = absurd (cc)
rest_shorter (byte ∷ bytes) rest e =
    elim (eqb_tells byte 10) [
      | inl h ↦ let here : Some bytes ≡ Some rest = rw h.0 at e in
          let same : bytes ≡ rest = cc in
          omega (arith, ap length same)
      | inr h ↦ let on : after_line bytes ≡ Some rest = rw h.0 at e in
          let later = rest_shorter bytes rest on in
          omega arith
    ]

shorter_by : (text : List ℕ) (found : Option (List ℕ)) → after_line text ≡ found → 0 < length text → length (behind_by found) < length text
shorter_by text None after some = some
shorter_by text (Some rest) after some = rest_shorter text rest after

pub shorter_after : (text : List ℕ) → 0 < length text → length (behind text) < length text
shorter_after text some = shorter_by text (after_line text) refl some
