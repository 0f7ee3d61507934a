-- The first line of a text, and what follows it.
use Rattle.std.proofs.Common.{◌≡◌, ℕ, ◌<◌, List, [], ◌∷◌, ◌++◌, Option, Some, None, length, refl, ap, ◌∙◌, sym, arith, inl, inr, length-append}
use Rattle.std.proofs.lemmas.Bool.Decides.{eqb_tells}
use Rattle.tx_lines.proofs.FirstWord.{parts_front, same_parts}
use Rattle.tx_lines.specs.Schedule.{first_line, after_line, IsLine}
use Rattle.tx_lines.specs.Words.{parts_at, with_front}

-- what is before the first line's end, and after it
pub line_found : (text line rest : List ℕ) → Some (line, rest) ≡ parts_at 10 text → (line ≡ first_line text) × (Some rest ≡ after_line text)
line_found [] line rest e = absurd (cc)
line_found (byte ∷ bytes) line rest e =
    elim (eqb_tells byte 10) [
      | inl h ↦ let here : Some (line, rest) ≡ Some ([], bytes) = rw h.0 at e in
          let same = same_parts (line, rest) ([], bytes) here in
          (rw h.0 same.0, rw h.0 (ap Some same.1))
      | inr h ↦ let on : Some (line, rest) ≡ with_front byte (parts_at 10 bytes) = rw h.0 at e in
          let parts = parts_front byte (parts_at 10 bytes) line rest (sym on) in
          let found = line_found bytes parts.0 rest (sym parts.2) in
          (rw h.0 (parts.1 ∙ ap (λ (t : List ℕ). byte ∷ t) found.0), rw h.0 found.1)
    ]

no_front : (byte : ℕ) (found : Option (List ℕ × List ℕ)) → None ≡ with_front byte found → None ≡ found
no_front byte None e = refl
no_front byte (Some parts) e = absurd (cc)

-- no line has an end
pub line_none : (text : List ℕ) → None ≡ parts_at 10 text → (text ≡ first_line text) × (None ≡ after_line text)
line_none [] e = (refl, refl)
line_none (byte ∷ bytes) e =
    elim (eqb_tells byte 10) [
      | inl h ↦ let here : None ≡ Some ([], bytes) = rw h.0 at e in absurd (cc)
      | inr h ↦ let on : None ≡ with_front byte (parts_at 10 bytes) = rw h.0 at e in
          let left = line_none bytes (no_front byte (parts_at 10 bytes) on) in
          (rw h.0 (ap (λ (t : List ℕ). byte ∷ t) left.0), rw h.0 left.1)
    ]

-- the first line, its end, and what follows
pub line_parts : (text rest : List ℕ) → after_line text ≡ Some rest → text ≡ first_line text ++ 10 ∷ rest
line_parts [] rest e = absurd (cc)
line_parts (byte ∷ bytes) rest e =
    elim (eqb_tells byte 10) [
      | inl h ↦ let here : Some bytes ≡ Some rest = rw h.0 at e in
          let same : bytes ≡ rest = cc in
          rw (h.0, h.1, same) refl
      | inr h ↦ let on : after_line bytes ≡ Some rest = rw h.0 at e in
          rw h.0 (ap (λ (t : List ℕ). byte ∷ t) (line_parts bytes rest on))
    ]

-- a text with a line that is spelled so
pub line_spelled : (text line spelling rest : List ℕ) → IsLine text line rest → line ≡ spelling → text ≡ spelling ++ 10 ∷ rest
line_spelled text line spelling rest is spelled =
    let same : first_line text ≡ spelling = sym is.first ∙ spelled in
    line_parts text rest is.after ∙ ap (λ (t : List ℕ). t ++ 10 ∷ rest) same

-- what follows a line is shorter
pub shorter_rest : (text line rest : List ℕ) → IsLine text line rest → length rest < length text
shorter_rest text line rest is = omega (arith, ap length (line_parts text rest is.after), length-append (first_line text) (10 ∷ rest))
