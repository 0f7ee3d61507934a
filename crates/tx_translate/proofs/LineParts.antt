-- The lines of a text, one after another.
use Rattle.std.proofs.Common.{◌≡◌, ◌≢◌, ℕ, ◌<◌, List, [], ◌∷◌, ◌++◌, Option, Some, None, length, map, refl, ap, sym, ◌∙◌, inl, inr, arith}
use Rattle.std.proofs.lemmas.Bool.Decides.{eqb_tells}
use Rattle.tx_lines.specs.Schedule.{after_line, first_line}
use Rattle.tx_translate.specs.MeantLines.{behind, behind_by}
use Rattle.tx_translate.specs.OwnLines.{ended_lines, own_lines, with_byte, without_return}

-- a line that has an end, and the lines after it
ended_split : (text rest : List ℕ) → after_line text ≡ Some rest → ended_lines text ≡ first_line text ∷ ended_lines rest
ended_split [] rest e = absurd (cc)
ended_split (byte ∷ bytes) rest e =
    elim (eqb_tells byte 10) [
      | inl h ↦ let here : Some bytes ≡ Some rest = rw h.0 at e in
          let same : bytes ≡ rest = cc in
          rw (h.0, same) refl
      | inr h ↦ let on : after_line bytes ≡ Some rest = rw h.0 at e in
          rw h.0 (ap (with_byte byte) (ended_split bytes rest on))
    ]

-- the last line, which has no end
ended_last : (byte : ℕ) (bytes : List ℕ) → after_line (byte ∷ bytes) ≡ None → ended_lines (byte ∷ bytes) ≡ first_line (byte ∷ bytes) ∷ []
ended_last byte [] e =
    elim (eqb_tells byte 10) [
      | inl h ↦ let here : Some [] ≡ None = rw h.0 at e in absurd (cc)
      | inr h ↦ rw h.0 refl
    ]
ended_last byte (next ∷ bytes) e =
    elim (eqb_tells byte 10) [
      | inl h ↦ let here : Some (next ∷ bytes) ≡ None = rw h.0 at e in absurd (cc)
      | inr h ↦ let on : after_line (next ∷ bytes) ≡ None = rw h.0 at e in
          rw h.0 (ap (with_byte byte) (ended_last next bytes on))
    ]

pub own_split : (text line rest : List ℕ) → line ≡ first_line text → Some rest ≡ after_line text → own_lines text ≡ without_return line ∷ own_lines rest
own_split text line rest is after = ap (map without_return) (ended_split text rest (sym after)) ∙ ap (λ (l : List ℕ). without_return l ∷ own_lines rest) (sym is)

pub own_last : (text line : List ℕ) → 0 < length text → line ≡ first_line text → None ≡ after_line text → own_lines text ≡ without_return line ∷ []
own_last [] line some is after = absurd (omega (arith, some))
own_last (byte ∷ bytes) line some is after =
    ap (map without_return) (ended_last byte bytes (sym after)) ∙ ap (λ (l : List ℕ). without_return l ∷ []) (sym is)

pub before_end : (front : List ℕ) → without_return (front ++ 13 ∷ []) ≡ front
before_end [] = refl
before_end (byte ∷ []) = refl
before_end (byte ∷ next ∷ bytes) = ap (λ (t : List ℕ). byte ∷ t) (before_end (next ∷ bytes))

pub without_end : (line : List ℕ) → ((front : List ℕ) → line ≢ front ++ 13 ∷ []) → without_return line ≡ line
without_end [] none = refl
without_end (byte ∷ []) none =
    elim (eqb_tells byte 13) [
      | inl h ↦ absurd (none [] (ap (λ (b : ℕ). b ∷ []) h.1))
      | inr h ↦ rw h.0 refl
    ]
without_end (byte ∷ next ∷ bytes) none =
    ap (λ (t : List ℕ). byte ∷ t) (without_end (next ∷ bytes) (λ front e. none (byte ∷ front) (ap (λ (t : List ℕ). byte ∷ t) e)))

-- what follows a line's end is shorter
pub shorter_rest : (text rest : List ℕ) → after_line text ≡ Some rest → length rest < length text
shorter_rest [] rest e = absurd (cc)
shorter_rest (byte ∷ bytes) rest e =
    elim (eqb_tells byte 10) [
      | inl h ↦ let here : Some bytes ≡ Some rest = rw h.0 at e in
          let same : bytes ≡ rest = cc in
          omega (arith, ap length same)
      | inr h ↦ let on : after_line bytes ≡ Some rest = rw h.0 at e in
          let later = shorter_rest bytes rest on in
          omega arith
    ]

shorter_by : (text : List ℕ) (found : Option (List ℕ)) → after_line text ≡ found → 0 < length text → length (behind_by found) < length text
shorter_by text None after some = some
shorter_by text (Some rest) after some = shorter_rest text rest after

pub rest_shorter : (text : List ℕ) → 0 < length text → length (behind text) < length text
rest_shorter text some = shorter_by text (after_line text) refl some
