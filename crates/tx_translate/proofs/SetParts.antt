-- The parts of a set, one after another.
use Rattle.std.proofs.Common.{◌≡◌, ℕ, ◌<◌, true, false, nat_eq, List, [], ◌∷◌, Option, Some, None, length, refl, ap, ◌∙◌, arith, inl, inr}
use Rattle.std.proofs.lemmas.Bool.Decides.{eqb_tells}
use Rattle.tx_lines.specs.Words.{parts_at, with_front}
use Rattle.tx_translate.specs.OwnLines.{with_byte}
use Rattle.tx_translate.specs.Sets.{comma_parts, set_with, set_with_all}
use Rattle.tx_translate.specs.SignalNames.{signal_of}

abbrev pair : List ℕ → List ℕ → List ℕ × List ℕ
pair part rest = (part, rest)

some_same : (left right : List ℕ × List ℕ) → Some left ≡ Some right → left ≡ right
some_same left right e = cc

-- a text is a part, a comma, and what follows
pub record IsSplit (text part rest : List ℕ) : Type 0 where
  pub parts : comma_parts text ≡ part ∷ comma_parts rest
  pub shorter : length rest < length text

split_here : (byte : ℕ) (bytes part rest : List ℕ) → nat_eq byte 44 ≡ true → pair [] bytes ≡ pair part rest → IsSplit (byte ∷ bytes) part rest
split_here byte bytes part rest comma same = record {
  parts = rw comma (ap (λ (p : List ℕ × List ℕ). p.0 ∷ comma_parts p.1) same);
  shorter = let size : length bytes ≡ length rest = ap (λ (p : List ℕ × List ℕ). length p.1) same in omega arith;
}

split_after : (byte : ℕ) (bytes part rest : List ℕ) (found : Option (List ℕ × List ℕ)) → nat_eq byte 44 ≡ false → with_front byte found ≡ Some (pair part rest) →
    ((front : List ℕ) → found ≡ Some (pair front rest) → IsSplit bytes front rest) → IsSplit (byte ∷ bytes) part rest
split_after byte bytes part rest None other e later = absurd (cc)
split_after byte bytes part rest (Some parts) other e later =
    let same : pair (byte ∷ parts.0) parts.1 ≡ pair part rest = some_same (pair (byte ∷ parts.0) parts.1) (pair part rest) e in
    let front : byte ∷ parts.0 ≡ part = ap (λ (p : List ℕ × List ℕ). p.0) same in
    let back : parts.1 ≡ rest = ap (λ (p : List ℕ × List ℕ). p.1) same in
    let split = later parts.0 (ap (λ (q : List ℕ). Some (pair parts.0 q)) back) in
    record {
      parts = rw other (ap (with_byte byte) split.parts ∙ ap (λ (t : List ℕ). t ∷ comma_parts rest) front);
      shorter = omega (arith, split.shorter);
    }

pub comma_split : (text part rest : List ℕ) → parts_at 44 text ≡ Some (part, rest) → IsSplit text part rest
comma_split [] part rest e = absurd (cc)
comma_split (byte ∷ bytes) part rest e =
    elim (eqb_tells byte 44) [
      | inl h ↦ split_here byte bytes part rest h.0 (some_same (pair [] bytes) (pair part rest) (rw h.0 at e))
      | inr h ↦ split_after byte bytes part rest (parts_at 44 bytes) h.0 (rw h.0 at e) (λ front is. comma_split bytes front rest is)
    ]

no_front : (byte : ℕ) (found : Option (List ℕ × List ℕ)) → with_front byte found ≡ None → found ≡ None
no_front byte None e = refl
no_front byte (Some parts) e = absurd (cc)

-- a text without a comma is one part
comma_whole : (text : List ℕ) → parts_at 44 text ≡ None → comma_parts text ≡ text ∷ []
comma_whole [] e = refl
comma_whole (byte ∷ bytes) e =
    elim (eqb_tells byte 44) [
      | inl h ↦ let here : Some (pair [] bytes) ≡ None = rw h.0 at e in absurd (cc)
      | inr h ↦ let on : with_front byte (parts_at 44 bytes) ≡ None = rw h.0 at e in
          rw h.0 (ap (with_byte byte) (comma_whole bytes (no_front byte (parts_at 44 bytes) on)))
    ]

-- nothing stays so
pub none_stays : (parts : List (List ℕ)) → set_with_all None parts ≡ None
none_stays [] = refl
none_stays (part ∷ parts) = none_stays parts

-- one part more
pub part_more : (set : Option ℕ) (text part rest : List ℕ) → parts_at 44 text ≡ Some (part, rest) → set_with_all set (comma_parts text) ≡ set_with_all (set_with set (signal_of part)) (comma_parts rest)
part_more set text part rest e = ap (set_with_all set) (comma_split text part rest e).parts

pub part_last : (set : Option ℕ) (text : List ℕ) → parts_at 44 text ≡ None → set_with_all set (comma_parts text) ≡ set_with set (signal_of text)
part_last set text e = ap (set_with_all set) (comma_whole text e)
