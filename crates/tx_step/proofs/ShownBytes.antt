-- Bytes of a memory, one after another.
use Rattle.std.proofs.Common.{◌≡◌, ◌≤◌, ◌<◌, ℕ, ◌+◌, zero, suc, ◌/◌, ◌%◌, Bool, true, false, ◌∷◌, length, Option, Some, None, min, nat_lt, refl, sym, ap, subst, ◌∙◌, arith}
use Rattle.std.proofs.Math.ListN.{get_or-eq_default}
use Rattle.std.proofs.Math.Nat.{min-eq_left, min-eq_right}
use Rattle.std.proofs.lemmas.Bool.{ltb-true, ltb-false}
use Rattle.tx_change.specs.Laws.{HasPlaces}
use Rattle.tx_kernel.specs.Plans.{memory_in}
use Rattle.tx_kernel.specs.declared.planned.Outcome.TheVariants.{Out}
use Rattle.tx_kernel.specs.declared.planned.Shown.{Shown}
use Rattle.tx_content.specs.declared.content.Content.{Content}
use Rattle.tx_content.specs.declared.inverse.Inverse.{Inverse}
use Rattle.tx_model.specs.Memory.{Memory, bytes_from, loaded_byte}
use Rattle.tx_model.specs.Words.{byte_in, byte_or_zero}
use Rattle.tx_proc.specs.Parts.{process_in}
use Rattle.tx_proc.specs.declared.proc.Proc.{Proc}
use Rattle.tx_step.specs.Steps.{FitsReply, replied}
use Rattle.tx_step.specs.declared.answered.Answered.{Answered}
use Rattle.tx_step.specs.declared.answered.Answered.TheVariants.{Acted}

bytes_long : (memory : Memory) (start n : ℕ) → length (bytes_from memory start n) ≡ n
bytes_long memory start zero = refl
bytes_long memory start (suc n) = ap suc (bytes_long memory (start + 1) n)

-- there is none at what is no address
byte_past : (memory : Memory) (n : ℕ) → length memory ≡ 16 → 1024 ≤ n → byte_or_zero (loaded_byte memory (Some n)) ≡ 0
byte_past memory n long far =
    let last : length memory ≤ n / 64 = omega (arith, long, far) in
    ap (λ page. byte_or_zero (byte_in (n % 64) page)) (get_or-eq_default memory None last)

-- so it makes no difference which number that is
far_same : (memory : Memory) (a b n : ℕ) → length memory ≡ 16 → 1024 ≤ a → 1024 ≤ b → bytes_from memory a n ≡ bytes_from memory b n
far_same memory a b zero long far too = refl
far_same memory a b (suc n) long far too =
    let byte : byte_or_zero (loaded_byte memory (Some a)) ≡ byte_or_zero (loaded_byte memory (Some b)) = byte_past memory a long far ∙ sym (byte_past memory b long too) in
    (λ i. byte i ∷ far_same memory (a + 1) (b + 1) n long (omega (arith, far)) (omega (arith, too)) i)

pub nearest_same : (memory : Memory) (a n : ℕ) → length memory ≡ 16 → bytes_from memory (min a 1024) n ≡ bytes_from memory a n
nearest_same memory a n long = by (nat_lt 1024 a) refl
  where
    by : (b : Bool) → nat_lt 1024 a ≡ b → bytes_from memory (min a 1024) n ≡ bytes_from memory a n
    by true e =
        let above : 1024 < a = ltb-true 1024 a e in
        let past : 1024 ≤ a = omega (arith, above) in
        ap (λ (k : ℕ). bytes_from memory k n) (min-eq_right past) ∙ far_same memory 1024 a n long (omega arith) past
    by false e = ap (λ (k : ℕ). bytes_from memory k n) (min-eq_left (ltb-false 1024 a e))

pub memory_long : (slot : Option Proc) → HasPlaces slot → length (memory_in (process_in slot)) ≡ 16
memory_long None places = refl
memory_long (Some proc) places = places.pages

-- what is shown fits where the reply fits
pub few_shown : (k : Content) (p : ℕ) (inverse : Inverse) (answered : Answered) (shown : Shown) → answered ≡ Acted (Out shown) → FitsReply (replied k p inverse answered) → shown.count ≤ 64
few_shown k p inverse answered shown is fits =
    subst (λ (n : ℕ). n ≤ 64) (bytes_long _ shown.address shown.count) (subst (λ (a : Answered). FitsReply (replied k p inverse a)) is fits)
