use Rattle.std.proofs.Common.{rules, ◌≡◌, ◌++◌, ◌∷◌, ◌∙◌, [], ℕ, List, ap, append_assoc, arith, length, sym, string_bytes}
use Rattle.std.proofs.lemmas.List.{append-nil}
use Rattle.hex.specs.Hex.{encode_lower, encode_with}
use Rattle.tx_lines.specs.Bytes.{two_digits}
use Rattle.tx_lines.proofs.print.bytes.put_each.Goals as goal

-- the digits of one byte more
one_more : (start text now bytes rest later : List ℕ) (byte : ℕ) → start ++ encode_lower bytes ≡ text ++ encode_lower rest → rest ≡ byte ∷ later → now ≡ text ++ two_digits byte →
    start ++ encode_lower bytes ≡ now ++ encode_lower later
unfolding encode_with
one_more start text now bytes rest later byte so_far front more =
    so_far ∙ ap (λ (r : List ℕ). text ++ encode_lower r) front ∙ sym (append_assoc text (two_digits byte) (encode_lower later)) ∙ ap (λ (t : List ℕ). t ++ encode_lower later) (sym more)

-- with no byte left all are there
at_end : (start text bytes rest : List ℕ) → start ++ encode_lower bytes ≡ text ++ encode_lower rest → length rest ≡ 0 → text ≡ start ++ encode_lower bytes
unfolding encode_with
at_end start text bytes [] so_far none = sym (so_far ∙ append-nil text)
at_end start text bytes (byte ∷ rest) so_far none = absurd (omega (arith, none))

pub loop-byte-preserved : goal.loop-byte-preserved
loop-byte-preserved c =
    let front : c.loop-byte.rest.now ≡ c.in-Some.byte.now ∷ c.in-Some.later.now = search rules in
    one_more (string_bytes c.args.text.now) (string_bytes c.loop-byte.text) (string_bytes c.put_byte.new.text) c.args.bytes.now c.loop-byte.rest.now c.in-Some.later.now c.in-Some.byte.now
    c.loop-byte.invariant front c.in_ok-put_byte.ensures

pub returns : goal.returns
returns c = at_end (string_bytes c.args.text.now) (string_bytes c.loop-byte.text) c.args.bytes.now c.loop-byte.rest.now c.loop-byte.invariant c.in_default.ensures.cases
