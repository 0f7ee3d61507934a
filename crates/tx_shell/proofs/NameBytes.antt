-- A name is text.
use Rattle.std.proofs.Common.{◌≡◌, ℕ, ◌<◌, ◌&&◌, Bool, true, false, List, [], ◌∷◌, arith}
use Rattle.std.proofs.lemmas.Bool.Decides.{nat_tests}
use Rattle.std.proofs.lemmas.List.Elements.{All-cons, All-nil}
use Rattle.std.proofs.lemmas.Str.{IsUtf8-from_ascii}
use Rattle.std.proofs.lemmas.Str.Ascii.{IsAscii-from_all}
use Rattle.std.specs.List.{All, list_all}
use Rattle.std.specs.Str.{IsUtf8}
use Rattle.tx_translate.specs.Names.{is_name, is_name_byte}

byte_ascii : (byte : ℕ) → is_name_byte byte ≡ true → byte < 128
byte_ascii byte is = grind (arith, nat_tests, is)

both : (a b : Bool) → (a && b) ≡ true → (a ≡ true) × (b ≡ true)
both true true is = (is, is)
both true false is = absurd (cc)
both false b is = absurd (cc)

all_ascii : (bytes : List ℕ) → list_all is_name_byte bytes ≡ true → All (λ b. b < 128) bytes
all_ascii [] are = All-nil (λ b. b < 128)
all_ascii (byte ∷ bytes) are =
    let parts = both (is_name_byte byte) (list_all is_name_byte bytes) are in
    All-cons (λ b. b < 128) byte bytes (byte_ascii byte parts.0) (all_ascii bytes parts.1)

pub name_utf8 : (word : List ℕ) → is_name word ≡ true → IsUtf8 word
name_utf8 word is = IsUtf8-from_ascii word (IsAscii-from_all word (all_ascii word (both _ _ (both _ _ is).1).1))
