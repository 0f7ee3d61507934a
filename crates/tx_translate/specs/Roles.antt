-- Which argument of which call may be spelled otherwise than in version 2: one table.
use Rattle.std.specs.Prelude.{ℕ, List, nat_eq, codes, if◌then◌else◌}
use Rattle.std.specs.Str.{bytes_eq}
use Rattle.tx_translate.specs.ByteWords.{plain_bytes}
use Rattle.tx_translate.specs.Sets.{plain_set}
use Rattle.tx_translate.specs.SignalNames.{plain_signal}
use Rattle.tx_translate.specs.declared.roles.Role.{Role}
use Rattle.tx_translate.specs.declared.roles.Role.TheVariants.{Other, Bytes, Signal, Set}

-- the role at that place, from 0
abbrev pub role_at : ℕ → Role → ℕ → Role
role_at at role place = if nat_eq place at then role else Other

-- the role of an argument of a sigaction: `S catch POINT SET`
abbrev pub role_in_sigaction : ℕ → Role
role_in_sigaction place = if nat_eq place 3 then Set else role_at 0 Signal place

-- the role of the argument of a call at a place, from 0
abbrev pub role_of : List ℕ → ℕ → Role
role_of name place =
    if bytes_eq name (codes "store") then role_at 1 Bytes place
    else if bytes_eq name (codes "deliver") then role_at 0 Signal place
    else if bytes_eq name (codes "kill") then role_at 1 Signal place
    else if bytes_eq name (codes "sigqueue") then role_at 1 Signal place
    else if bytes_eq name (codes "sigaction") then role_in_sigaction place
    else if bytes_eq name (codes "sigprocmask") then role_at 1 Set place
    else Other

-- a word as version 2 spells what it means there
abbrev pub plain_word : Role → List ℕ → List ℕ
plain_word Other word = word
plain_word Bytes word = plain_bytes word
plain_word Signal word = plain_signal word
plain_word Set word = plain_set word
