-- What holds for every machine.
use Rattle.std.specs.Prelude.{◌≡◌, ◌⊎◌, ℕ, length}
use Rattle.tx_base.specs.declared.limits.TheConstants.{PROCESSES, WIDE_PROCESSES}
use Rattle.tx_content.specs.declared.content.Content.{Content}
use Rattle.tx_step.specs.Contents.{IsContent}

-- how many process numbers a machine may have: 64, or 256 if it is wide
abbrev pub IsWidth : ℕ → Type 0
IsWidth width = (width ≡ PROCESSES) ⊎ (width ≡ WIDE_PROCESSES)

-- what a machine may keep: a content that steps lead to
pub record IsMachine (k : Content) : Type 0 where
  pub content : IsContent k
  pub width : IsWidth (length k.parts.procs)
