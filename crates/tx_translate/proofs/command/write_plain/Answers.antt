use Rattle.std.proofs.Common.{◌∙◌, ap}
use Rattle.tx_translate.proofs.Translated.{meant_of_left, translated}
use Rattle.tx_translate.specs.Meant.{meant_of}
use Rattle.tx_translate.proofs.command.write_plain.Goals as goal

pub returns : goal.returns
returns g c =
    translated _ _ _ _ _ _ _ c.as_bytes.result.now c.write_whole.result
    (meant_of_left _ _ c.in_ok-text.text.items c.as_bytes.result.now c.in_ok-text.ensures.0 c.in_ok-text.ensures.1
    (c.as_bytes.ensures ∙ c.in_ok-meant.ensures.bytes ∙ ap meant_of c.as_slice.ensures.value))
    c.in_ok-text.ensures.3 c.write_whole.ensures
