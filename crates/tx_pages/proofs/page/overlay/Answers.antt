use Rattle.std.proofs.Common.{◌≡◌, ◌≤◌, ◌+◌, ◌-◌, ◌++◌, length, take, drop, arith, sym, ◌∙◌, ap, refl}
use Rattle.std.proofs.lemmas.Slice.{put_mid-paste}
use Rattle.std.proofs.Math.Seq.{take-length}
use Rattle.tx_pages.proofs.Ranges.{overlaid_is}
use Rattle.tx_pages.proofs.page.overlay.Goals as goal

pub returns : goal.returns
returns c =
    let count : length c.args.patch.now ≡ c.args.offset + length c.args.patch.now - c.args.offset = omega arith in
    let fits : c.args.offset + length c.args.patch.now ≤ length c.args.bytes = omega (arith, c.requires) in
    put_mid-paste c.args.offset (c.args.offset + length c.args.patch.now - c.args.offset) c.args.bytes c.copy_from_slice.new.self c.args.patch.now (length c.args.patch.now) c.copy_from_slice.ensures.after count refl
    ∙ ap (λ front. take c.args.offset c.args.bytes ++ front ++ drop (c.args.offset + length c.args.patch.now) c.args.bytes) (take-length c.args.patch.now)
    ∙ sym (overlaid_is c.args.bytes c.args.offset c.args.patch.now fits)
