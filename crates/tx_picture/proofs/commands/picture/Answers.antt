use Rattle.std.proofs.Common.{rules}
use Rattle.tx_picture.proofs.Pictured.{pictured, unread, whole_of}
use Rattle.tx_picture.proofs.commands.picture.Goals as goal

pub returns-in_err-text : goal.returns-in_err-text
returns-in_err-text g c = unread _ _ _ _ _ _ _ _ _ (search rules)

pub returns-in_err-picture : goal.returns-in_err-picture
returns-in_err-picture g c =
    pictured _ c.in_ok-text.text.items _ _ _ _ _ _ _ _ (whole_of _ _ c.in_ok-text.text.items c.in_ok-text.ensures.0 c.in_ok-text.ensures.1) (search rules)

pub returns : goal.returns
returns g c =
    pictured _ c.in_ok-text.text.items _ _ _ _ _ _ _ _ (whole_of _ _ c.in_ok-text.text.items c.in_ok-text.ensures.0 c.in_ok-text.ensures.1) (search rules)
