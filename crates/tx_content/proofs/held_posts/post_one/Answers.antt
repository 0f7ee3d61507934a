use Rattle.tx_content.proofs.PostedAll.{posts_one}
use Rattle.tx_content.proofs.held_posts.post_one.Goals as goal

pub returns : goal.returns
returns c =
    posts_one c.args.parts.now c.post-posted.new.parts c.args.txns.now c.post_kept-kept.new.txns c.args.sending.now _ c.post_kept-kept.result c.post-posted.ensures.answer c.post-posted.ensures.state c.post-posted.ensures.back
    c.post-posted.ensures.named c.post-posted.ensures.among c.post-posted.ensures.counts c.post-posted.ensures.places c.post-posted.ensures.rest c.post_kept-kept.ensures.posted c.post_kept-kept.ensures.back c.post_kept-kept.ensures.starter
    c.post_kept-kept.ensures.target c.unpost_of.ensures
