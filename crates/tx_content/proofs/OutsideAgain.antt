-- A step outside of transactions that was taken back, and what makes it again.
use Rattle.std.proofs.Common.{◌≡◌, ℕ, ◌-◌, ◌≤◌, List, length, arith, Option, Some, None, refl, sym, ap, subst, ◌∙◌}
use Rattle.std.proofs.lemmas.List.{take_all}
use Rattle.tx_change.specs.Exchange.{applied, exchanged, reverted, sizes_of, undone, Sizes, AreNamed, AreWithin}
use Rattle.tx_change.specs.Stacks.{below_top}
use Rattle.tx_change.specs.declared.change.Change.{Change}
use Rattle.tx_change.specs.declared.parts.Parts.{Parts}
use Rattle.tx_content.proofs.PostsTaken.{one_long}
use Rattle.tx_content.specs.Inverses.{before_outside, unposted_in, GoesWith, HasStarter}
use Rattle.tx_content.specs.Laws.{LiveLaws}
use Rattle.tx_content.specs.Redone.{post_in, reposted_in, IsTakenBack}
use Rattle.tx_content.specs.declared.content.BoxedTxn.{BoxedTxn}
use Rattle.tx_content.specs.declared.content.Content.{Content}
use Rattle.tx_content.specs.declared.inverse.Inverse.TheVariants.{Outside}
use Rattle.tx_content.specs.declared.kept_posts.KeptPost.{KeptPost}
use Rattle.tx_content.specs.declared.kept_posts.TakenPost.{TakenPost}
use Rattle.tx_content.specs.declared.undone.Undone.TheVariants as undo

-- below none of the topmost is all of a stack
pub all_below : (stack : List Change) → below_top 0 stack ≡ stack
all_below stack = take_all (length stack - 0) stack (omega arith)

-- changes that were led back are named on the parts that they led to
pub led_named : LiveLaws → (parts : Parts) (log : List Change) → AreNamed parts log → AreNamed (undone parts log) (reverted parts log)
led_named laws parts log named = subst (λ (z : Sizes). AreWithin z (reverted parts log)) (sym (laws.sizes_back parts log)) (laws.reverted (sizes_of parts) parts log named)

starter_stays : (txns others : List (Option BoxedTxn)) (post : Option KeptPost) → length others ≡ length txns → HasStarter txns post → HasStarter others post
starter_stays txns others None long has = tt
starter_stays txns others (Some post) long has = (has.0, subst (λ (n : ℕ). post.starter.0 ≤ n) (sym long) has.1)

module _ (laws : LiveLaws) (k : Content) (log led : List Change) (post : Option KeptPost) (taken : Option TakenPost) (txns : List (Option BoxedTxn)) (stack : List Change)
    (fits : GoesWith k (Outside log post)) (led_is : led ≡ reverted k.parts log) (txns_are : txns ≡ unposted_in post k.txns) (same : post_in taken ≡ post) (again : reposted_in taken txns ≡ k.txns) where
  abbrev U : Parts
  U = undone k.parts log

  named_led : AreNamed U led
  named_led = subst (AreNamed U) (sym led_is) (led_named laws k.parts log fits.0)

  parts_again : applied U led ≡ k.parts
  parts_again = ap (applied U) led_is ∙ laws.apply_again k.parts log fits.0

  named_now : AreNamed k.parts (exchanged U led)
  named_now = laws.exchanged (sizes_of k.parts) U led (subst (λ (z : Sizes). AreWithin z led) (laws.sizes_back k.parts log) named_led)

  again_here : IsTakenBack (before_outside k log post) (undo.Outside led taken) stack k stack
  again_here = record {
    inverse = Outside (exchanged U led) (post_in taken);
    fits = (named_led, subst (HasStarter (unposted_in post k.txns)) (sym same) (starter_stays k.txns (unposted_in post k.txns) post (one_long post k.txns) fits.1));
    redoes = ((λ i. record k { parts = parts_again i; txns = (ap (reposted_in taken) (sym txns_are) ∙ again) i }), refl);
    below = all_below stack;
    goes = (named_now, subst (HasStarter k.txns) (sym same) fits.1);
    whole = tt;
    back = λ i. record k {
      parts = (ap (λ (p : Parts). undone p (exchanged U led)) (sym parts_again) ∙ laws.revert_again U led named_led) i;
      txns = unposted_in (same i) k.txns;
    };
  }

  pub outside_again : (before : Content) → before_outside k log post ≡ before → IsTakenBack before (undo.Outside led taken) stack k stack
  outside_again before is = subst (λ (b : Content). IsTakenBack b (undo.Outside led taken) stack k stack) is again_here
