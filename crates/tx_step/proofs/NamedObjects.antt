-- What changes name, which are among some objects.
use Rattle.std.proofs.Common.{◌≡◌, Bool, true, false, List, [], ◌∷◌, if◌then◌else◌, refl, ap, ◌∙◌}
use Rattle.tx_change.specs.Exchange.{object_of}
use Rattle.tx_change.specs.declared.change.Change.{Change}
use Rattle.tx_change.specs.declared.change.Change.TheVariants as the
use Rattle.tx_kernel.specs.Plans.{AreAmong}
use Rattle.tx_laws.specs.Footprints.{is_shared}
use Rattle.tx_model.specs.ObjectFacts.{same_is}
use Rattle.tx_model.specs.State.{Object, has_object, same_object}
use Rattle.tx_txn.specs.Content.{is_named}

-- what the changes name is one of the objects that they are among
pub named_among : (os : List Object) (changes : List Change) (o : Object) → AreAmong os changes → is_named o changes ≡ true → has_object o os ≡ true
unfolding is_named
named_among os [] o among named = cc
named_among os (change ∷ changes) o among named = by (same_object o (object_of change)) refl named (named_among os changes o among.1)
  where
    by : (b : Bool) → same_object o (object_of change) ≡ b → (if b then true else is_named o changes) ≡ true → (is_named o changes ≡ true → has_object o os ≡ true) → has_object o os ≡ true
    by true e h rest = ap (λ (x : Object). has_object x os) (same_is o (object_of change) e) ∙ among.0
    by false e h rest = rest h

changed_shared : (change : Change) → is_shared (object_of change) ≡ true
changed_shared (the.Slot pid slot) = refl
changed_shared (the.Part pid part) = refl
changed_shared (the.Description number opened) = refl
changed_shared (the.Pipe number part) = refl

-- and processes share it
pub named_shared : (changes : List Change) (o : Object) → is_named o changes ≡ true → is_shared o ≡ true
unfolding is_named
named_shared [] o named = cc
named_shared (change ∷ changes) o named = by (same_object o (object_of change)) refl named (named_shared changes o)
  where
    by : (b : Bool) → same_object o (object_of change) ≡ b → (if b then true else is_named o changes) ≡ true → (is_named o changes ≡ true → is_shared o ≡ true) → is_shared o ≡ true
    by true e h rest = ap is_shared (same_is o (object_of change) e) ∙ changed_shared change
    by false e h rest = rest h
