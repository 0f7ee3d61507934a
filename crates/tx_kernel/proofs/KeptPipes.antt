-- Where the end of a process takes out no description, no pipe goes.
use Rattle.std.proofs.Common.{◌≡◌, ◌⊎◌, ◌||◌, ℕ, zero, suc, Bool, true, false, List, [], ◌∷◌, ◌++◌, Option, Some, None, is_some, is_none, if◌then◌else◌, get_or, refl, ap, ◌∙◌, inl, inr}
use Rattle.std.proofs.Math.ListN.{set}
use Rattle.tx_change.specs.declared.change.Change.TheVariants.{Pipe}
use Rattle.tx_change.specs.declared.parts.Parts.{Parts}
use Rattle.tx_change.specs.declared.pipes.PipePart.TheVariants.{Whole}
use Rattle.tx_desc.specs.Descriptions.{described, description_at, description_of}
use Rattle.tx_desc.specs.Plans.{put_descs}
use Rattle.tx_desc.specs.declared.opened.Opened.{Opened}
use Rattle.tx_desc.specs.declared.plans.NewDesc.{NewDesc}
use Rattle.tx_kernel.proofs.EndStates.{sides_same}
use Rattle.tx_kernel.specs.Actors.{IsWhole}
use Rattle.tx_kernel.specs.Endings.{OnlyRemoves, gone_changes, plain, plain_with, takes_out}
use Rattle.tx_model.specs.Descriptors.{has_description, pipe_of, pipes_of}
use Rattle.tx_model.specs.State.{Description, Side}

there_set : (D : List (Option Opened)) (n d : ℕ) (opened : Opened) → is_some (get_or D d None) ≡ true → is_some (get_or (set D n (Some opened)) d None) ≡ true
there_set [] n d opened there = there
there_set (place ∷ D) zero zero opened there = refl
there_set (place ∷ D) zero (suc d) opened there = there
there_set (place ∷ D) (suc n) zero opened there = there
there_set (place ∷ D) (suc n) (suc d) opened there = there_set D n d opened there

there_put : (news : List NewDesc) (D : List (Option Opened)) (d : ℕ) → takes_out news ≡ false → is_some (get_or D d None) ≡ true → is_some (get_or (put_descs news D) d None) ≡ true
there_put [] D d none there = there
there_put (new ∷ news) D d none there = by new.opened (λ E. there_put news E d) none
  where
    by : (opened : Option Opened) →
        ((E : List (Option Opened)) → takes_out news ≡ false → is_some (get_or E d None) ≡ true → is_some (get_or (put_descs news E) d None) ≡ true) →
        (is_none opened || takes_out news) ≡ false → is_some (get_or (put_descs news (set D new.number.0 opened)) d None) ≡ true
    by None later none = let never : ⊥ = cc in absurd never
    by (Some opened) later none = later (set D new.number.0 (Some opened)) none (there_set D new.number.0 d opened there)

kept_at : (old new : Option Opened) → (is_some old ≡ true → is_some new ≡ true) → (described new ≡ described old) ⊎ (described new ≡ None) → described new ≡ described old
kept_at old new stays (inl same) = same
kept_at None new stays (inr gone) = gone
kept_at (Some old) None stays (inr gone) = let never : false ≡ true = stays refl in cc
kept_at (Some old) (Some new) stays (inr gone) = cc

module _ (parts : Parts) (news : List NewDesc) (whole : IsWhole parts) (removes : OnlyRemoves news parts.descs) (none : takes_out news ≡ false) where
  kept : (d : ℕ) → description_at (put_descs news parts.descs) d ≡ description_at parts.descs d
  kept d = kept_at (get_or parts.descs d None) (get_or (put_descs news parts.descs) d None) (there_put news parts.descs d none) (removes.each d)

  named : (d : ℕ) (x : Description) → description_at parts.descs d ≡ Some x → has_description x.pipe (plain_with news parts) ≡ true
  named d x there =
      sides_same (λ (side : Side). true) x.pipe 64 (plain_with news parts) (plain parts) kept
      ∙ by ((plain parts).pipes x.pipe) refl (whole.formed.named d x there).2
    where
      by : (pipe : Option (List ℕ)) → (plain parts).pipes x.pipe ≡ pipe → is_some pipe ≡ true → has_description x.pipe (plain parts) ≡ true
      by None is some = let never : ⊥ = cc in absurd never
      by (Some bytes) is some = (whole.formed.pipes x.pipe bytes is).0

  pub none_gone : (ds : List ℕ) → gone_changes (pipes_of ds (plain parts)) (plain_with news parts) ≡ []
  unfolding gone_changes pipes_of
  none_gone [] = refl
  none_gone (d ∷ ds) = by (none_gone ds) (get_or parts.descs d None) (named d)
    where
      rest : List ℕ
      rest = pipes_of ds (plain parts)

      by : gone_changes rest (plain_with news parts) ≡ [] → (place : Option Opened) →
          ((x : Description) → described place ≡ Some x → has_description x.pipe (plain_with news parts) ≡ true) →
          gone_changes (pipe_of (described place) ++ rest) (plain_with news parts) ≡ []
      by later None has = later
      by later (Some opened) has =
          ap (λ (b : Bool). if b then gone_changes rest (plain_with news parts) else Pipe opened.desc.pipe (Whole None) ∷ gone_changes rest (plain_with news parts)) (has (description_of opened.desc) refl)
          ∙ later
