-- The parts of a history are its steps.
use Rattle.std.proofs.Common.{ℕ, Bool, true, false, List, [], ◌∷◌, if◌then◌else◌, refl, inl, inr}
use Rattle.tx_base.specs.declared.steps.Accepted.{Accepted}
use Rattle.tx_model.specs.State.{State}
use Rattle.tx_model.specs.History.{role_in}
use Rattle.tx_laws.specs.OneMoment.{Parted, with_own, with_other, begins_it, is_step_of, parted}
use Rattle.tx_moment.specs.Shuffles.{IsShuffle}

-- with nothing from the first list, the second is the whole
all_others : (h : List Accepted) → IsShuffle [] h h
unfolding IsShuffle
all_others [] = (refl, refl)
all_others (e ∷ h) = inr (h, refl, all_others h)

-- the parts of a history put together make the history
pub shuffled : (S : State) (s : ℕ) (h : List Accepted) → IsShuffle (parted S s h).own (parted S s h).others h
unfolding IsShuffle parted
shuffled S s [] = (refl, refl)
shuffled S s (e ∷ h) = by (begins_it s (role_in S e h)) (is_step_of s (role_in S e h)) (shuffled S s h)
  where
    parts : Bool → Bool → Parted
    parts b c = if b then record { own = e ∷ []; others = h } else (if c then with_own e (parted S s h) else with_other e (parted S s h))

    by : (b c : Bool) → IsShuffle (parted S s h).own (parted S s h).others h → IsShuffle (parts b c).own (parts b c).others (e ∷ h)
    by true c rest = inl ([], refl, all_others h)
    by false true rest = inl ((parted S s h).own, refl, rest)
    by false false rest = inr ((parted S s h).others, refl, rest)
