-- A place of a session's crossings that was exchanged.
use Rattle.std.proofs.Common.{◌≡◌, ℕ, ◌+◌, ◌-◌, List, [], ◌∷◌, ◌++◌, ◌≢◌, length, take, set, get_or, Some, inr, arith, refl, sym, ap, subst, ◌∙◌}
use Rattle.tx_change.specs.Stacks.{below_top}
use Rattle.tx_change.specs.declared.change.Change.{Change}
use Rattle.tx_core.specs.Undo.{LeadsBack}
use Rattle.tx_journal.proofs.Places.{back_there, cut_parts, forward_there, has_last, inverses_are, more_parts, parted, parts_of, popped, turned_back, turned_forward, undone_are, AreParted}
use Rattle.tx_journal.specs.Crossings.{crossed_in, inverses_in, undone_in, GoesBack, GoesForward, IsParted}
use Rattle.tx_content.specs.CrossingFacts.{back_by, back_of, forward_by, is_back, is_forward, moved_forward}
use Rattle.tx_content.specs.Crossings.{inverse_at, moved_over, undone_at, HoldsBack, HoldsForward}
use Rattle.tx_content.specs.Inverses.{Undoes}
use Rattle.tx_content.specs.Redone.{EndsWhole, IsTakenBack}
use Rattle.tx_content.specs.declared.content.Content.{Content}
use Rattle.tx_content.specs.declared.crossing.Crossing.{Crossing}
use Rattle.tx_content.specs.declared.inverse.Inverse.{Inverse}
use Rattle.tx_content.specs.declared.undone.Undone.{Undone}

module _ (places : List Crossing) (made : ℕ) (is : IsParted places made) where
  abbrev backs : List Inverse
  backs = inverses_in places made

  abbrev forwards : List Undone
  forwards = undone_in places made

  are : AreParted places made backs forwards
  are = parts_of places made is

  -- with one more that leads back
  module _ (now : List Crossing) (c : Crossing) (i : Inverse) (none : forwards ≡ []) (leads : inverse_at c ≡ Some i) (pushed_is : now ≡ places ++ c ∷ []) where
    more : AreParted now (made + 1) (backs ++ i ∷ []) []
    more = subst (λ (it : List Crossing). AreParted it (made + 1) (backs ++ i ∷ []) []) (sym pushed_is) (more_parts places made backs c i (subst (AreParted places made backs) none are) leads)

    pub more_parted : IsParted now (made + 1)
    more_parted = parted now (made + 1) (backs ++ i ∷ []) [] more

    pub more_inverses : inverses_in now (made + 1) ≡ backs ++ i ∷ []
    more_inverses = inverses_are now (made + 1) (backs ++ i ∷ []) [] more

    pub more_undone : undone_in now (made + 1) ≡ []
    more_undone = undone_are now (made + 1) (backs ++ i ∷ []) [] more

  -- without those that lead forward
  module _ (now : List Crossing) (cut_is : now ≡ take made places) where
    left : AreParted now made backs []
    left = subst (λ (it : List Crossing). AreParted it made backs []) (sym cut_is) (cut_parts places made backs forwards are)

    pub cut_parted : IsParted now made
    cut_parted = parted now made backs [] left

    pub cut_inverses : inverses_in now made ≡ backs
    cut_inverses = inverses_are now made backs [] left

    pub cut_undone : undone_in now made ≡ []
    cut_undone = undone_are now made backs [] left

  -- the last one that leads back
  module _ (last : ℕ) (newest : last + 1 ≡ made) where
    some : backs ≢ []
    some none = let zero_made : length backs ≡ 0 = ap length none in let count = is.count in absurd (omega (arith, zero_made, count, newest))

    so : (rest : List Inverse) (i : Inverse) → backs ≡ rest ++ i ∷ [] → AreParted places made (rest ++ i ∷ []) forwards
    so rest i parts = subst (λ (it : List Inverse). AreParted places made it forwards) parts are

    there : (c : Crossing) → c ≡ get_or places last c → (rest : List Inverse) (i : Inverse) → backs ≡ rest ++ i ∷ [] → inverse_at c ≡ Some i
    there c value rest i parts = ap inverse_at value ∙ back_there places made last rest i forwards newest (so rest i parts) c

    pub holds_back : (c : Crossing) → c ≡ get_or places last c → (P : Inverse → Type 0) → ((rest : List Inverse) (i : Inverse) → backs ≡ rest ++ i ∷ [] → P i) → HoldsBack c P
    holds_back c value P leads = let end = has_last backs some in back_by P c end.1 (there c value end.0 end.1 end.2) (leads end.0 end.1 end.2)

    module _ (now : List Crossing) (c turned : Crossing) (value : c ≡ get_or places last c) (now_is : now ≡ set places last turned) where
      turned_to : (u : Undone) → undone_at turned ≡ Some u → (rest : List Inverse) (i : Inverse) → backs ≡ rest ++ i ∷ [] → AreParted now last rest (u ∷ forwards)
      turned_to u forward rest i parts =
          subst (λ (it : List Crossing). AreParted it last rest (u ∷ forwards)) (sym now_is) (turned_back places made last rest i forwards newest (so rest i parts) turned u forward)

      pub back_parted : (P : Undone → Type 0) → HoldsForward turned P → IsParted now last
      back_parted P holds =
          let forward = is_forward P turned holds in
          let end = has_last backs some in
          parted now last end.0 (forward.0 ∷ forwards) (turned_to forward.0 forward.1 end.0 end.1 end.2)

      pub goes_back : (k new : Content) (stack rest_stack : List Change) (room : ℕ) → ((before : Content) → HoldsBack c (λ inverse. Undoes k inverse before) → new ≡ before) →
          HoldsForward turned (λ undone. HoldsBack c (EndsWhole k) → IsTakenBack new undone rest_stack k stack) →
          (rest : List Inverse) (i : Inverse) → backs ≡ rest ++ i ∷ [] → GoesBack k (crossed_in places made stack room) new (crossed_in now last rest_stack room) rest i
      goes_back k new stack rest_stack room before again rest i parts =
          let forward = is_forward (λ undone. HoldsBack c (EndsWhole k) → IsTakenBack new undone rest_stack k stack) turned again in
          let all : AreParted now last rest (forward.0 ∷ forwards) = turned_to forward.0 forward.1 rest i parts in
          let by : inverse_at c ≡ Some i = there c value rest i parts in
          record {
            inverses = inverses_are now last rest (forward.0 ∷ forwards) all;
            back = λ prior undoes. before prior (back_by (λ inverse. Undoes k inverse prior) c i by undoes);
            kept = λ whole. inr (forward.0, undone_are now last rest (forward.0 ∷ forwards) all, forward.2 (back_by (EndsWhole k) c i by whole));
            room = refl;
          }

  -- the last one of all, which is let go
  module _ (now : List Crossing) (c : Crossing) (none : forwards ≡ []) (popped_is : places ≡ now ++ c ∷ []) (found : backs ≢ []) where
    abbrev end : (rest : List Inverse) × (i : Inverse) × (backs ≡ rest ++ i ∷ [])
    end = has_last backs found

    last_made : made - 1 + 1 ≡ made
    last_made = grind arith

    ends : (rest : List Inverse) (i : Inverse) → backs ≡ rest ++ i ∷ [] → (inverse_at c ≡ Some i) × AreParted now (made - 1) rest []
    ends rest i parts = popped places made (made - 1) rest i forwards last_made (subst (λ (it : List Inverse). AreParted places made it forwards) parts are) none now c popped_is

    pub popped_back : (P : Inverse → Type 0) → ((rest : List Inverse) (i : Inverse) → backs ≡ rest ++ i ∷ [] → P i) → HoldsBack c P
    popped_back P leads = back_by P c end.1 (ends end.0 end.1 end.2).0 (leads end.0 end.1 end.2)

    pub popped_parted : IsParted now (made - 1)
    popped_parted = parted now (made - 1) end.0 [] (ends end.0 end.1 end.2).1

    pub popped_undone : undone_in now (made - 1) ≡ []
    popped_undone = undone_are now (made - 1) end.0 [] (ends end.0 end.1 end.2).1

    pub goes_undone : (k new : Content) (inverse : Inverse) (stack : List Change) (room room_now : ℕ) → room_now ≡ room → inverse_at c ≡ Some inverse → ((before : Content) → Undoes k inverse before → new ≡ before) →
        (rest : List Inverse) (i : Inverse) → backs ≡ rest ++ i ∷ [] → GoesBack k (crossed_in places made stack room) new (crossed_in now (made - 1) stack room_now) rest i
    goes_undone k new inverse stack room room_now same_room by before rest i parts = grind (arith, ends, inverses_are, undone_are)

  -- the first one that leads forward
  module _ (c : Crossing) (value : c ≡ get_or places made c) (u : Undone) (us : List Undone) (parts : forwards ≡ u ∷ us) where
    ahead : AreParted places made backs (u ∷ us)
    ahead = subst (AreParted places made backs) parts are

    next : undone_at c ≡ Some u
    next = ap undone_at value ∙ forward_there places made backs u us ahead c

    pub holds_forward : (P : Undone → Type 0) → P u → HoldsForward c P
    holds_forward P = forward_by P c u next

    module _ (now : List Crossing) (turned : Crossing) (now_is : now ≡ set places made turned) where
      led_back : (i : Inverse) → inverse_at turned ≡ Some i → AreParted now (made + 1) (backs ++ i ∷ []) us
      led_back i back = subst (λ (it : List Crossing). AreParted it (made + 1) (backs ++ i ∷ []) us) (sym now_is) (turned_forward places made backs u us ahead turned i back)

      pub forward_parted : (P : Inverse → Type 0) → HoldsBack turned P → IsParted now (made + 1)
      forward_parted P holds = let back = is_back P turned holds in parted now (made + 1) (backs ++ back.0 ∷ []) us (led_back back.0 back.1)

      pub goes_forward : (k new : Content) (stack rest_stack : List Change) (room : ℕ) →
          ((after : Content) (below : List Change) → HoldsForward c (λ undone. IsTakenBack k undone stack after below) → new ≡ after) →
          HoldsBack turned (λ inverse. Undoes new inverse k) → HoldsBack turned (LeadsBack new) → HoldsBack turned (EndsWhole new) → rest_stack ≡ below_top (moved_over c) stack →
          GoesForward k (crossed_in places made stack room) new (crossed_in now (made + 1) rest_stack room) u us
      goes_forward k new stack rest_stack room to undoes leads whole stacked =
          let back = is_back (LeadsBack new) turned leads in
          let all : AreParted now (made + 1) (backs ++ back.0 ∷ []) us = led_back back.0 back.1 in
          record {
            inverse = back.0;
            inverses = inverses_are now (made + 1) (backs ++ back.0 ∷ []) us all;
            undone = undone_are now (made + 1) (backs ++ back.0 ∷ []) us all;
            stack = stacked ∙ ap (λ (n : ℕ). below_top n stack) (moved_forward c u next);
            made = λ after below taken. to after below (forward_by (λ undone. IsTakenBack k undone stack after below) c u next taken);
            leads = back.2;
            undoes = back_of (λ inverse. Undoes new inverse k) turned back.0 back.1 undoes;
            whole = back_of (EndsWhole new) turned back.0 back.1 whole;
            room = refl;
          }
