-- Lists of objects, and writes that stay in them.
use Rattle.std.proofs.Common.{◌≡◌, ◌≢◌, ℕ, Bool, true, false, List, [], ◌∷◌, ◌++◌, refl, subst}
use Rattle.tx_model.specs.ObjectFacts.{same_is}
use Rattle.tx_model.specs.State.{State, Sending, Object, Proc, Desc, Pipe, Held, Write, SetProc, SetDesc, SetPipe, SetHeld, has_parent, names_at, side_in, same_object, has_object}
use Rattle.tx_model.specs.Effects.{Conclusion, Replies, AnswersPost, ListsFailed}

-- the write is to one of the objects, and changes the family of no other object but process 1
abbrev pub WriteFits : State → List Object → Write → Type 0
WriteFits S os (SetProc k x) =
    (has_object (Proc k) os ≡ true)
    × ((n : ℕ) → n ≢ 1 → has_object (Proc n) os ≡ false → has_parent n x ≡ has_parent n (S.procs k))
    × ((d f : ℕ) → has_object (Desc d) os ≡ false → names_at d f x ≡ names_at d f (S.procs k))
WriteFits S os (SetDesc k x) = (has_object (Desc k) os ≡ true) × ((n : ℕ) → has_object (Pipe n) os ≡ false → side_in n x ≡ side_in n (S.descs k))
WriteFits S os (SetPipe k x) = has_object (Pipe k) os ≡ true
WriteFits S os (SetHeld k x) = has_object (Held k) os ≡ true

abbrev pub WritesFit : State → List Object → List Write → Type 0
WritesFit S os [] = Unit {0}
WritesFit S os (w ∷ ws) = WriteFits S os w × WritesFit S os ws

abbrev pub TargetsIn : List Sending → List Object → Type 0
TargetsIn [] os = Unit {0}
TargetsIn (m ∷ ms) os = (has_object (Proc m.target) os ≡ true) × TargetsIn ms os

abbrev pub ConclusionIn : Conclusion → List Object → Type 0
ConclusionIn (Replies r) os = Unit {0}
ConclusionIn (AnswersPost p) os = has_object (Proc p) os ≡ true
ConclusionIn ListsFailed os = Unit {0}

-- an object of the list is none that is not
pub different : (o x : Object) (os : List Object) → has_object x os ≡ true → has_object o os ≡ false → same_object o x ≡ false
different o x os h k = by (same_object o x) refl
  where
    by : (b : Bool) → same_object o x ≡ b → b ≡ false
    by true e = let z : has_object x os ≡ false = subst (λ (y : Object). has_object y os ≡ false) (same_is o x e) k in cc
    by false e = refl

-- each object of the first list is one of the second
abbrev pub Covers : List Object → List Object → Type 0
Covers os xs = (o : Object) → has_object o xs ≡ true → has_object o os ≡ true

pub writes_append : (S : State) (os : List Object) (xs ys : List Write) → WritesFit S os xs → WritesFit S os ys → WritesFit S os (xs ++ ys)
writes_append S os [] ys f g = g
writes_append S os (x ∷ xs) ys f g = (f.0, writes_append S os xs ys f.1 g)
