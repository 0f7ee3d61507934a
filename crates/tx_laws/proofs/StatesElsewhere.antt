-- What an event, made on any state, does to what is no object of it: its posts, and nothing else.
use Rattle.std.proofs.Common.{◌≡◌, false, List, [], ◌∷◌, refl, ℤ}
use Rattle.tx_model.specs.State.{State, Object, Proc, Desc, Pipe, Held, Write, SetProc, SetDesc, SetPipe, SetHeld, write_one, with_writes, has_object}
use Rattle.tx_model.specs.StateLaws.{EqualAt}
use Rattle.tx_model.specs.Posts.{after_posts}
use Rattle.tx_model.specs.Effects.{Effect, after_effect}
use Rattle.tx_model.specs.Words.{before_sends}
use Rattle.tx_model.specs.Events.{Event, effect, objects}
use Rattle.tx_laws.proofs.Agree.{part_refl, part_trans, posts_part}
use Rattle.tx_laws.proofs.Elsewhere.{concluded_else, event_fits}
use Rattle.tx_laws.proofs.Objects.{WriteFits, WritesFit, different}

write_other : (w : Write) (S T : State) (os : List Object) (o : Object) → WriteFits S os w → has_object o os ≡ false → EqualAt (write_one w T) T o
write_other (SetProc k x) S T os (Proc n) f h = rw (different (Proc n) (Proc k) os f.0 h) refl
write_other (SetProc k x) S T os (Desc n) f h = refl
write_other (SetProc k x) S T os (Pipe n) f h = refl
write_other (SetProc k x) S T os (Held n) f h = refl
write_other (SetDesc k x) S T os (Proc n) f h = refl
write_other (SetDesc k x) S T os (Desc n) f h = rw (different (Desc n) (Desc k) os f.0 h) refl
write_other (SetDesc k x) S T os (Pipe n) f h = refl
write_other (SetDesc k x) S T os (Held n) f h = refl
write_other (SetPipe k x) S T os (Proc n) f h = refl
write_other (SetPipe k x) S T os (Desc n) f h = refl
write_other (SetPipe k x) S T os (Pipe n) f h = rw (different (Pipe n) (Pipe k) os f h) refl
write_other (SetPipe k x) S T os (Held n) f h = refl
write_other (SetHeld k x) S T os (Proc n) f h = refl
write_other (SetHeld k x) S T os (Desc n) f h = refl
write_other (SetHeld k x) S T os (Pipe n) f h = refl
write_other (SetHeld k x) S T os (Held n) f h = rw (different (Held n) (Held k) os f h) refl

-- writes that stay in some objects leave every other part of any state alone
written_other : (ws : List Write) (S T : State) (os : List Object) (o : Object) → WritesFit S os ws → has_object o os ≡ false → EqualAt (with_writes ws T) T o
unfolding with_writes
written_other [] S T os o f h = part_refl T o
written_other (w ∷ ws) S T os o f h =
    part_trans (with_writes ws (write_one w T)) (write_one w T) T o (written_other ws S (write_one w T) os o f.1 h) (write_other w S T os o f.0 h)

-- the writes of an event leave every part of any state alone that is no object of it
pub writes_elsewhere : (ev : Event) (S T : State) (o : Object) → has_object o (objects ev S) ≡ false → EqualAt (before_sends (effect ev S) T) T o
writes_elsewhere ev S T o h = written_other (effect ev S).writes S T (objects ev S) o (event_fits ev S (objects ev S) (λ q k. k)).0 h

-- at what is no object of it an event does nothing but its posts, in whatever state it is made
pub posts_alone : (ev : Event) (S T : State) (rs : List ℤ) (o : Object) → has_object o (objects ev S) ≡ false → EqualAt (after_effect (effect ev S) rs T) (after_posts (effect ev S).sends T) o
posts_alone ev S T rs o h =
    let f : Effect = effect ev S in
    let R : State = before_sends f T in
    part_trans (after_effect f rs T) (after_posts f.sends R) (after_posts f.sends T) o
    (concluded_else f.conclusion rs (after_posts f.sends R) (objects ev S) o (event_fits ev S (objects ev S) (λ q k. k)).1 h).equal
    (posts_part f.sends R T o (writes_elsewhere ev S T o h))
