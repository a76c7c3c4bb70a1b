-- What the theorems use of the chip's rules, and all that they use: a change of room, places, N or status is paid here.
use mathlib.Core.Path.{◌≡◌, refl, sym, ap, ◌∙◌}
use mathlib.Core.Logic.{◌≢◌}
use mathlib.Core.Bool.{Bool, true, false, ◌&&◌, ◌||◌, true≢false}
use mathlib.Core.List.{List, [], ◌∷◌}
use Prim.Native.Nat.{ℕ, zero, suc, ◌/◌, ◌<◌, ◌≤◌}
use native.Mathlib.Omega.{arith}
use native.Mathlib.Decide.{dec_lt}
use lib.Dec.{ltb, eqb}
use lib.ListN.{length, get_or-eq_default}
use lib.Seq.{get_or-set_same, get_or-set_other, set_comm, set-set}
use borrow.Author.Tests.{ltb-true, lt-ltb, ne_eqb, eqb-false}
use Rattle.chip_rules.specs.State.{Channel, empty, held, Flags, State, parasite, R1, R3, fed, toward, chan, put, Access, refused}
use Rattle.chip_rules.specs.Rules.{Request, limit, room, ready, low, status, status_of, control, Moved, take_oldest, append, on, decode, exists, step, perform}
use Rattle.chip_rules.specs.Conflict.{tight, tight_at}

-- Tests joined.
pub or_false_both : (a b : Bool) → a || b ≡ false → (a ≡ false) × (b ≡ false)
or_false_both true b h = absurd (true≢false h)
or_false_both false b h = (refl, h)

pub and_true_both : (a b : Bool) → a && b ≡ true → (a ≡ true) × (b ≡ true)
and_true_both true b h = (refl, h)
and_true_both false b h = absurd (true≢false (sym h))

pub and_false_right : (a b : Bool) → a && b ≡ false → a ≡ true → b ≡ false
and_false_right true b h e = h
and_false_right false b h e = absurd (true≢false (sym e))

-- A request by its parts, and an access by what its side and offset are.
abbrev pub request : Bool → Bool → ℕ → ℕ → Request
request d w r b = record { register = r; is_data = d; write = w; byte = b }

pub by_side : (s : State) (a : Access) → exists a ≡ true → perform s a ≡ step s a.side (decode a)
unfolding perform
by_side s a x = rw x

pub by_none : (s : State) (a : Access) → exists a ≡ false → perform s a ≡ refused 1 s
unfolding perform
by_none s a x = rw x

-- Fewer bytes never lose room.
pub room_down : (f : Flags) (c n : ℕ) → room f c (suc n) ≡ true → room f c n ≡ true
unfolding room
room_down f c n h = lt-ltb n (limit f c) (let g : suc n < limit f c = ltb-true (suc n) (limit f c) h in omega arith)

-- Control leaves the room of every register but R3.
limit_control : (b : ℕ) (f : Flags) (c : ℕ) → eqb (c / 2) R3 ≡ false → limit (control b f) c ≡ limit f c
limit_control b f c h = simp h

pub room_control : (b : ℕ) (f : Flags) (c : ℕ) → eqb (c / 2) R3 ≡ false → room (control b f) c ≡ room f c
unfolding room
room_control b f c h = ap {B = ℕ → Bool} (λ (most n : ℕ). ltb n most) (limit_control b f c h)

-- The parasite's status of R2 and R4 does not show the flags.
pub status_control : (b : ℕ) (f : Flags) (r n m : ℕ) → eqb r R1 ≡ false → eqb r R3 ≡ false
    → status (control b f) parasite r n m ≡ status f parasite r n m
unfolding status ready low
status_control b f r n m one three =
    let e : eqb (fed parasite r / 2) R3 ≡ false = ne_eqb (fed parasite r / 2) R3 (λ q. eqb-false r R3 three (omega arith)) in
    rw (room_control b f (fed parasite r) e, one, three)

-- Updates of different channels commute.
pub chan_other : (s : State) (c d : ℕ) (l : Channel) → c ≢ d → chan (put s c l) d ≡ chan s d
chan_other s c d l h = get_or-set_other s.channels c d l empty (λ e. h (sym e))

pub chan_same : (s : State) (c : ℕ) (l : Channel) → c < length s.channels → chan (put s c l) c ≡ l
chan_same s c l h = get_or-set_same s.channels c l empty h

put_comm : (s : State) (c d : ℕ) (k l : Channel) → c ≢ d → put (put s c k) d l ≡ put (put s d l) c k
put_comm s c d k l h = ap (λ (z : List Channel). record { channels = z; flags = s.flags }) (set_comm s.channels c d k l h)

put_put : (s : State) (c : ℕ) (k l : Channel) → put (put s c k) c l ≡ put s c l
put_put s c k l = ap (λ (z : List Channel). record { channels = z; flags = s.flags }) (set-set s.channels c k l)

-- Two data accesses, f on channel c and g on channel d, in either order.
pub record Agree (s : State) (c : ℕ) (f : Channel → Moved) (d : ℕ) (g : Channel → Moved) : Type 0 where
  pub first : (on s c f).reply ≡ (on (on s d g).state c f).reply
  pub second : (on (on s c f).state d g).reply ≡ (on s d g).reply
  pub end : (on (on s c f).state d g).state ≡ (on (on s d g).state c f).state

pub agree_flip : (s : State) (c : ℕ) (f : Channel → Moved) (d : ℕ) (g : Channel → Moved) → Agree s c f d g → Agree s d g c f
agree_flip s c f d g a = record { first = sym a.second; second = sym a.first; end = sym a.end }

pub agree_apart : (s : State) (c : ℕ) (f : Channel → Moved) (d : ℕ) (g : Channel → Moved) → c ≢ d → Agree s c f d g
agree_apart s c f d g h =
    let j = (f (chan s c)).channel in
    let k = (g (chan s d)).channel in
    let at_c : chan (put s d k) c ≡ chan s c = chan_other s d c k (λ e. h (sym e)) in
    let at-d : chan (put s c j) d ≡ chan s d = chan_other s c d j h in
    record {
      first = ap (λ (l : Channel). (f l).reply) (sym at_c);
      second = ap (λ (l : Channel). (g l).reply) at-d;
      end =
          ap (λ (l : Channel). put (put s c j) d (g l).channel) at-d
          ∙ put_comm s c d j k h
          ∙ sym (ap (λ (l : Channel). put (put s d k) c (f l).channel) at_c);
    }

-- Write and read of one channel that is neither empty nor just full commute.
record Swappable (f g : Channel → Moved) (l : Channel) : Type 0 where
  first : (f l).reply ≡ (f (g l).channel).reply
  second : (g (f l).channel).reply ≡ (g l).reply
  both : (g (f l).channel).channel ≡ (f (g l).channel).channel

read_write : (fits : ℕ → Bool) (b : ℕ) (l : Channel) → ((n : ℕ) → fits (suc n) ≡ true → fits n ≡ true) → tight fits (held l) ≡ false
    → Swappable take_oldest (append fits b) l
unfolding tight take_oldest append
read_write fits b [] down h = absurd (true≢false h)
read_write fits b (x ∷ xs) down h = go (fits (suc (length xs))) refl (fits (length xs)) refl
  where
    go : (t : Bool) → fits (suc (length xs)) ≡ t → (u : Bool) → fits (length xs) ≡ u → Swappable take_oldest (append fits b) (x ∷ xs)
    go true p true q = record { first = simp p; second = simp (p, q); both = simp (p, q) }
    go true p false q = absurd (true≢false (sym (down (length xs) p) ∙ q))
    go false p true q = absurd (true≢false (cc))
    go false p false q = record { first = simp p; second = simp (p, q); both = simp (p, q) }

tight_held : (fits : ℕ → Bool) (n : ℕ) → tight fits n ≡ false → n ≢ 0
unfolding tight
tight_held fits zero h e = true≢false h
tight_held fits (suc n) h e = omega (arith, e)

-- a channel that holds a byte is one of the list's
in_list : (s : State) (c : ℕ) → held (chan s c) ≢ 0 → c < length s.channels
in_list s c h = elim (dec_lt c (length s.channels)) [ yes y ↦ y | no n ↦ absurd (h (ap held (get_or-eq_default s.channels empty (omega (arith, n))))) ]

agree_same : (s : State) (c : ℕ) (f g : Channel → Moved) → c < length s.channels → Swappable f g (chan s c) → Agree s c f c g
agree_same s c f g h w =
    let j = (f (chan s c)).channel in
    let k = (g (chan s c)).channel in
    let at_j : chan (put s c j) c ≡ j = chan_same s c j h in
    let at-k : chan (put s c k) c ≡ k = chan_same s c k h in
    record {
      first = w.first ∙ sym (ap (λ (l : Channel). (f l).reply) at-k);
      second = ap (λ (l : Channel). (g l).reply) at_j ∙ w.second;
      end =
          put_put s c j (g (chan (put s c j) c)).channel
          ∙ ap (λ (l : Channel). put s c (g l).channel) at_j
          ∙ ap (put s c) w.both
          ∙ sym (ap (λ (l : Channel). put s c (f l).channel) at-k)
          ∙ sym (put_put s c k (f (chan (put s c k) c)).channel);
    }

pub agree_channel : (s : State) (c b : ℕ) → tight_at s c ≡ false → Agree s c take_oldest c (append (room s.flags c) b)
agree_channel s c b h =
    agree_same s c take_oldest (append (room s.flags c) b)
    (in_list s c (tight_held (room s.flags c) (held (chan s c)) h))
    (read_write (room s.flags c) b (chan s c) (room_down s.flags c) h)

-- A status is a function of the flags and its register's two channels, and an update of another register leaves those alone.
pub status_other : (s : State) (side r c : ℕ) (l : Channel) → eqb (c / 2) r ≡ false → side ≤ 1 → status_of (put s c l) side r ≡ status_of s side r
status_other s side r c l h low =
    let d : c / 2 ≢ r = eqb-false (c / 2) r h in
    rw (chan_other s c (toward side r) l (λ e. d (omega arith)), chan_other s c (fed side r) l (λ e. d (omega arith)))
