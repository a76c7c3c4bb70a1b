-- One host and one parasite access that do not conflict: either order leaves the same state and gives the same replies.
-- The host's comes first by its kind, then the parasite's; each row stands on a law of `Laws`, and none on an offset.
use mathlib.Core.Path.{◌≡◌, refl, sym, ap, ◌∙◌, subst}
use mathlib.Core.Logic.{◌≢◌}
use mathlib.Core.Bool.{Bool, true, false, xor, ◌||◌}
use Prim.Native.Nat.{ℕ, ◌/◌, ◌%◌, ◌≤◌}
use native.Mathlib.Omega.{arith}
use lib.Dec.{eqb}
use borrow.Author.Tests.{eqb-true, eqb-false, ne_eqb}
use Rattle.chip_rules.specs.State.{Channel, State, host, parasite, R1, R3, fed, toward, chan, put, Access, Reply}
use Rattle.chip_rules.specs.Rules.{Request, decode, exists, room, status_of, control, clears, take_oldest, append, channel_of, move, step, perform}
use Rattle.chip_rules.specs.Conflict.{tight_at, requests_conflict, conflict}
use Rattle.chip_rules.proofs.Laws.{request, by_side, by_none, or_false_both, and_false_right, agree_flip, room_control, status_control, Agree, agree_apart, agree_channel, status_other}

record Commutes (s : State) (h p : Request) : Type 0 where
  host_reply : (step s host h).reply ≡ (step (step s parasite p).state host h).reply
  parasite_reply : (step (step s host h).state parasite p).reply ≡ (step s parasite p).reply
  state : (step (step s host h).state parasite p).state ≡ (step (step s parasite p).state host h).state

-- a data access works on a channel of its own register
own_register : (side : ℕ) (w : Bool) (r b : ℕ) → side ≤ 1 → channel_of side (request true w r b) / 2 ≡ r
own_register side true r b h = omega arith
own_register side false r b h = omega arith

-- a status beside a data access to another register
status_beside : (s : State) (side r other : ℕ) (w : Bool) (q b : ℕ) (l : Channel) → side ≤ 1 → other ≤ 1 → r ≢ q
    → status_of (put s (channel_of other (request true w q b)) l) side r ≡ status_of s side r
status_beside s side r other w q b l h g d =
    let o : channel_of other (request true w q b) / 2 ≡ q = own_register other w q b g in
    status_other s side r (channel_of other (request true w q b)) l
    (ne_eqb (channel_of other (request true w q b) / 2) r (λ e. d (sym e ∙ o))) h

told : {m n : ℕ} → m ≡ n → ◌≡◌ {A = Reply} (record { answer = 0; byte = m }) (record { answer = 0; byte = n })
told e = ap (λ (z : ℕ). record { answer = 0; byte = z }) e

-- two data accesses: of different channels, or of one that is not tight
agree : (s : State) (hw : Bool) (r b : ℕ) (pw : Bool) (q c : ℕ) → requests_conflict s (request true hw r b) (request true pw q c) ≡ false
    → Agree s (channel_of host (request true hw r b)) (move s.flags host (request true hw r b))
    (channel_of parasite (request true pw q c)) (move s.flags parasite (request true pw q c))
unfolding requests_conflict xor
agree s true r b true q c m =
    agree_apart s (fed host r) (append (room s.flags (fed host r)) b) (fed parasite q) (append (room s.flags (fed parasite q)) c) (λ e. omega arith)
agree s false r b false q c m = agree_apart s (toward host r) take_oldest (toward parasite q) take_oldest (λ e. omega arith)
agree s true r b false q c m = go (eqb (fed host r) (toward parasite q)) refl
  where
    go : (t : Bool) → eqb (fed host r) (toward parasite q) ≡ t → Agree s (fed host r) (append (room s.flags (fed host r)) b) (toward parasite q) take_oldest
    go true e =
        let n = and_false_right (eqb (fed host r) (toward parasite q)) (tight_at s (fed host r)) (or_false_both _ _ m).0 e in
        subst (λ (d : ℕ). Agree s (fed host r) (append (room s.flags (fed host r)) b) d take_oldest) (eqb-true (fed host r) (toward parasite q) e)
        (agree_flip s (fed host r) take_oldest (fed host r) (append (room s.flags (fed host r)) b) (agree_channel s (fed host r) b n))
    go false e = agree_apart s (fed host r) (append (room s.flags (fed host r)) b) (toward parasite q) take_oldest (eqb-false (fed host r) (toward parasite q) e)
agree s false r b true q c m = go (eqb (toward host r) (fed parasite q)) refl
  where
    go : (t : Bool) → eqb (toward host r) (fed parasite q) ≡ t → Agree s (toward host r) take_oldest (fed parasite q) (append (room s.flags (fed parasite q)) c)
    go true e =
        let n = and_false_right (eqb (toward host r) (fed parasite q)) (tight_at s (toward host r)) (or_false_both _ _ m).0 e in
        subst (λ (d : ℕ). Agree s (toward host r) take_oldest d (append (room s.flags d) c)) (eqb-true (toward host r) (fed parasite q) e)
        (agree_channel s (toward host r) c n)
    go false e = agree_apart s (toward host r) take_oldest (fed parasite q) (append (room s.flags (fed parasite q)) c) (eqb-false (toward host r) (fed parasite q) e)

-- control that is no clear, beside a parasite access that does not see the flags
move_control : (b : ℕ) (s : State) (w : Bool) (q c : ℕ) → eqb q R3 ≡ false
    → move (control b s.flags) parasite (request true w q c) ≡ move s.flags parasite (request true w q c)
move_control b s true q c h =
    let e : eqb (fed parasite q / 2) R3 ≡ false = ne_eqb (fed parasite q / 2) R3 (λ e. eqb-false q R3 h (omega arith)) in
    rw (room_control b s.flags (fed parasite q) e)
move_control b s false q c h = refl

control_data : (s : State) (b : ℕ) (w : Bool) (q c : ℕ) → clears b ≡ false → eqb q R3 ≡ false
    → Commutes s (request false true R1 b) (request true w q c)
control_data s b w q c n h =
    record {
      host_reply = refl;
      parasite_reply = rw (n, move_control b s w q c h);
      state = rw (n, move_control b s w q c h);
    }

control_status : (s : State) (b q c : ℕ) → clears b ≡ false → (eqb q R1 ≡ false) × (eqb q R3 ≡ false)
    → Commutes s (request false true R1 b) (request false false q c)
control_status s b q c n h =
    record {
      host_reply = refl;
      parasite_reply = told (rw n (status_control b s.flags q _ _ h.0 h.1));
      state = refl;
    }

-- the host's status writes: control, and those that change nothing
status_write : (s : State) (r b : ℕ) (p : Request) → (eqb r R1 ≡ true → Commutes s (request false true R1 b) p)
    → Commutes s (request false true r b) p
status_write s r b p control-row = go (eqb r R1) refl
  where
    go : (t : Bool) → eqb r R1 ≡ t → Commutes s (request false true r b) p
    go true e = subst (λ (z : ℕ). Commutes s (request false true z b) p) (sym (eqb-true r R1 e)) (control-row e)
    go false e = record { host_reply = refl; parasite_reply = rw e; state = rw e }

pair : (s : State) (pd pw : Bool) (q c : ℕ) (hd hw : Bool) (r b : ℕ) → requests_conflict s (request hd hw r b) (request pd pw q c) ≡ false
    → Commutes s (request hd hw r b) (request pd pw q c)
unfolding requests_conflict
pair s false true q c hd hw r b m = record { host_reply = refl; parasite_reply = refl; state = refl }
pair s false false q c false false r b m = record { host_reply = refl; parasite_reply = refl; state = refl }
pair s false false q c false true r b m =
    status_write s r b (request false false q c)
    (λ e.
    let n = or_false_both (clears b) (eqb q R1 || eqb q R3) (and_false_right (eqb r R1) (clears b || (eqb q R1 || eqb q R3)) m e) in
    control_status s b q c n.0 (or_false_both (eqb q R1) (eqb q R3) n.1))
pair s false false q c true hw r b m =
    let d : r ≢ q = eqb-false r q (or_false_both _ _ m).0 in
    record {
      host_reply = refl;
      parasite_reply = told (status_beside s parasite q host hw r b (move s.flags host (request true hw r b) (chan s (channel_of host (request true hw r b)))).channel (omega arith) (omega arith) (λ e. d (sym e)));
      state = refl;
    }
pair s true pw q c false false r b m =
    let d : r ≢ q = eqb-false r q (or_false_both _ _ m).0 in
    record {
      host_reply = told (sym (status_beside s host r parasite pw q c (move s.flags parasite (request true pw q c) (chan s (channel_of parasite (request true pw q c)))).channel (omega arith) (omega arith) d));
      parasite_reply = refl;
      state = refl;
    }
pair s true pw q c false true r b m =
    status_write s r b (request true pw q c)
    (λ e.
    let n = or_false_both (clears b) (eqb q R3) (and_false_right (eqb r R1) (clears b || eqb q R3) m e) in
    control_data s b pw q c n.0 n.1)
pair s true pw q c true hw r b m =
    let a = agree s hw r b pw q c m in
    record { host_reply = a.first; parasite_reply = a.second; state = a.end }

-- One host and one parasite access as the program is given them; one that does not exist is refused and changes nothing.
pub record Exchanged (s : State) (h p : Access) : Type 0 where
  pub host_reply : (perform s h).reply ≡ (perform (perform s p).state h).reply
  pub parasite_reply : (perform (perform s h).state p).reply ≡ (perform s p).reply
  pub state : (perform (perform s h).state p).state ≡ (perform (perform s p).state h).state

by_host : (s : State) (a : Access) → exists a ≡ true → a.side ≡ host → perform s a ≡ step s host (decode a)
by_host s a x e = rw (by_side s a x, e)

by_parasite : (s : State) (a : Access) → exists a ≡ true → a.side ≡ parasite → perform s a ≡ step s parasite (decode a)
by_parasite s a x e = rw (by_side s a x, e)

pub exchanged : (s : State) (h p : Access) → h.side ≡ host → p.side ≡ parasite → conflict s h p ≡ false → Exchanged s h p
exchanged s h p eh ep m = go (exists h) refl (exists p) refl
  where
    go : (t : Bool) → exists h ≡ t → (u : Bool) → exists p ≡ u → Exchanged s h p
    go true x true y =
        let n : requests_conflict s (decode h) (decode p) ≡ false = rw (x, y) at m in
        let c = pair s (eqb (p.offset % 2) 1) p.write (p.offset / 2) p.byte (eqb (h.offset % 2) 1) h.write (h.offset / 2) h.byte n in
        record {
          host_reply = simp (by_host, by_parasite) c.host_reply;
          parasite_reply = simp (by_host, by_parasite) c.parasite_reply;
          state = simp (by_host, by_parasite) c.state;
        }
    go true x false y = record { host_reply = simp by_none; parasite_reply = simp by_none; state = simp by_none }
    go false x u y = record { host_reply = simp by_none; parasite_reply = simp by_none; state = simp by_none }
