-- A reply that a link reports, at any place of any session, is one of the call that waited and ends at its last byte.
use Prim.Native.Nat.{ℕ}
use mathlib.Core.Path.{◌≡◌, refl, sym, ap, subst, ◌∙◌}
use mathlib.Core.Bool.{Bool, true, false, cond}
use mathlib.Core.List.{List, [], ◌∷◌, ◌++◌, append_assoc}
use native.Mathlib.Omega.{arith}
use lib.Dec.{eqb}
use lib.ListN.{length}
use borrow.Author.Tests.{eqb-false}
use Rattle.serial_rules.specs.Escape.{Piece, pending, data_byte, mark, piece_of}
use Rattle.serial_rules.specs.Body.{Turn, more, done, refused}
use Rattle.serial_rules.specs.Reply.{Kind, Shape, shape_of, shape_turn, longest}
use Rattle.serial_rules.specs.Link.{Transfer, load, save, Report, need_more, character, reply, escape_state, event, address, block, loaded, ended, error, restart, refusal, Action, failing, signal, place, control, own_shape, Meaning, unknown, end, starts, meaning_of, Doing, none, own, Layer, layer, Token, underway, datum, acted, failed, bad, seen, failure, finish, own_byte, innermost, closes, opens, may_start, mark_outside, piece_seen, look, Wait, idle, waiting, Frame, frame, complete, begun, Standing, halted, holds, reply_turned, datum_met, meets, Link, stopped, live, link_at, step, entry, enter_at, enters, begin}
use Rattle.serial_rules.specs.Session.{Input, raw, call, next_by, link_after}
use Rattle.serial_rules.proofs.Ends.{Ends, last, next}
use Rattle.serial_rules.proofs.Parts.{length_snoc}

-- bytes each of which needs more
pub data Upto (shape : Shape) : List ℕ → Type 0 where
  begins : Upto shape []
  grows : (s : List ℕ) (b : ℕ) → Upto shape s → shape_turn shape (length s) b ≡ more → Upto shape (s ++ (b ∷ []))

upto_ends : (shape : Shape) {u : List ℕ} (s : List ℕ) → Upto shape u → Ends shape (length u) s → Ends shape 0 (u ++ s)
upto_ends shape s begins e = e
upto_ends shape s (grows u b w m) e =
    subst (Ends shape 0) (sym (append_assoc u (b ∷ []) s)) (upto_ends shape (b ∷ s) w (next (length u) b s m (subst (λ (n : ℕ). Ends shape n s) (length_snoc u b) e)))

-- what a link holds of the reply
abbrev Held : Wait → List ℕ → Type 0
Held idle s = Unit
Held (waiting k) s = (longest (shape_of k) ≡ 0 → ⊥) × Upto (shape_of k) s

abbrev pub Sound : Link → Type 0
Sound stopped = Unit
Sound (live l f) = Held f.wait f.got

abbrev Stands : Standing → Type 0
Stands halted = Unit
Stands (holds f) = Held f.wait f.got

turned_stands : (k : Kind) (s : List ℕ) (b : ℕ) (t : Turn) → shape_turn (shape_of k) (length s) b ≡ t → Held (waiting k) s → Stands (reply_turned k s b t).next
turned_stands k s b more e h = (h.0, grows s b h.1 e)
turned_stands k s b done e h = tt
turned_stands k s b (refused n) e h = tt

datum_stands : (f : Frame) (w : Wait) (b : ℕ) → f.wait ≡ w → Held w f.got → Stands (datum_met f w b).next
datum_stands f idle b e h = subst (λ (u : Wait). Held u f.got) (sym e) h
datum_stands f (waiting k) b e h = turned_stands k f.got b (shape_turn (shape_of k) (length f.got) b) refl h

meets_stands : (f : Frame) (t : Token) → Held f.wait f.got → Stands (meets f t).next
unfolding meets
meets_stands f underway h = h
meets_stands f (datum b) h = datum_stands f f.wait b refl h
meets_stands f (acted r) h = h
meets_stands f (failed r) h = tt
meets_stands f (bad n) h = tt

sound_at : (l : Layer) (S : Standing) → Stands S → Sound (link_at l S)
sound_at l halted h = tt
sound_at l (holds f) h = h

enters_sound : (f : Frame) (w : Wait) (k : Kind) → f.wait ≡ w → Held f.wait f.got → Held (enter_at w f k).next.wait (enter_at w f k).next.got
enters_sound f (waiting j) k e h = h
enters_sound f idle k e h = go (eqb (longest (shape_of k)) 0) refl
  where
    go : (t : Bool) → eqb (longest (shape_of k)) 0 ≡ t
        → let n = cond t (entry complete f) (entry begun (frame (waiting k) [])) in Held n.next.wait n.next.got
    go true p = h
    go false p = (eqb-false (longest (shape_of k)) 0 p, begins)

next_sound : (l : Link) (i : Input) → Sound l → Sound (next_by l i)
unfolding step begin enters
next_sound stopped (raw x) h = tt
next_sound stopped (call k) h = tt
next_sound (live l f) (raw x) h = sound_at (look l x).next (meets f (look l x).token).next (meets_stands f (look l x).token h)
next_sound (live l f) (call k) h = enters_sound f f.wait k refl h

pub after_sound : (l : Link) (s : List Input) → Sound l → Sound (link_after l s)
unfolding link_after
after_sound l [] h = h
after_sound l (i ∷ s) h = after_sound (next_by l i) s (next_sound l i h)

-- a reply is reported for a data byte only
abbrev pub Bare : Report → Type 0
Bare need_more = Unit
Bare (character b) = Unit
Bare (reply s) = ⊥
Bare (escape_state on) = Unit
Bare (event y x a) = Unit
Bare (address t b3 b2 b1 b0) = Unit
Bare (block h) = Unit
Bare (loaded b) = Unit
Bare (ended t) = Unit
Bare (error n t) = Unit
Bare restart = Unit
Bare (refusal n) = Unit

abbrev pub BareToken : Token → Type 0
BareToken underway = Unit
BareToken (datum b) = Unit
BareToken (acted r) = Bare r
BareToken (failed r) = Bare r
BareToken (bad n) = Unit

bare_failure : (n : ℕ) (t : List ℕ) → Bare (failure n t)
bare_failure n (x ∷ t) = tt
bare_failure n [] = go (eqb n 0)
  where
    go : (t : Bool) → Bare (cond t restart (error n []))
    go true = tt
    go false = tt

bare_finish : (a : Action) (h : List ℕ) (b : ℕ) → BareToken (finish a h b)
bare_finish failing [] b = tt
bare_finish failing (n ∷ t) b = bare_failure n t
bare_finish signal h b = tt
bare_finish (place t) h b = tt
bare_finish (control n) h b = tt

bare_own : (o : List Transfer) (a : Action) (h : List ℕ) (b : ℕ) (t : Turn) → BareToken (own_byte o a h b t).token
bare_own o a h b more = tt
bare_own o a h b done = bare_finish a h b
bare_own o a h b (refused n) = tt

bare_innermost : (o : List Transfer) (b : ℕ) → BareToken (innermost o b)
bare_innermost [] b = tt
bare_innermost (load ∷ o) b = tt
bare_innermost (save ∷ o) b = tt

bare_closes : (o : List Transfer) → BareToken (closes o).token
bare_closes [] = tt
bare_closes (t ∷ o) = tt

bare_mark : (o : List Transfer) (w : Meaning) → BareToken (mark_outside o w).token
bare_mark o unknown = tt
bare_mark o (Meaning.state on) = tt
bare_mark o end = bare_closes o
bare_mark o (starts a) = go (may_start a o)
  where
    go : (k : Bool) → BareToken (cond k (opens o a) (seen (bad 13) (layer false none o))).token
    go true = tt
    go false = tt

bare_piece : (o : List Transfer) (d : Doing) (p : Piece) → BareToken (piece_seen o d p).token
bare_piece o d pending = tt
bare_piece o none (data_byte b) = bare_innermost o b
bare_piece o (own a h) (data_byte b) = bare_own o a h b (shape_turn (own_shape a) (length h) b)
bare_piece o none (mark m) = bare_mark o (meaning_of m)
bare_piece o (own a h) (mark m) = tt

pub bare_look : (l : Layer) (x : ℕ) → BareToken (look l x).token
unfolding look
bare_look l x = bare_piece l.stack l.doing (piece_of l.escape x)

-- which call waits
abbrev pub wait_in : Link → Wait
wait_in stopped = idle
wait_in (live l f) = f.wait

pub record Finished (k : Kind) (s : List ℕ) : Type 0 where
  pub some : longest (shape_of k) ≡ 0 → ⊥
  pub ends : Ends (shape_of k) 0 s

abbrev Different : Type 0
Different = ◌≡◌ {A = ℕ} 0 1

turned_ends : (k : Kind) (got s : List ℕ) (b : ℕ) (t : Turn) → shape_turn (shape_of k) (length got) b ≡ t → Held (waiting k) got
    → (reply_turned k got b t).report ≡ reply s → Finished k s
turned_ends k got s b more e h q = let z : Different = cc in absurd (omega arith)
turned_ends k got s b done e h q =
    let p : got ++ (b ∷ []) ≡ s = cc in
    record { some = h.0; ends = subst (Ends (shape_of k) 0) p (upto_ends (shape_of k) (b ∷ []) h.1 (last (length got) b e)) }
turned_ends k got s b (refused n) e h q = let z : Different = cc in absurd (omega arith)

pub bare_not : (r : Report) (s : List ℕ) → Bare r → r ≡ reply s → ⊥
bare_not r s b e = subst Bare e b

meets_ends : (f : Frame) (t : Token) (k : Kind) (s : List ℕ) → f.wait ≡ waiting k → Held f.wait f.got → BareToken t → (meets f t).report ≡ reply s → Finished k s
unfolding meets
meets_ends f underway k s w h b q = absurd (bare_not need_more s tt q)
meets_ends f (datum x) k s w h b q =
    turned_ends k f.got s x (shape_turn (shape_of k) (length f.got) x) refl (subst (λ (u : Wait). Held u f.got) w h)
    (sym (ap (λ (u : Wait). (datum_met f u x).report) w) ∙ q)
meets_ends f (acted r) k s w h b q = absurd (bare_not r s b q)
meets_ends f (failed r) k s w h b q = absurd (bare_not r s b q)
meets_ends f (bad n) k s w h b q = absurd (bare_not (refusal n) s tt q)

pub reply_ends : (l : Link) (x : ℕ) (k : Kind) (s : List ℕ) → Sound l → wait_in l ≡ waiting k → (step l x).report ≡ reply s → Finished k s
unfolding step
reply_ends stopped x k s h w q = absurd (bare_not (refusal 7) s tt q)
reply_ends (live l f) x k s h w q = meets_ends f (look l x).token k s w h (bare_look l x) q
