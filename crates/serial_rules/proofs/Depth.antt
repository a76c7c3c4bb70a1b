-- At most four transfers are open after any inputs, and none where a reply is reported: each piece of a stream keeps a link within its limits.
use Prim.Native.Nat.{ℕ, ◌+◌, ◌/◌, ◌≤◌, ◌<◌}
use mathlib.Core.Path.{◌≡◌, refl}
use mathlib.Core.Bool.{Bool, true, false, cond, not, ◌&&◌}
use mathlib.Core.List.{List, [], ◌∷◌}
use native.Mathlib.Omega.{arith}
use lib.Dec.{eqb, ltb}
use lib.ListN.{length}
use borrow.Author.Tests.{eqb-true, eqb-false, lt-ltb, ltb-true}
use Rattle.serial_rules.specs.Escape.{escape, Piece, pending, data_byte, mark, piece_of}
use Rattle.serial_rules.specs.Marks.{inward_class, not_carried, error_mark, escape_mark, event_mark, address_mark, block_mark, end_mark, execute_mark, load_mark, save_mark}
use Rattle.serial_rules.specs.Body.{Turn, more, done, refused}
use Rattle.serial_rules.specs.Reply.{shape_turn}
use Rattle.serial_rules.specs.Link.{Transfer, load, save, setting, executing, opening, need_more, reply, refusal, Action, failing, signal, place, control, own_shape, own_most, Meaning, unknown, end, starts, meaning_of, Doing, none, own, Layer, Token, underway, datum, acted, failed, bad, opens, Seen, seen, layer, finish, opened, own_byte, may_start, mark_outside, piece_seen, look, Standing, halted, holds, meets, Link, stopped, live, fresh, link_at, step, begin}
use Rattle.serial_rules.specs.Session.{Input, raw, call, next_by, link_after, OwnWithin, LayerWithin, Within, stack_in}
use Rattle.serial_rules.proofs.Shapes.{choice, more_fits}
use Rattle.serial_rules.proofs.Parts.{length_snoc}
use Rattle.serial_rules.proofs.Finishing.{BareToken, bare_look, bare_not}

-- only the marks &01 to &7F are of the class of control blocks
abbrev IsBlock : ℕ → ℕ → Type 0
IsBlock m c = c ≡ block_mark → (0 < m) × (m < 0x80)

other_class : (m c : ℕ) → (c ≡ block_mark → ⊥) → IsBlock m c
other_class m c other e = absurd (other e)

pub block_only : (m : ℕ) → IsBlock m (inward_class m)
unfolding inward_class
block_only m =
    choice (IsBlock m) (eqb m 0) (λ _. other_class m error_mark (λ e. omega arith)) (λ z.
    choice (IsBlock m) (ltb m 0x80) (λ l _. (omega (arith, eqb-false m 0 z), ltb-true m 0x80 l)) (λ _.
    choice (IsBlock m) (eqb (m / 16) 0x8) (λ _. other_class m escape_mark (λ e. omega arith)) (λ _.
    choice (IsBlock m) (eqb (m / 16) 0x9 && not (eqb m escape)) (λ _. other_class m event_mark (λ e. omega arith)) (λ _.
    choice (IsBlock m) (eqb (m / 16) 0xB) (λ _. other_class m end_mark (λ e. omega arith)) (λ _.
    choice (IsBlock m) (eqb (m / 16) 0xC) (λ _. other_class m address_mark (λ e. omega arith)) (λ _.
    choice (IsBlock m) (eqb (m / 16) 0xD) (λ _. other_class m execute_mark (λ e. omega arith)) (λ _.
    choice (IsBlock m) (eqb (m / 16) 0xE) (λ _. other_class m load_mark (λ e. omega arith)) (λ _.
    choice (IsBlock m) (eqb (m / 16) 0xF) (λ _. other_class m save_mark (λ e. omega arith)) (λ _. other_class m not_carried (λ e. omega arith))))))))))

-- an action that a mark starts has some bytes of its own
abbrev pub HasOwn : Meaning → Type 0
HasOwn unknown = Unit
HasOwn (Meaning.state on) = Unit
HasOwn end = Unit
HasOwn (starts a) = 0 < own_most a

block_own : (m : ℕ) → inward_class m ≡ block_mark → 0 < own_most (control m)
block_own m e = let b = block_only m e in rw (lt-ltb m 0x80 b.1) b.0

pub has_own : (m : ℕ) → HasOwn (meaning_of m)
unfolding meaning_of
has_own m =
    choice HasOwn (eqb (inward_class m) error_mark) (λ _. omega arith) (λ _.
    choice HasOwn (eqb (inward_class m) escape_mark) (λ _. tt) (λ _.
    choice HasOwn (eqb (inward_class m) event_mark) (λ _. omega arith) (λ _.
    choice HasOwn (eqb (inward_class m) address_mark) (λ _. omega arith) (λ _.
    choice HasOwn (eqb (inward_class m) block_mark) (λ b. block_own m (eqb-true (inward_class m) block_mark b)) (λ _.
    choice HasOwn (eqb (inward_class m) end_mark) (λ _. tt) (λ _.
    choice HasOwn (eqb (inward_class m) execute_mark) (λ _. omega arith) (λ _.
    choice HasOwn (eqb (inward_class m) load_mark) (λ _. omega arith) (λ _.
    choice HasOwn (eqb (inward_class m) save_mark) (λ _. omega arith) (λ _. tt)))))))))

-- a byte after which more is needed leaves fewer than the most
pub own_fits : (a : Action) (n b : ℕ) → n < own_most a → shape_turn (own_shape a) n b ≡ more → n + 1 < own_most a
own_fits failing n b h e = more_fits (own_shape failing) n b e
own_fits signal n b h e = more_fits (own_shape signal) n b e
own_fits (place t) n b h e = more_fits (own_shape (place t)) n b e
own_fits (control k) n b h e =
    choice (λ (l : ℕ). n < l → n + 1 < l) (ltb k 0x80) (λ _ _. more_fits (own_shape (control k)) n b e) (λ _ z. absurd (omega arith)) h

-- the transfers open after an action that may start
opened_within : (a : Action) (o : List Transfer) → length o ≤ 4 → may_start a o ≡ true → length (opened a o) ≤ 4
opened_within failing o h m = omega arith
opened_within signal o h m = h
opened_within (place setting) o h m = h
opened_within (place executing) o h m = h
opened_within (place (opening t)) o h m = omega (arith, ltb-true (length o) 4 m)
opened_within (control n) o h m = h

own_within : (o : List Transfer) (a : Action) (h : List ℕ) (b : ℕ) (t : Turn) → shape_turn (own_shape a) (length h) b ≡ t → length o ≤ 4 → OwnWithin (own a h) o
    → LayerWithin (own_byte o a h b t).next
own_within o a h b more e d w = (d, (omega (arith, length_snoc h b, own_fits a (length h) b w.0 e), w.1))
own_within o a h b done e d w = (opened_within a o d w.1, tt)
own_within o a h b (refused n) e d w = (d, tt)

mark_within : (o : List Transfer) (w : Meaning) → HasOwn w → length o ≤ 4 → LayerWithin (mark_outside o w).next
mark_within o unknown s d = (d, tt)
mark_within o (Meaning.state on) s d = (d, tt)
mark_within [] end s d = (d, tt)
mark_within (t ∷ o) end s d = (omega arith, tt)
mark_within o (starts a) s d = go (may_start a o) refl
  where
    go : (k : Bool) → may_start a o ≡ k → LayerWithin (cond k (opens o a) (seen (bad 13) (layer false none o))).next
    go true m = (d, (s, m))
    go false m = (d, tt)

piece_within : (o : List Transfer) (d : Doing) (p : Piece) → length o ≤ 4 → OwnWithin d o → LayerWithin (piece_seen o d p).next
piece_within o d pending h w = (h, w)
piece_within o none (data_byte b) h w = (h, tt)
piece_within o (own a g) (data_byte b) h w = own_within o a g b (shape_turn (own_shape a) (length g) b) refl h w
piece_within o none (mark m) h w = mark_within o (meaning_of m) (has_own m) h
piece_within o (own a g) (mark m) h w = (h, tt)

look_within : (l : Layer) (x : ℕ) → LayerWithin l → LayerWithin (look l x).next
unfolding look
look_within l x w = piece_within l.stack l.doing (piece_of l.escape x) w.0 w.1

at_within : (l : Layer) (S : Standing) → LayerWithin l → Within (link_at l S)
at_within l halted w = tt
at_within l (holds f) w = w

next_within : (l : Link) (i : Input) → Within l → Within (next_by l i)
unfolding step begin
next_within stopped (raw x) w = tt
next_within stopped (call k) w = tt
next_within (live l f) (raw x) w = at_within (look l x).next (meets f (look l x).token).next (look_within l x w)
next_within (live l f) (call k) w = w

pub after_within : (l : Link) (s : List Input) → Within l → Within (link_after l s)
unfolding link_after
after_within l [] w = w
after_within l (i ∷ s) w = after_within (next_by l i) s (next_within l i w)

pub fresh_within : (s : List Input) → Within (link_after fresh s)
fresh_within s = after_within fresh s (omega arith, tt)

-- a reply is reported for a data byte outside every transfer only
abbrev Outside : List Transfer → Token → Type 0
Outside o underway = Unit
Outside o (datum b) = o ≡ []
Outside o (acted r) = Unit
Outside o (failed r) = Unit
Outside o (bad n) = Unit

finish_outside : (o : List Transfer) (a : Action) (h : List ℕ) (b : ℕ) → Outside o (finish a h b)
finish_outside o failing h b = tt
finish_outside o signal h b = tt
finish_outside o (place t) h b = tt
finish_outside o (control n) h b = tt

own_outside : (o : List Transfer) (a : Action) (h : List ℕ) (b : ℕ) (t : Turn) → Outside o (own_byte o a h b t).token
own_outside o a h b more = tt
own_outside o a h b done = finish_outside o a h b
own_outside o a h b (refused n) = tt

mark_outside_lem : (o : List Transfer) (w : Meaning) → Outside o (mark_outside o w).token
mark_outside_lem o unknown = tt
mark_outside_lem o (Meaning.state on) = tt
mark_outside_lem [] end = tt
mark_outside_lem (t ∷ o) end = tt
mark_outside_lem o (starts a) = choice (λ (s : Seen). Outside o s.token) (may_start a o) (λ _. tt) (λ _. tt)

piece_outside_lem : (o : List Transfer) (d : Doing) (p : Piece) → Outside o (piece_seen o d p).token
piece_outside_lem o d pending = tt
piece_outside_lem [] none (data_byte b) = refl
piece_outside_lem (load ∷ o) none (data_byte b) = tt
piece_outside_lem (save ∷ o) none (data_byte b) = tt
piece_outside_lem o (own a h) (data_byte b) = own_outside o a h b (shape_turn (own_shape a) (length h) b)
piece_outside_lem o none (mark m) = mark_outside_lem o (meaning_of m)
piece_outside_lem o (own a h) (mark m) = tt

pub reply_outside : (l : Link) (x : ℕ) (s : List ℕ) → (step l x).report ≡ reply s → stack_in l ≡ []
unfolding step look meets
reply_outside stopped x s e = refl
reply_outside (live l f) x s e = go (look l x).token (bare_look l x) (piece_outside_lem l.stack l.doing (piece_of l.escape x)) e
  where
    go : (t : Token) → BareToken t → Outside l.stack t → (meets f t).report ≡ reply s → l.stack ≡ []
    go underway b o e = absurd (bare_not need_more s tt e)
    go (datum y) b o e = o
    go (acted r) b o e = absurd (bare_not r s b e)
    go (failed r) b o e = absurd (bare_not r s b e)
    go (bad n) b o e = absurd (bare_not (refusal n) s tt e)
