-- How much data a link reports: no more than a byte for each raw byte, and for the open action's bytes before them.
use Rattle.std.specs.Prelude.{Option, Some, None}
use Prim.Native.Nat.{ℕ, suc, ◌+◌, ◌≤◌, ◌<◌}
use native.Mathlib.Omega.{arith}
use mathlib.Core.Path.{◌≡◌, refl, ap}
use mathlib.Core.Bool.{Bool, true, false}
use mathlib.Core.List.{List, [], ◌∷◌}
use lib.Dec.{eqb, ltb}
use lib.ListN.{length, take, length-append, length-take}
use borrow.Author.Tests.{ltb-true}
use Rattle.serial_rules.specs.Escape.{Piece, pending, data_byte, mark, piece_of}
use Rattle.serial_rules.specs.Body.{Turn, more, done, refused}
use Rattle.serial_rules.specs.Reply.{Kind, shape_of, shape_turn}
use Rattle.serial_rules.specs.Link as rules
use Rattle.serial_rules.proofs.Shapes.{choice}
use Rattle.actions.specs.declared.Action.TheVariants.{Error, Event, Address, Block}
use Rattle.actions.specs.declared.Action.{Action}
use Rattle.link.specs.declared.Link.{Link}
use Rattle.serial_rules.specs.Nest.{nest_of}
use Rattle.link.specs.View.{wait_for, doing_for, own_room, usable_of, view_of}
use Rattle.answers.specs.Reports.{report_of}
use Rattle.link.proofs.Limits.{usable_held}
use Rattle.notes.specs.Notes.{Given, adds, adds_all}
use Rattle.notes.proofs.Counts.{content_in, content_more}
use Rattle.link_loop.specs.Run.{Runs, stop, took}

-- the bytes of the open action's own
abbrev own_in : rules.Doing → ℕ
own_in rules.none = 0
own_in (rules.own a h) = length h

abbrev pub held_in : rules.Link → ℕ
held_in rules.stopped = 0
held_in (rules.live y f) = own_in y.doing

-- the data of a token
abbrev data_of : rules.Token → ℕ
data_of rules.underway = 0
data_of (rules.datum b) = 0
data_of (rules.acted r) = length (content_in r)
data_of (rules.failed r) = length (content_in r)
data_of (rules.bad n) = 0

failure_none : (n : ℕ) (t : List ℕ) → length (content_in (rules.failure n t)) ≡ 0
failure_none n (x ∷ t) = refl
failure_none n [] = choice (λ r. length (content_in r) ≡ 0) (eqb n 0) (λ _. refl) (λ _. refl)

finish_data : (a : rules.Action) (h : List ℕ) (b : ℕ) → data_of (rules.finish a h b) ≤ length h + 1
finish_data rules.failing [] b = omega arith
finish_data rules.failing (n ∷ t) b = omega (arith, failure_none n t)
finish_data rules.signal h b = omega arith
finish_data (rules.place t) h b = omega arith
finish_data (rules.control n) h b = rw (length-append h (b ∷ [])) (omega arith)

own_data : (o : List rules.Transfer) (a : rules.Action) (h : List ℕ) (b : ℕ) (t : Turn)
    → data_of (rules.own_byte o a h b t).token + own_in (rules.own_byte o a h b t).next.doing ≤ length h + 1
own_data o a h b more = rw (length-append h (b ∷ [])) (omega arith)
own_data o a h b done = omega (arith, finish_data a h b)
own_data o a h b (refused n) = omega arith

abbrev SeenData : ℕ → rules.Seen → Type 0
SeenData n s = data_of s.token + own_in s.next.doing ≤ n + 1

mark_data : (o : List rules.Transfer) (w : rules.Meaning) → SeenData 0 (rules.mark_outside o w)
mark_data o rules.unknown = omega arith
mark_data o (rules.Meaning.state on) = omega arith
mark_data [] rules.end = omega arith
mark_data (t ∷ o) rules.end = omega arith
mark_data o (rules.starts a) = choice (SeenData 0) (rules.may_start a o) (λ _. omega arith) (λ _. omega arith)

piece_data : (o : List rules.Transfer) (d : rules.Doing) (p : Piece) → SeenData (own_in d) (rules.piece_seen o d p)
piece_data o d pending = omega arith
piece_data [] rules.none (data_byte b) = omega arith
piece_data (rules.load ∷ o) rules.none (data_byte b) = omega arith
piece_data (rules.save ∷ o) rules.none (data_byte b) = omega arith
piece_data o (rules.own a h) (data_byte b) = own_data o a h b (shape_turn (rules.own_shape a) (length h) b)
piece_data o rules.none (mark m) = mark_data o (rules.meaning_of m)
piece_data o (rules.own a h) (mark m) = omega arith

-- the same of a step
at_held : (y : rules.Layer) (S : rules.Standing) → held_in (rules.link_at y S) ≤ own_in y.doing
at_held y rules.halted = omega arith
at_held y (rules.holds f) = omega arith

turned_none : (k : Kind) (s : List ℕ) (b : ℕ) (t : Turn) → length (content_in (rules.reply_turned k s b t).report) ≡ 0
turned_none k s b more = refl
turned_none k s b done = refl
turned_none k s b (refused n) = refl

datum_none : (f : rules.Frame) (w : rules.Wait) (b : ℕ) → length (content_in (rules.datum_met f w b).report) ≡ 0
datum_none f rules.idle b = refl
datum_none f (rules.waiting k) b = turned_none k f.got b (shape_turn (shape_of k) (length f.got) b)

meets_data : (f : rules.Frame) (t : rules.Token) → length (content_in (rules.meets f t).report) ≡ data_of t
unfolding rules.meets
meets_data f rules.underway = refl
meets_data f (rules.datum b) = datum_none f f.wait b
meets_data f (rules.acted r) = refl
meets_data f (rules.failed r) = refl
meets_data f (rules.bad n) = refl

pub step_data : (v : rules.Link) (x : ℕ) → length (content_in (rules.step v x).report) + held_in (rules.step v x).next ≤ held_in v + 1
unfolding rules.step rules.look
step_data rules.stopped x = omega arith
step_data (rules.live y f) x =
    let s = rules.piece_seen y.stack y.doing (piece_of y.escape x) in
    omega (arith, piece_data y.stack y.doing (piece_of y.escape x), meets_data f s.token, at_held s.next (rules.meets f s.token).next)

-- a control block has at most 127 bytes
abbrev Short : rules.Doing → Type 0
Short rules.none = Unit
Short (rules.own rules.failing h) = Unit
Short (rules.own rules.signal h) = Unit
Short (rules.own (rules.place t) h) = Unit
Short (rules.own (rules.control n) h) = length h < 128

own_short : (o : List rules.Transfer) (a : rules.Action) (h : List ℕ) (b : ℕ) (t : Turn) → Short (rules.own a h) → data_of (rules.own_byte o a h b t).token < 256
own_short o a h b more w = omega arith
own_short o a h b (refused n) w = omega arith
own_short o rules.failing [] b done w = omega arith
own_short o rules.failing (n ∷ t) b done w = omega (arith, failure_none n t)
own_short o rules.signal h b done w = omega arith
own_short o (rules.place t) h b done w = omega arith
own_short o (rules.control n) h b done w = rw (length-append h (b ∷ [])) (omega arith)

piece_short : (o : List rules.Transfer) (d : rules.Doing) (p : Piece) → Short d → data_of (rules.piece_seen o d p).token < 256
piece_short o d pending w = omega arith
piece_short [] rules.none (data_byte b) w = omega arith
piece_short (rules.load ∷ o) rules.none (data_byte b) w = omega arith
piece_short (rules.save ∷ o) rules.none (data_byte b) w = omega arith
piece_short o (rules.own a h) (data_byte b) w = own_short o a h b (shape_turn (rules.own_shape a) (length h) b) w
piece_short o rules.none (mark m) w = omega (arith, mark_data o (rules.meaning_of m))
piece_short o (rules.own a h) (mark m) w = omega arith

view_short : (d : Option Action) (n : ℕ) (own : List ℕ) → n < own_room d → Short (doing_for d (take n own))
view_short None n own h = tt
view_short (Some Error) n own h = tt
view_short (Some Event) n own h = tt
view_short (Some (Address t)) n own h = tt
view_short (Some (Block k)) n own h =
    let low : n < 128 = choice (λ (m : ℕ). n < m → n < 128) (ltb k 0x80) (λ e r. omega (arith, ltb-true k 0x80 e)) (λ _ r. absurd (omega arith)) h in
    rw length-take (omega arith)

pub data_short : (l : Link) (reply own : List ℕ) (x : ℕ) → length (content_in (rules.step (view_of l reply own) x).report) < 256
unfolding rules.step rules.look
data_short l reply own x = go (usable_of l) refl
  where
    go : (t : Bool) → usable_of l ≡ t → length (content_in (rules.step (view_of l reply own) x).report) < 256
    go false u = rw u (omega arith)
    go true u =
        let y = rules.layer l.escape (doing_for l.doing (take l.held own)) (nest_of l.nested) in
        let f = rules.frame (wait_for l.wait) (take l.got reply) in
        let s = rules.piece_seen y.stack y.doing (piece_of y.escape x) in
        rw u (omega (arith, meets_data f s.token, piece_short y.stack y.doing (piece_of y.escape x) (view_short l.doing l.held own (usable_held l u))))

-- what a record holds of the open action's own bytes
pub view_held : (l : Link) (reply own : List ℕ) → held_in (view_of l reply own) ≤ l.held
view_held l reply own = go (usable_of l) refl
  where
    at : (d : Option Action) → own_in (doing_for d (take l.held own)) ≤ l.held
    at None = omega arith
    at (Some a) = rw length-take (omega arith)

    go : (t : Bool) → usable_of l ≡ t → held_in (view_of l reply own) ≤ l.held
    go false u = rw u (omega arith)
    go true u = rw u (at l.doing)

-- over a chain of steps
pub runs_data : {l q : Link} {reply own reply-end own-end raw : List ℕ} {reports : List rules.Report} (g : Given) → Runs l reply own raw reports q reply-end own-end
    → length (adds_all g reports).content + held_in (view_of q reply-end own-end) ≤ length g.content + (held_in (view_of l reply own) + length raw)
unfolding adds_all
runs_data g stop = omega arith
runs_data g (took {l} {reply = reply} {own} {reply-left} {own-left} {x = x} {raw = raw} {o = o} d t) =
    let r = report_of o.answer reply-left own-left in
    let v = view_of l reply own in
    omega (arith, runs_data (adds g r) t, content_more g r, ap (λ (w : rules.Report). length (content_in w)) d.answer, ap held_in d.next, step_data v x)

pub runs_length : {l q : Link} {reply own reply-end own-end raw : List ℕ} {reports : List rules.Report} → Runs l reply own raw reports q reply-end own-end
    → length reports ≡ length raw
runs_length stop = refl
runs_length (took d t) = ap suc (runs_length t)
