-- Sessions: raw bytes and begun calls in any order; what a link tells on them, and what they are to the reply, whatever waits.
use Rattle.std.specs.Prelude.{ℕ, suc, ◌≤◌, ◌<◌, ◌≡◌, Bool, true, false, not, ◌&&◌, ◌||◌, List, [], ◌∷◌, ◌++◌, map, eqb, leb, ltb, length}
use Rattle.serial_rules.specs.Escape.{escape, escaped}
use Rattle.serial_rules.specs.Marks.{bit, inward_class, escape_mark, event_mark, address_mark, end_mark, execute_mark, load_mark, save_mark}
use Rattle.serial_rules.specs.Call.{string_limit}
use Rattle.serial_rules.specs.Reply.{Kind}
use Rattle.serial_rules.specs.Link as link
use Rattle.serial_rules.specs.Link.{Transfer, load, save, Target, setting, executing, opening, Report, need_more, refusal, escape_state, failing, place, own_most, Doing, none, own, opened, innermost, closes, deepest, may_start, Layer, Token, underway, datum, acted, failed, bad, failure, look, Frame, Standing, halted, holds, meets, Link, stopped, live, link_at, fresh, step, Begun, denied, enters, begin}

pub data Input : Type 0 where
  raw : ℕ → Input
  call : Kind → Input

pub data Told : Type 0 where
  report : Report → Told
  answer : Begun → Told

abbrev pub told_by : Link → Input → Told
told_by l (raw x) = report (step l x).report
told_by l (call k) = answer (begin l k).answer

abbrev pub next_by : Link → Input → Link
next_by l (raw x) = (step l x).next
next_by l (call k) = (begin l k).next

unfoldable pub tells : Link → List Input → List Told
tells l [] = []
tells l (i ∷ s) = told_by l i ∷ tells (next_by l i) s

unfoldable pub link_after : Link → List Input → Link
link_after l [] = l
link_after l (i ∷ s) = link_after (next_by l i) s

-- What an input is to the reply: the token of a raw byte, or the begun call.
pub data Sign : Type 0 where
  token : Token → Sign
  began : Kind → Sign

abbrev pub sign_by : Layer → Input → Sign
sign_by l (raw x) = token (look l x).token
sign_by l (call k) = began k

abbrev pub layer_by : Layer → Input → Layer
layer_by l (raw x) = (look l x).next
layer_by l (call k) = l

unfoldable pub signs : Layer → List Input → List Sign
signs l [] = []
signs l (i ∷ s) = sign_by l i ∷ signs (layer_by l i) s

unfoldable pub layer_after : Layer → List Input → Layer
layer_after l [] = l
layer_after l (i ∷ s) = layer_after (layer_by l i) s

-- The reply alone, on signs.
abbrev pub said_by : Standing → Sign → Told
said_by halted (token t) = report (refusal 7)
said_by halted (began k) = answer (denied 7)
said_by (holds f) (token t) = report (meets f t).report
said_by (holds f) (began k) = answer (enters f k).answer

abbrev pub stands_by : Standing → Sign → Standing
stands_by halted s = halted
stands_by (holds f) (token t) = (meets f t).next
stands_by (holds f) (began k) = holds (enters f k).next

unfoldable pub says : Standing → List Sign → List Told
says S [] = []
says S (s ∷ l) = said_by S s ∷ says (stands_by S s) l

unfoldable pub stands_after : Standing → List Sign → Standing
stands_after S [] = S
stands_after S (s ∷ l) = stands_after (stands_by S s) l

-- The signs without those that leave the reply at its place: need-more, and the Escape state, event and address actions.
unfoldable pub movers : List Sign → List Sign
movers [] = []
movers (token underway ∷ l) = movers l
movers (token (datum b) ∷ l) = token (datum b) ∷ movers l
movers (token (acted r) ∷ l) = movers l
movers (token (failed r) ∷ l) = token (failed r) ∷ movers l
movers (token (bad n) ∷ l) = token (bad n) ∷ movers l
movers (began k ∷ l) = began k ∷ movers l

-- what is said of the movers, with each action's report put back in its place
unfoldable pub woven : List Sign → List Told → List Told
woven [] w = []
woven (token underway ∷ l) w = report need_more ∷ woven l w
woven (token (acted r) ∷ l) w = report r ∷ woven l w
woven (token (datum b) ∷ l) [] = []
woven (token (datum b) ∷ l) (x ∷ w) = x ∷ woven l w
woven (token (failed r) ∷ l) [] = []
woven (token (failed r) ∷ l) (x ∷ w) = x ∷ woven l w
woven (token (bad n) ∷ l) [] = []
woven (token (bad n) ∷ l) (x ∷ w) = x ∷ woven l w
woven (began k ∷ l) [] = []
woven (began k ∷ l) (x ∷ w) = x ∷ woven l w

-- The parts of a stream: a data byte; a begun call; the Escape state, an event, four address bytes for a target, an end, each with its mark; a
-- control block, its first byte apart; an error or restart.
pub data Part : Type 0 where
  byte : ℕ → Part
  begun : Kind → Part
  state : ℕ → Part
  event : ℕ → ℕ → ℕ → ℕ → Part
  address : Target → ℕ → ℕ → ℕ → ℕ → ℕ → Part
  block : ℕ → List ℕ → Part
  ending : ℕ → Part
  error : ℕ → List ℕ → Part

-- the transfers open after a part, where those of o were open before
abbrev pub open_after : List Transfer → Part → List Transfer
open_after o (byte b) = o
open_after o (begun k) = o
open_after o (state m) = o
open_after o (event m y x a) = o
open_after o (address t m b3 b2 b1 b0) = opened (place t) o
open_after o (block b s) = o
open_after o (ending m) = (closes o).next.stack
open_after o (error n t) = opened failing o

unfoldable pub open_in : List Transfer → List Part → List Transfer
open_in o [] = o
open_in o (p ∷ ps) = open_in (open_after o p) ps

-- whether &00 stands in a text
unfoldable pub has_zero : List ℕ → Bool
has_zero [] = false
has_zero (x ∷ t) = eqb x 0 || has_zero t

-- the class of the mark of four address bytes, by what they are for
abbrev pub target_mark : Target → ℕ
target_mark setting = address_mark
target_mark executing = execute_mark
target_mark (opening load) = load_mark
target_mark (opening save) = save_mark

-- document 02, R-3: "no end stands with none open, data stands only where a load is innermost, and at most four are open" (of those of a reply: outside
-- every transfer they are its own)
abbrev pub takes_data : List Transfer → Bool
takes_data [] = true
takes_data (load ∷ o) = true
takes_data (save ∷ o) = false

abbrev pub some_open : List Transfer → Bool
some_open [] = false
some_open (t ∷ o) = true

-- the marks are those of document 01, a text is "without &00 of 0 to 255 bytes", a control block has 1 to 127 bytes, and the part may stand where
-- the transfers of o are open
abbrev pub good : List Transfer → Part → Bool
good o (byte b) = takes_data o
good o (begun k) = true
good o (state m) = eqb (inward_class m) escape_mark
good o (event m y x a) = eqb (inward_class m) event_mark
good o (address t m b3 b2 b1 b0) = eqb (inward_class m) (target_mark t) && may_start (place t) o
good o (block b s) = ltb (suc (length s)) 0x80
good o (ending m) = eqb (inward_class m) end_mark && some_open o
good o (error n t) = leb (length t) string_limit && not (has_zero t)

unfoldable pub all_good : List Transfer → List Part → Bool
all_good o [] = true
all_good o (p ∷ ps) = good o p && all_good (open_after o p) ps

-- the inputs of a part: behind the escape its mark, then its own bytes as data
abbrev pub inputs_of : Part → List Input
inputs_of (byte b) = map raw (escaped (b ∷ []))
inputs_of (begun k) = call k ∷ []
inputs_of (state m) = raw escape ∷ raw m ∷ []
inputs_of (event m y x a) = raw escape ∷ raw m ∷ map raw (escaped (y ∷ x ∷ a ∷ []))
inputs_of (address t m b3 b2 b1 b0) = raw escape ∷ raw m ∷ map raw (escaped (b3 ∷ b2 ∷ b1 ∷ b0 ∷ []))
inputs_of (block b s) = raw escape ∷ raw (suc (length s)) ∷ map raw (escaped (b ∷ s))
inputs_of (ending m) = raw escape ∷ raw m ∷ []
inputs_of (error n t) = raw escape ∷ raw 0 ∷ map raw (escaped (n ∷ (t ++ (0 ∷ []))))

unfoldable pub inputs : List Part → List Input
inputs [] = []
inputs (p ∷ ps) = inputs_of p ++ inputs ps

-- what a part is to the reply, where the transfers of o are open
abbrev pub sign_of : List Transfer → Part → Sign
sign_of o (byte b) = token (innermost o b)
sign_of o (begun k) = began k
sign_of o (state m) = token (acted (escape_state (bit m 1)))
sign_of o (event m y x a) = token (acted (link.event y x a))
sign_of o (address t m b3 b2 b1 b0) = token (acted (link.address t b3 b2 b1 b0))
sign_of o (block b s) = token (acted (link.block (b ∷ s)))
sign_of o (ending m) = token (closes o).token
sign_of o (error n t) = token (failed (failure n t))

unfoldable pub signs_of : List Transfer → List Part → List Sign
signs_of o [] = []
signs_of o (p ∷ ps) = sign_of o p ∷ signs_of (open_after o p) ps

-- the same for each input, and the inputs behind the first
abbrev pub fill : {A : Type 0} → A → List Input → List A
fill q [] = []
fill q (i ∷ s) = q ∷ fill q s

abbrev pub behind : List Input → List Input
behind [] = []
behind (i ∷ s) = s

-- what a link tells on the inputs of parts, where it tells w on the parts: need-more on all inputs of a part but its last
unfoldable pub spread : List Part → List Told → List Told
spread [] w = []
spread (p ∷ ps) [] = []
spread (p ∷ ps) (x ∷ w) = fill (report need_more) (behind (inputs_of p)) ++ (x ∷ spread ps w)

-- the stream without its actions and load data, where the transfers of o are open: errors and begun calls stay, and the bytes outside every transfer
abbrev pub outside : List Transfer → ℕ → List Part → List Part
outside [] b ps = byte b ∷ ps
outside (t ∷ o) b ps = ps

unfoldable pub without_actions : List Transfer → List Part → List Part
without_actions o [] = []
without_actions o (byte b ∷ ps) = outside o b (without_actions o ps)
without_actions o (begun k ∷ ps) = begun k ∷ without_actions o ps
without_actions o (state m ∷ ps) = without_actions o ps
without_actions o (event m y x a ∷ ps) = without_actions o ps
without_actions o (address t m b3 b2 b1 b0 ∷ ps) = without_actions (opened (place t) o) ps
without_actions o (block b s ∷ ps) = without_actions o ps
without_actions o (ending m ∷ ps) = without_actions (closes o).next.stack ps
without_actions o (error n t ∷ ps) = error n t ∷ without_actions [] ps

-- between the parts of a stream: no escape was seen, no action is open, and the transfers of o are
abbrev pub inside : List Transfer → Layer
inside o = link.layer false link.none o

abbrev pub between : Layer
between = inside []

-- "The Escape state, event and address actions leave the waiting reply at its place"; a transfer "moves no reply byte". On a stream with such
-- actions and transfers anywhere between its data bytes, errors and begun calls, a link tells what it tells without them, at the same data byte,
-- and each of them in its place; and it is left as without them, but for the transfers that are still open.
pub record ActionsPass (f : Frame) (ps : List Part) : Type 0 where
  pub told : tells (live between f) (inputs ps) ≡ spread ps (woven (signs_of [] ps) (says (holds f) (signs_of [] (without_actions [] ps))))
  pub plain : tells (live between f) (inputs (without_actions [] ps)) ≡ spread (without_actions [] ps) (says (holds f) (signs_of [] (without_actions [] ps)))
  pub left : (s : Standing) × (link_after (live between f) (inputs ps) ≡ link_at (inside (open_in [] ps)) s) × (link_after (live between f) (inputs (without_actions [] ps)) ≡ link_at between s)

-- "An error ends the waiting call with that error", "An error or restart closes all and ends the call": with an error or restart in the stream the
-- link tells it at its last byte, and goes on as a fresh one, so that no byte behind is taken for the reply or for load data.
pub record ErrorEnds (f : Frame) (ps : List Part) (n : ℕ) (t : List ℕ) (qs : List Part) : Type 0 where
  pub told : tells (live between f) (inputs (ps ++ (error n t ∷ qs)))
      ≡ tells (live between f) (inputs ps) ++ (fill (report need_more) (behind (inputs_of (error n t))) ++ (report (failure n t) ∷ tells fresh (inputs qs)))
  pub left : link_after (live between f) (inputs (ps ++ (error n t ∷ qs))) ≡ link_after fresh (inputs qs)

-- What holds of a link after any inputs: "At most four may be open", and no more than three while the address of a load or save is read, since the
-- fifth would be opened at its end; an open action has fewer bytes of its own than it needs.
abbrev pub OwnWithin : Doing → List Transfer → Type 0
OwnWithin none o = Unit
OwnWithin (own a h) o = (length h < own_most a) × (may_start a o ≡ true)

abbrev pub LayerWithin : Layer → Type 0
LayerWithin l = (length l.stack ≤ deepest) × OwnWithin l.doing l.stack

abbrev pub Within : Link → Type 0
Within stopped = Unit
Within (live l f) = LayerWithin l

-- the open transfers
abbrev pub stack_in : Link → List Transfer
stack_in stopped = []
stack_in (live l f) = l.stack
