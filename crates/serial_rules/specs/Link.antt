-- The link as a machine on raw bytes and begun calls (document 01, 'Replies and actions, inward'; document 02, R-1): the escape layer, then the
-- actions and the open transfers, then the reply. What a byte is to the reply is settled before what waits is looked at.
use Rattle.std.specs.Prelude.{ℕ, Bool, true, false, cond, List, [], ◌∷◌, ◌++◌, eqb, ltb, length}
use Rattle.serial_rules.specs.Escape.{Piece, pending, data_byte, mark, piece_of}
use Rattle.serial_rules.specs.Marks.{bit, inward_class, error_mark, escape_mark, event_mark, address_mark, block_mark, end_mark, execute_mark, load_mark, save_mark}
use Rattle.serial_rules.specs.Body.{Turn, more, done, refused}
use Rattle.serial_rules.specs.Fields.{at}
use Rattle.serial_rules.specs.Reply.{Kind, Shape, fixed, text, shape_of, shape_turn, longest}

-- A transfer (document 02: "&Ex load and &Fx save"), and what four address bytes are for.
pub data Transfer : Type 0 where
  load : Transfer
  save : Transfer

pub data Target : Type 0 where
  setting : Target
  executing : Target
  opening : Transfer → Target

-- What a raw byte gives: need-more; a character; a finished reply; an action, a byte of load data or the end of a transfer; an error or a
-- restart; or a refusal with its number.
pub data Report : Type 0 where
  need_more : Report
  character : ℕ → Report
  reply : List ℕ → Report
  escape_state : Bool → Report
  event : ℕ → ℕ → ℕ → Report
  address : Target → ℕ → ℕ → ℕ → ℕ → Report
  block : List ℕ → Report
  loaded : ℕ → Report
  ended : Transfer → Report
  error : ℕ → List ℕ → Report
  restart : Report
  refusal : ℕ → Report

-- The actions that have bytes of their own, and how these end: "error number, text without &00 of 0 to 255 bytes, &00", "Y X A follow", "4 address
-- bytes", "that many control-block bytes follow".
pub data Action : Type 0 where
  failing : Action
  signal : Action
  place : Target → Action
  control : ℕ → Action

abbrev pub own_shape : Action → Shape
own_shape failing = text
own_shape signal = fixed 3
own_shape (place t) = fixed 4
own_shape (control n) = fixed n

-- the most bytes of its own that an action has; a mark opens no control block of 0 bytes, and none of more than 127
abbrev pub own_most : Action → ℕ
own_most failing = longest text
own_most signal = 3
own_most (place t) = 4
own_most (control n) = cond (ltb n 0x80) n 0

-- What a mark is, outside an action's own bytes: not carried; the Escape state; the end of a transfer; or the start of an action.
pub data Meaning : Type 0 where
  unknown : Meaning
  state : Bool → Meaning
  end : Meaning
  starts : Action → Meaning

-- "&80 to &8F (bit 0 is the Escape state)"; "Other low bits are ignored."
unfoldable pub meaning_of : ℕ → Meaning
meaning_of m =
    cond (eqb (inward_class m) error_mark) (starts failing)
    (cond (eqb (inward_class m) escape_mark) (state (bit m 1))
    (cond (eqb (inward_class m) event_mark) (starts signal)
    (cond (eqb (inward_class m) address_mark) (starts (place setting))
    (cond (eqb (inward_class m) block_mark) (starts (control m))
    (cond (eqb (inward_class m) end_mark) end
    (cond (eqb (inward_class m) execute_mark) (starts (place executing))
    (cond (eqb (inward_class m) load_mark) (starts (place (opening load)))
    (cond (eqb (inward_class m) save_mark) (starts (place (opening save)))
    unknown))))))))

-- What the actions have of the stream: an escape was seen or not; an action is open, with its own bytes so far, or none; and the open transfers,
-- innermost first.
pub data Doing : Type 0 where
  none : Doing
  own : Action → List ℕ → Doing

pub record Layer : Type 0 where
  pub escape : Bool
  pub doing : Doing
  pub stack : List Transfer

abbrev pub layer : Bool → Doing → List Transfer → Layer
layer e d o = record { escape = e; doing = d; stack = o }

-- What a raw byte is to the reply: nothing yet; a data byte outside every action and transfer; an action, load data or an end, which leave the
-- reply at its place; the end of an error or restart; or a byte that is refused.
pub data Token : Type 0 where
  underway : Token
  datum : ℕ → Token
  acted : Report → Token
  failed : Report → Token
  bad : ℕ → Token

pub record Seen : Type 0 where
  pub token : Token
  pub next : Layer

abbrev pub seen : Token → Layer → Seen
seen t l = record { token = t; next = l }

-- "error 0 with empty text is a restart"
abbrev pub failure : ℕ → List ℕ → Report
failure n (x ∷ t) = error n (x ∷ t)
failure n [] = cond (eqb n 0) restart (error n [])

abbrev pub failure_of : List ℕ → Report
failure_of [] = restart
failure_of (n ∷ t) = failure n t

-- an action is complete: its own bytes h, and the last one b. "Y X A follow"; "4 address bytes, high first".
abbrev pub finish : Action → List ℕ → ℕ → Token
finish failing h b = failed (failure_of h)
finish signal h b = acted (event (at h 0) (at h 1) b)
finish (place t) h b = acted (address t (at h 0) (at h 1) (at h 2) b)
finish (control n) h b = acted (block (h ++ (b ∷ [])))

-- the transfers open after it: "an action may open a transfer"; "An error or restart closes all and ends the call."
abbrev pub opened : Action → List Transfer → List Transfer
opened failing o = []
opened signal o = o
opened (place setting) o = o
opened (place executing) o = o
opened (place (opening t)) o = t ∷ o
opened (control n) o = o

abbrev pub own_byte : List Transfer → Action → List ℕ → ℕ → Turn → Seen
own_byte o a h b more = seen underway (layer false (own a (h ++ (b ∷ []))) o)
own_byte o a h b done = seen (finish a h b) (layer false none (opened a o))
own_byte o a h b (refused n) = seen (bad n) (layer false none o)

-- "a data byte or an end goes to the innermost open one and moves no reply byte"; "a save takes no inward data, and a data byte there is 9"
abbrev pub innermost : List Transfer → ℕ → Token
innermost [] b = datum b
innermost (load ∷ o) b = acted (loaded b)
innermost (save ∷ o) b = bad 9

abbrev pub data_seen : List Transfer → Doing → ℕ → Seen
data_seen o none b = seen (innermost o b) (layer false none o)
data_seen o (own a h) b = own_byte o a h b (shape_turn (own_shape a) (length h) b)

-- "An end with none open is 5."
abbrev pub closes : List Transfer → Seen
closes [] = seen (bad 5) (layer false none [])
closes (t ∷ o) = seen (acted (ended t)) (layer false none o)

abbrev pub opens : List Transfer → Action → Seen
opens o a = seen underway (layer false (own a []) o)

-- "At most four may be open"
abbrev pub deepest : ℕ
deepest = 4

abbrev pub may_start : Action → List Transfer → Bool
may_start failing o = true
may_start signal o = true
may_start (place setting) o = true
may_start (place executing) o = true
may_start (place (opening t)) o = ltb (length o) deepest
may_start (control n) o = true

-- 4: "mark or request code not carried"; "a fifth is the new answer 13, at its mark, checked after 4"
abbrev pub mark_outside : List Transfer → Meaning → Seen
mark_outside o unknown = seen (bad 4) (layer false none o)
mark_outside o (state on) = seen (acted (escape_state on)) (layer false none o)
mark_outside o end = closes o
mark_outside o (starts a) = cond (may_start a o) (opens o a) (seen (bad 13) (layer false none o))

-- 5: a mark "inside an action's own bytes"
abbrev pub mark_seen : List Transfer → Doing → ℕ → Seen
mark_seen o none m = mark_outside o (meaning_of m)
mark_seen o (own a h) m = seen (bad 5) (layer false none o)

abbrev pub piece_seen : List Transfer → Doing → Piece → Seen
piece_seen o d pending = seen underway (layer true d o)
piece_seen o d (data_byte b) = data_seen o d b
piece_seen o d (mark m) = mark_seen o d m

-- one raw byte, as far as the escape layer, the actions and the transfers go
unfoldable pub look : Layer → ℕ → Seen
look l raw = piece_seen l.stack l.doing (piece_of l.escape raw)

-- "A link is idle or waits for one call."
pub data Wait : Type 0 where
  idle : Wait
  waiting : Kind → Wait

-- All that an action leaves at its place: what waits, and the reply so far.
pub record Frame : Type 0 where
  pub wait : Wait
  pub got : List ℕ

abbrev pub frame : Wait → List ℕ → Frame
frame w s = record { wait = w; got = s }

abbrev pub idle_frame : Frame
idle_frame = frame idle []

-- What a token gives, and what it leaves: nothing, once a byte is refused; or what the next one meets.
pub data Standing : Type 0 where
  halted : Standing
  holds : Frame → Standing

pub record Met : Type 0 where
  pub report : Report
  pub next : Standing

abbrev pub met : Report → Standing → Met
met r s = record { report = r; next = s }

abbrev pub reply_turned : Kind → List ℕ → ℕ → Turn → Met
reply_turned k s b more = met need_more (holds (frame (waiting k) (s ++ (b ∷ []))))
reply_turned k s b done = met (reply (s ++ (b ∷ []))) (holds idle_frame)
reply_turned k s b (refused n) = met (refusal n) halted

-- "Data while idle is a character"; else it is the next byte of the reply
abbrev pub datum_met : Frame → Wait → ℕ → Met
datum_met f idle b = met (character b) (holds f)
datum_met f (waiting k) b = reply_turned k f.got b (shape_turn (shape_of k) (length f.got) b)

-- What a token does. "The Escape state, event and address actions leave the waiting reply at its place. An error ends the waiting call
-- with that error"; a restart "ends it too. While idle, actions are reported and the link stays idle."
unfoldable pub meets : Frame → Token → Met
meets f underway = met need_more (holds f)
meets f (datum b) = datum_met f f.wait b
meets f (acted r) = met r (holds f)
meets f (failed r) = met r (holds idle_frame)
meets f (bad n) = met (refusal n) halted

-- What is compared of a link: stopped, or what the actions have of the stream and what they leave at its place.
pub data Link : Type 0 where
  stopped : Link
  live : Layer → Frame → Link

abbrev pub fresh : Link
fresh = live (layer false none []) idle_frame

pub record Step : Type 0 where
  pub report : Report
  pub next : Link

abbrev pub gives : Report → Link → Step
gives r l = record { report = r; next = l }

-- a refused byte stops the link until it is reset (the customer's demand 1)
abbrev pub link_at : Layer → Standing → Link
link_at l halted = stopped
link_at l (holds f) = live l f

-- One raw byte. "Reader: 7, 5, 4, 6, 9."
unfoldable pub step : Link → ℕ → Step
step stopped raw = gives (refusal 7) stopped
step (live l f) raw = gives (meets f (look l raw).token).report (link_at (look l raw).next (meets f (look l raw).token).next)

-- What a begun call gives: it waits; it is complete already; or a refusal with its number.
pub data Begun : Type 0 where
  begun : Begun
  complete : Begun
  denied : ℕ → Begun

pub record Entry : Type 0 where
  pub answer : Begun
  pub next : Frame

abbrev pub entry : Begun → Frame → Entry
entry a f = record { answer = a; next = f }

-- 12: "call begun while another waits"; "an OSWORD with out length 0 is complete when begun, the link staying idle"
abbrev pub enter_at : Wait → Frame → Kind → Entry
enter_at (waiting j) f k = entry (denied 12) f
enter_at idle f k = cond (eqb (longest (shape_of k)) 0) (entry complete f) (entry begun (frame (waiting k) []))

unfoldable pub enters : Frame → Kind → Entry
enters f k = enter_at f.wait f k

pub record Start : Type 0 where
  pub answer : Begun
  pub next : Link

abbrev pub begins : Begun → Link → Start
begins a l = record { answer = a; next = l }

-- "Begun call: 7, 12." "A call may begin inside an action or escape pair."
unfoldable pub begin : Link → Kind → Start
begin stopped k = begins (denied 7) stopped
begin (live l f) k = begins (enters f k).answer (live l (enters f k).next)

-- 4: "mark or request code not carried", of a call that is none: it is judged last, and nothing changes
abbrev pub not_carried_at : Wait → ℕ
not_carried_at (waiting k) = 12
not_carried_at idle = 4

unfoldable pub begin_none : Link → Start
begin_none stopped = begins (denied 7) stopped
begin_none (live l f) = begins (denied (not_carried_at f.wait)) (live l f)
