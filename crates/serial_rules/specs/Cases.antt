-- The worked cases (document 01: bench cases) of requests and replies: C9 to C15. For a request, raw bytes, what they give first,
-- and what a finished request asks.
use Rattle.std.specs.Prelude.{ℕ, true, false, List, [], ◌∷◌, ◌++◌, map, replicate}
use Rattle.serial_rules.specs.Call.{osword, osargs, serial}
use Rattle.serial_rules.specs.Fields.{fields, Asked, asks, asks_nothing, asked_by}
use Rattle.serial_rules.specs.Reader.{stopped, outside, need_more, character, request, refusal}
use Rattle.serial_rules.specs.Stream.{Fed, waiting, gave, feed}
use Rattle.serial_rules.specs.Reply.{Kind, oscli, osbget, osword, osword0, kind_from, carry_a, block, a_block, Given, given, reply_read}
use Rattle.serial_rules.specs.Link as link
use Rattle.serial_rules.specs.Link.{Report, address, setting, executing, opening, load, save, loaded, ended, escape_state, reply, error, restart, refusal}
use Rattle.serial_rules.specs.Session as session
use Rattle.serial_rules.specs.Session.{Input, Told}
use Rattle.serial_rules.specs.Record.{news, Recorded, recording, ran_out, closed, recorded_reply}

pub record Case : Type 0 where
  pub raw : List ℕ
  pub fed : Fed
  pub asked : Asked

-- what a finished request asks
abbrev pub asked_in : Fed → Asked
asked_in (waiting r) = asks_nothing
asked_in (gave need_more r left) = asks_nothing
asked_in (gave (character b) r left) = asks_nothing
asked_in (gave (request style code s) r left) = asked_by code s
asked_in (gave (refusal n) r left) = asks_nothing

-- the case as the rules work it
unfoldable pub worked : Case → Case
worked k = let f = feed serial (outside false) k.raw in record { raw = k.raw; fed = f; asked = asked_in f }

-- C9 `9B 0C 9B 9B 00 00 01 9B 9B 01` is OSARGS Y=&9B, block &0000019B, A=1.
abbrev pub c9 : Case
c9 =
    record {
      raw = 0x9B ∷ 0x0C ∷ 0x9B ∷ 0x9B ∷ 0x00 ∷ 0x00 ∷ 0x01 ∷ 0x9B ∷ 0x9B ∷ 0x01 ∷ [];
      fed = gave (request 0 0x0C (0x9B ∷ 0x00 ∷ 0x00 ∷ 0x01 ∷ 0x9B ∷ 0x01 ∷ [])) (outside false) [];
      asked = asks (fields (osargs 0x9B 1) (0x00 ∷ 0x00 ∷ 0x01 ∷ 0x9B ∷ []) []);
    }

-- C11 `9B 04 00 80`: 9 at the last byte.
abbrev pub c11 : Case
c11 = record { raw = 0x9B ∷ 0x04 ∷ 0x00 ∷ 0x80 ∷ []; fed = gave (refusal 9) stopped []; asked = asks_nothing }

-- C12 `9B 04 9B 02`: 5.
abbrev pub c12 : Case
c12 = record { raw = 0x9B ∷ 0x04 ∷ 0x9B ∷ 0x02 ∷ []; fed = gave (refusal 5) stopped []; asked = asks_nothing }

-- C13 `9B 08 01 00 00`: its request, OSWORD A=1 with no bytes in and none out.
abbrev pub c13 : Case
c13 =
    record {
      raw = 0x9B ∷ 0x08 ∷ 0x01 ∷ 0x00 ∷ 0x00 ∷ [];
      fed = gave (request 0 0x08 (0x01 ∷ 0x00 ∷ 0x00 ∷ [])) (outside false) [];
      asked = asks (fields (osword 1 0) [] []);
    }

-- C14 `9B 18`: 4.
abbrev pub c14 : Case
c14 = record { raw = 0x9B ∷ 0x18 ∷ []; fed = gave (refusal 4) stopped []; asked = asks_nothing }

unfoldable pub cases : List Case
cases = c9 ∷ c11 ∷ c12 ∷ c13 ∷ c14 ∷ []

-- The worked cases of replies: a call of a kind is begun on a fresh link, and raw bytes follow. What is told, but for need-more; the bytes
-- of the reply, and what they mean.
pub record ReplyCase : Type 0 where
  pub kind : Kind
  pub raw : List ℕ
  pub told : List Told
  pub bytes : List ℕ
  pub reply : Given

-- what is told, but for need-more
abbrev pub heard : List Told → List Told
heard [] = []
heard (session.report r ∷ l) = map session.report (news r) ++ heard l
heard (session.answer a ∷ l) = session.answer a ∷ heard l

-- the bytes of the replies told, one behind the other
abbrev pub bytes_of : Report → List ℕ
bytes_of link.need_more = []
bytes_of (link.character b) = []
bytes_of (link.reply s) = s
bytes_of (link.escape_state on) = []
bytes_of (link.event y x a) = []
bytes_of (link.address t b3 b2 b1 b0) = []
bytes_of (link.block h) = []
bytes_of (link.loaded b) = []
bytes_of (link.ended t) = []
bytes_of (link.error n t) = []
bytes_of link.restart = []
bytes_of (link.refusal n) = []

abbrev pub bytes_told : List Told → List ℕ
bytes_told [] = []
bytes_told (session.report r ∷ l) = bytes_of r ++ bytes_told l
bytes_told (session.answer a ∷ l) = bytes_told l

unfoldable pub reply_worked : ReplyCase → ReplyCase
reply_worked k =
    let w = heard (session.tells link.fresh (session.call k.kind ∷ map session.raw k.raw)) in
    record { kind = k.kind; raw = k.raw; told = w; bytes = bytes_told w; reply = reply_read k.kind (bytes_told w) }

-- C10 "its reply `01 00 00 01 9B 9B`": the reply to C9's OSARGS is A=1, block &0000019B.
abbrev pub c10 : ReplyCase
c10 =
    let s : List ℕ = 0x01 ∷ 0x00 ∷ 0x00 ∷ 0x01 ∷ 0x9B ∷ [] in
    record {
      kind = kind_from 0x0C (0x9B ∷ 0x00 ∷ 0x00 ∷ 0x01 ∷ 0x9B ∷ 0x01 ∷ []);
      raw = 0x01 ∷ 0x00 ∷ 0x00 ∷ 0x01 ∷ 0x9B ∷ 0x9B ∷ [];
      told = session.answer link.begun ∷ session.report (link.reply s) ∷ [];
      bytes = s;
      reply = given (a_block 0x01) (0x00 ∷ 0x00 ∷ 0x01 ∷ 0x9B ∷ []) [];
    }

-- C13 `9B 08 01 00 00`: reply complete without a byte.
abbrev pub c13_reply : ReplyCase
c13_reply =
    record {
      kind = kind_from 0x08 (0x01 ∷ 0x00 ∷ 0x00 ∷ []);
      raw = [];
      told = session.answer link.complete ∷ [];
      bytes = [];
      reply = given block [] [];
    }

-- C15 OSBGET waits, `80 9B 81 41` arrives: Escape on, then Cy 1, A &41.
abbrev pub c15 : ReplyCase
c15 =
    record {
      kind = osbget;
      raw = 0x80 ∷ 0x9B ∷ 0x81 ∷ 0x41 ∷ [];
      told = session.answer link.begun ∷ session.report (link.escape_state true) ∷ session.report (link.reply (0x80 ∷ 0x41 ∷ [])) ∷ [];
      bytes = 0x80 ∷ 0x41 ∷ [];
      reply = given (carry_a true 0x41) [] [];
    }

unfoldable pub reply_cases : List ReplyCase
reply_cases = c10 ∷ c13_reply ∷ c15 ∷ []

-- The worked cases of document 02's transfers: a recorded reply to a call of a kind, and what is read of it.
pub record TransferCase : Type 0 where
  pub kind : Kind
  pub raw : List ℕ
  pub read : Recorded

unfoldable pub transfer_worked : TransferCase → TransferCase
transfer_worked k = record { kind = k.kind; raw = k.raw; read = recorded_reply k.kind k.raw }

abbrev pub on : Kind → List ℕ → List Report → ℕ → Report → TransferCase
on k s g n r = record { kind = k; raw = s; read = recording g n (closed r) }

-- a load to &1900 and a save from &8000: their bytes, and what they report; the end of a transfer
abbrev pub ld : List ℕ
ld = 0x9B ∷ 0xE0 ∷ 0x00 ∷ 0x00 ∷ 0x19 ∷ 0x00 ∷ []

abbrev pub sv : List ℕ
sv = 0x9B ∷ 0xF0 ∷ 0x00 ∷ 0x00 ∷ 0x80 ∷ 0x00 ∷ []

abbrev pub end : List ℕ
end = 0x9B ∷ 0xB0 ∷ []

abbrev pub loads : Report
loads = address (opening load) 0x00 0x00 0x19 0x00

abbrev pub saves : Report
saves = address (opening save) 0x00 0x00 0x80 0x00

abbrev pub executes : Report
executes = address executing 0x00 0x00 0x80 0x00

abbrev pub joined : List (List ℕ) → List ℕ
joined [] = []
joined (s ∷ l) = s ++ joined l

abbrev pub four : List ℕ
four = joined (ld ∷ ld ∷ ld ∷ ld ∷ [])

abbrev pub four_loads : List Report
four_loads = loads ∷ loads ∷ loads ∷ loads ∷ []

unfoldable pub transfer_cases : List TransferCase
transfer_cases =
    -- T1 a load inside the reply moves no byte of it
    on osbget (0x80 ∷ (ld ++ (0x41 ∷ 0x42 ∷ (end ++ (0x41 ∷ []))))) (loads ∷ loaded 0x41 ∷ loaded 0x42 ∷ ended load ∷ []) 12 (reply (0x80 ∷ 0x41 ∷ []))
    -- T2 the low bits of &Ex, &Bx and &Dx are ignored, and execute needs no end
    ∷ on osbget (0x9B ∷ 0xEF ∷ 0x00 ∷ 0x00 ∷ 0x19 ∷ 0x00 ∷ 0x9B ∷ 0xBF ∷ 0x9B ∷ 0xD7 ∷ 0x00 ∷ 0x00 ∷ 0x80 ∷ 0x00 ∷ 0x80 ∷ 0x41 ∷ [])
    (loads ∷ ended load ∷ executes ∷ []) 16 (reply (0x80 ∷ 0x41 ∷ []))
    -- T3 a doubled &9B is one byte of load data; &0D and &00 end nothing there
    ∷ on osbget (ld ++ (0x9B ∷ 0x9B ∷ 0x0D ∷ 0x00 ∷ (end ++ (0x00 ∷ 0x42 ∷ [])))) (loads ∷ loaded 0x9B ∷ loaded 0x0D ∷ loaded 0x00 ∷ ended load ∷ []) 14 (reply (0x00 ∷ 0x42 ∷ []))
    -- T4 the bytes of a control block inside a load are its own, and no load data
    ∷ on osbget (ld ++ (0x41 ∷ 0x9B ∷ 0x02 ∷ 0x0D ∷ 0x9B ∷ 0x9B ∷ 0x42 ∷ (end ++ (0x80 ∷ 0x41 ∷ []))))
    (loads ∷ loaded 0x41 ∷ link.block (0x0D ∷ 0x9B ∷ []) ∷ loaded 0x42 ∷ ended load ∷ []) 17 (reply (0x80 ∷ 0x41 ∷ []))
    -- T5 a load inside a save inside a load: data and ends go to the innermost
    ∷ on oscli (joined (ld ∷ (0x01 ∷ []) ∷ sv ∷ ld ∷ (0x02 ∷ []) ∷ end ∷ (0x9B ∷ 0x81 ∷ []) ∷ end ∷ (0x03 ∷ []) ∷ end ∷ (0x7F ∷ []) ∷ []))
    (loads ∷ loaded 0x01 ∷ saves ∷ loads ∷ loaded 0x02 ∷ ended load ∷ escape_state true ∷ ended save ∷ loaded 0x03 ∷ ended load ∷ []) 30 (reply (0x7F ∷ []))
    -- T6, T7, T8 a data byte in a save is 9, at its last raw byte, and where a load is open around it
    ∷ on oscli (sv ++ (0x41 ∷ [])) (saves ∷ []) 7 (refusal 9)
    ∷ on oscli (sv ++ (0x9B ∷ 0x9B ∷ [])) (saves ∷ []) 8 (refusal 9)
    ∷ on oscli (ld ++ (sv ++ (0x41 ∷ []))) (loads ∷ saves ∷ []) 13 (refusal 9)
    -- T9 a fifth is 13 at its mark
    ∷ on oscli (four ++ (0x9B ∷ 0xF0 ∷ [])) four_loads 26 (refusal 13)
    -- T10 &Ax is 4, and 4 comes before 13
    ∷ on oscli (four ++ (0x9B ∷ 0xA0 ∷ [])) four_loads 26 (refusal 4)
    -- T11 execute is none of the four, and behind an end there is room for one more
    ∷ on oscli (joined (four ∷ (0x9B ∷ 0xD0 ∷ 0x00 ∷ 0x00 ∷ 0x80 ∷ 0x00 ∷ []) ∷ end ∷ ld ∷ end ∷ end ∷ end ∷ end ∷ (0x7F ∷ []) ∷ []))
    (four_loads ++ (executes ∷ ended load ∷ loads ∷ ended load ∷ ended load ∷ ended load ∷ ended load ∷ [])) 47 (reply (0x7F ∷ []))
    -- T12 a mark inside an action's own bytes is 5, a fifth's too
    ∷ on oscli (four ++ (0x9B ∷ 0xC0 ∷ 0x00 ∷ 0x9B ∷ 0xE0 ∷ [])) four_loads 29 (refusal 5)
    -- T13 an end with none open is 5
    ∷ on osbget (0x80 ∷ 0x9B ∷ 0xB0 ∷ []) [] 3 (refusal 5)
    -- T14, T15 a mark inside an address or a control block is 5
    ∷ on osbget (0x9B ∷ 0xE0 ∷ 0x00 ∷ 0x00 ∷ 0x9B ∷ 0xB0 ∷ []) [] 6 (refusal 5)
    ∷ on osbget (0x9B ∷ 0x03 ∷ 0x41 ∷ 0x9B ∷ 0x81 ∷ []) [] 5 (refusal 5)
    -- T16 only &Ax still gives 4
    ∷ on osbget (0x9B ∷ 0xAF ∷ []) [] 2 (refusal 4)
    -- T17, T18 an error or restart closes all and ends the call; the bytes behind it are not read
    ∷ on osbget (0x80 ∷ (ld ++ (0x41 ∷ (sv ++ (0x9B ∷ 0x00 ∷ 0xFE ∷ 0x4E ∷ 0x6F ∷ 0x00 ∷ 0x41 ∷ []))))) (loads ∷ loaded 0x41 ∷ saves ∷ []) 20 (error 0xFE (0x4E ∷ 0x6F ∷ []))
    ∷ on osbget (ld ++ (0x41 ∷ 0x9B ∷ 0x00 ∷ 0x00 ∷ 0x00 ∷ 0x80 ∷ 0x41 ∷ [])) (loads ∷ loaded 0x41 ∷ []) 11 restart
    -- T19 the shortest and the longest control block
    ∷ on oscli (0x9B ∷ 0x01 ∷ 0xAA ∷ 0x9B ∷ 0x7F ∷ (replicate 127 0x55 ++ (0x80 ∷ []))) (link.block (0xAA ∷ []) ∷ link.block (replicate 127 0x55) ∷ []) 133 (reply (0x80 ∷ []))
    -- T20 a recording that ends inside an escape pair has run out
    ∷ record { kind = osbget; raw = 0x80 ∷ (ld ++ (0x41 ∷ 0x9B ∷ [])); read = recording (loads ∷ loaded 0x41 ∷ []) 9 ran_out }
    -- T21 a line: &0D inside a load does not end it
    ∷ on osword0 (0x7F ∷ 0x48 ∷ (ld ++ (0x0D ∷ (end ++ (0x49 ∷ 0x0D ∷ []))))) (loads ∷ loaded 0x0D ∷ ended load ∷ []) 13 (reply (0x7F ∷ 0x48 ∷ 0x49 ∷ 0x0D ∷ []))
    -- T22 an OSWORD with out length 0 is complete when begun
    ∷ on (osword 0) (ld ++ (0x41 ∷ [])) [] 0 (reply [])
    -- T23 what stands behind the call's end is not read
    ∷ on oscli (0x80 ∷ 0x9B ∷ 0xA0 ∷ []) [] 1 (reply (0x80 ∷ []))
    ∷ []

-- Sessions: raw bytes and begun calls on a fresh link, and what is told but for need-more.
pub record SessionCase : Type 0 where
  pub inputs : List Input
  pub told : List Told

unfoldable pub session_worked : SessionCase → SessionCase
session_worked k = record { inputs = k.inputs; told = heard (session.tells link.fresh k.inputs) }

abbrev pub given_inputs : List Input → List Told → SessionCase
given_inputs i w = record { inputs = i; told = w }

unfoldable pub session_cases : List SessionCase
session_cases =
    -- idle: load data is no character, and behind the end a byte is one
    given_inputs (map session.raw (ld ++ (0x41 ∷ (end ++ (0x41 ∷ []))))) (map session.report (loads ∷ loaded 0x41 ∷ ended load ∷ link.character 0x41 ∷ []))
    -- a call begun inside a load: its bytes go on into the load, and the reply comes behind the end; another call there is 12
    ∷ given_inputs (map session.raw (ld ++ (0x41 ∷ [])) ++ (session.call oscli ∷ session.call (osword 0) ∷ map session.raw (0x42 ∷ (end ++ (0x7F ∷ [])))))
    (session.report loads ∷ session.report (loaded 0x41) ∷ session.answer link.begun ∷ session.answer (link.denied 12)
    ∷ map session.report (loaded 0x42 ∷ ended load ∷ reply (0x7F ∷ []) ∷ []))
    -- a call begun inside the address of a load
    ∷ given_inputs (map session.raw (0x9B ∷ 0xE0 ∷ 0x00 ∷ []) ++ (session.call oscli ∷ map session.raw (0x00 ∷ 0x19 ∷ 0x00 ∷ 0x42 ∷ (end ++ (0x7F ∷ [])))))
    (session.answer link.begun ∷ map session.report (loads ∷ loaded 0x42 ∷ ended load ∷ reply (0x7F ∷ []) ∷ []))
    -- an OSWORD with out length 0 begun inside a load is complete, and the load stays open
    ∷ given_inputs (map session.raw ld ++ (session.call (osword 0) ∷ map session.raw (0x42 ∷ [])))
    (session.report loads ∷ session.answer link.complete ∷ session.report (loaded 0x42) ∷ [])
    -- T17 once more: behind the error a byte is a character
    ∷ given_inputs (session.call osbget ∷ map session.raw (0x80 ∷ (ld ++ (sv ++ (0x9B ∷ 0x00 ∷ 0xFE ∷ 0x4E ∷ 0x6F ∷ 0x00 ∷ 0x41 ∷ [])))))
    (session.answer link.begun ∷ map session.report (loads ∷ saves ∷ error 0xFE (0x4E ∷ 0x6F ∷ []) ∷ link.character 0x41 ∷ []))
    ∷ []
