-- Worked cases of the host end: actions with their bytes or the number of their refusal, streams that keep the rules, and streams that break one each.
use Rattle.std.specs.Prelude.{ℕ, Bool, true, false, cond, ◌&&◌, List, [], ◌∷◌, ◌++◌, map, eqb, replicate}
use Rattle.serial_rules.specs.Reply.{Kind, oscli, osbget}
use Rattle.serial_rules.specs.Link as link
use Rattle.serial_rules.specs.Link.{setting, executing, opening, load, save}
use Rattle.serial_rules.specs.Session as session
use Rattle.serial_rules.specs.Session.{Told, tells}
use Rattle.serial_rules.specs.Cases.{heard, ld, sv, end, loads, saves}
use Rattle.host_rules.specs.Actions.{Sent, failing, restarting, escape_state, event, address, control, ending, sent_raw, sent_number}
use Rattle.host_rules.specs.Streams.{Item, replying, loading, acting, raw_of, stands, closes}

pub record ActionCase : Type 0 where
  pub action : Sent
  pub block : List ℕ
  pub text : List ℕ
  pub room : ℕ
  pub number : ℕ
  pub raw : List ℕ

-- the case as the rules work it: no byte where it is refused
unfoldable pub action_worked : ActionCase → ActionCase
action_worked k =
    let n = sent_number k.action k.block k.text k.room in
    record { action = k.action; block = k.block; text = k.text; room = k.room; number = n; raw = cond (eqb n 0) (sent_raw k.action k.block k.text) [] }

-- an action without a block and a text, an error with its text, a control block, each with room for it; one that is refused
abbrev pub done : Sent → List ℕ → ActionCase
done a s = record { action = a; block = []; text = []; room = 7; number = 0; raw = s }

abbrev pub saying : ℕ → List ℕ → List ℕ → ActionCase
saying n t s = record { action = failing n; block = []; text = t; room = 259; number = 0; raw = s }

abbrev pub holding : List ℕ → List ℕ → ActionCase
holding b s = record { action = control; block = b; text = []; room = 129; number = 0; raw = s }

abbrev pub refused : Sent → List ℕ → List ℕ → ℕ → ℕ → ActionCase
refused a b t room n = record { action = a; block = b; text = t; room = room; number = n; raw = [] }

unfoldable pub action_cases : List ActionCase
action_cases =
    saying 0xFE (0x4E ∷ 0x6F ∷ []) (0x9B ∷ 0x00 ∷ 0xFE ∷ 0x4E ∷ 0x6F ∷ 0x00 ∷ [])
    ∷ saying 0x9B (0x9B ∷ []) (0x9B ∷ 0x00 ∷ 0x9B ∷ 0x9B ∷ 0x9B ∷ 0x9B ∷ 0x00 ∷ [])
    -- "Error 0 without text is the restart"
    ∷ done restarting (0x9B ∷ 0x00 ∷ 0x00 ∷ 0x00 ∷ [])
    ∷ saying 0 [] (0x9B ∷ 0x00 ∷ 0x00 ∷ 0x00 ∷ [])
    ∷ saying 7 [] (0x9B ∷ 0x00 ∷ 0x07 ∷ 0x00 ∷ [])
    ∷ saying 0 (0x78 ∷ []) (0x9B ∷ 0x00 ∷ 0x00 ∷ 0x78 ∷ 0x00 ∷ [])
    -- &0D is ordinary text
    ∷ saying 1 (0x0D ∷ []) (0x9B ∷ 0x00 ∷ 0x01 ∷ 0x0D ∷ 0x00 ∷ [])
    ∷ done (escape_state false) (0x9B ∷ 0x80 ∷ [])
    ∷ done (escape_state true) (0x9B ∷ 0x81 ∷ [])
    ∷ done (event 0x01 0x9B 0x03) (0x9B ∷ 0x90 ∷ 0x01 ∷ 0x9B ∷ 0x9B ∷ 0x03 ∷ [])
    ∷ done (address setting 0x00 0x00 0x80 0x00) (0x9B ∷ 0xC0 ∷ 0x00 ∷ 0x00 ∷ 0x80 ∷ 0x00 ∷ [])
    ∷ done (address executing 0x00 0x00 0x80 0x00) (0x9B ∷ 0xD0 ∷ 0x00 ∷ 0x00 ∷ 0x80 ∷ 0x00 ∷ [])
    ∷ done (address (opening load) 0x00 0x00 0x19 0x00) (0x9B ∷ 0xE0 ∷ 0x00 ∷ 0x00 ∷ 0x19 ∷ 0x00 ∷ [])
    ∷ done (address (opening save) 0x9B 0x00 0x00 0x00) (0x9B ∷ 0xF0 ∷ 0x9B ∷ 0x9B ∷ 0x00 ∷ 0x00 ∷ 0x00 ∷ [])
    ∷ done ending (0x9B ∷ 0xB0 ∷ [])
    ∷ holding (0x9B ∷ []) (0x9B ∷ 0x01 ∷ 0x9B ∷ 0x9B ∷ [])
    ∷ holding (replicate 127 0x55) (0x9B ∷ 0x7F ∷ replicate 127 0x55)
    -- 9: a block of none, of 128 bytes, for an end; a &00 in the text; a text for an end
    ∷ refused control [] [] 129 9
    ∷ refused control (replicate 128 0x55) [] 300 9
    ∷ refused ending (0x00 ∷ []) [] 0 9
    ∷ refused (failing 1) [] (0x61 ∷ 0x00 ∷ 0x62 ∷ []) 259 9
    ∷ refused ending [] (0x61 ∷ []) 2 9
    -- the other actions with a text and with a block
    ∷ refused restarting [] (0x61 ∷ []) 9 9
    ∷ refused (escape_state true) [] (0x61 ∷ []) 9 9
    ∷ refused (event 1 2 3) [] (0x61 ∷ []) 9 9
    ∷ refused (address setting 1 2 3 4) [] (0x61 ∷ []) 9 9
    ∷ refused control (0x55 ∷ []) (0x61 ∷ []) 9 9
    ∷ refused (failing 1) (0x55 ∷ []) [] 9 9
    ∷ refused restarting (0x55 ∷ []) [] 9 9
    ∷ refused (escape_state true) (0x55 ∷ []) [] 9 9
    ∷ refused (event 1 2 3) (0x55 ∷ []) [] 9 9
    ∷ refused (address setting 1 2 3 4) (0x55 ∷ []) [] 9 9
    -- 6 before 9, whatever the action and whatever is in the text
    ∷ refused (failing 1) [] (replicate 256 0x78) 600 6
    ∷ refused (failing 1) [] (replicate 256 0x00) 600 6
    ∷ refused ending [] (replicate 256 0x78) 0 6
    -- 8 to the byte
    ∷ saying 1 (replicate 255 0x78) (0x9B ∷ 0x00 ∷ 0x01 ∷ (replicate 255 0x78 ++ (0x00 ∷ [])))
    ∷ refused (failing 1) [] (replicate 255 0x78) 258 8
    ∷ record { action = ending; block = []; text = []; room = 2; number = 0; raw = 0x9B ∷ 0xB0 ∷ [] }
    ∷ refused ending [] [] 1 8
    ∷ []

-- A stream to a call that waits: whether it keeps the rules, its raw bytes, and what is told of them but for need-more.
pub record StreamCase : Type 0 where
  pub kind : Kind
  pub items : List Item
  pub keeps : Bool
  pub raw : List ℕ
  pub told : List Told

unfoldable pub stream_worked : StreamCase → StreamCase
stream_worked k =
    record {
      kind = k.kind;
      items = k.items;
      keeps = stands [] k.items && closes k.items;
      raw = raw_of k.items;
      told = heard (tells (link.begin link.fresh k.kind).next (map session.raw (raw_of k.items)));
    }

abbrev pub told_of : List link.Report → List Told
told_of l = map session.report l

abbrev pub keeping : Kind → List Item → List ℕ → List link.Report → StreamCase
keeping k is s l = record { kind = k; items = is; keeps = true; raw = s; told = told_of l }

abbrev pub breaking : Kind → List Item → List ℕ → List link.Report → StreamCase
breaking k is s l = record { kind = k; items = is; keeps = false; raw = s; told = told_of l }

-- an action without a block and a text; a load to &1900, a save from &8000, an end
abbrev pub plainly : Sent → Item
plainly a = acting a [] []

abbrev pub load_to : Item
load_to = plainly (address (opening load) 0x00 0x00 0x19 0x00)

abbrev pub save_from : Item
save_from = plainly (address (opening save) 0x00 0x00 0x80 0x00)

unfoldable pub stream_cases : List StreamCase
stream_cases =
    -- S1 Escape pressed, and a load between the two bytes of a reply
    keeping osbget (plainly (escape_state true) ∷ replying 0x80 ∷ load_to ∷ loading 0x9B ∷ plainly ending ∷ replying 0x41 ∷ [])
    (0x9B ∷ 0x81 ∷ 0x80 ∷ (ld ++ (0x9B ∷ 0x9B ∷ (end ++ (0x41 ∷ [])))))
    (link.escape_state true ∷ loads ∷ link.loaded 0x9B ∷ link.ended load ∷ link.reply (0x80 ∷ 0x41 ∷ []) ∷ [])
    -- S2 a save inside a load, before the first byte of the reply
    ∷ keeping osbget (load_to ∷ save_from ∷ plainly (event 0x01 0x02 0x03) ∷ plainly ending ∷ loading 0x41 ∷ plainly ending ∷ replying 0x80 ∷ replying 0x41 ∷ [])
    (ld ++ (sv ++ (0x9B ∷ 0x90 ∷ 0x01 ∷ 0x02 ∷ 0x03 ∷ (end ++ (0x41 ∷ (end ++ (0x80 ∷ 0x41 ∷ [])))))))
    (loads ∷ saves ∷ link.event 0x01 0x02 0x03 ∷ link.ended save ∷ link.loaded 0x41 ∷ link.ended load ∷ link.reply (0x80 ∷ 0x41 ∷ []) ∷ [])
    -- S3 a restart closes the load and ends the call: what is left of the reply is a character
    ∷ keeping osbget (replying 0x80 ∷ load_to ∷ loading 0x41 ∷ plainly restarting ∷ replying 0x41 ∷ [])
    (0x80 ∷ (ld ++ (0x41 ∷ 0x9B ∷ 0x00 ∷ 0x00 ∷ 0x00 ∷ 0x41 ∷ [])))
    (loads ∷ link.loaded 0x41 ∷ link.restart ∷ link.character 0x41 ∷ [])
    -- S4 actions and load data behind an error are told too
    ∷ keeping osbget (replying 0x80 ∷ plainly (failing 7) ∷ load_to ∷ loading 0x42 ∷ plainly ending ∷ replying 0x41 ∷ [])
    (0x80 ∷ 0x9B ∷ 0x00 ∷ 0x07 ∷ 0x00 ∷ (ld ++ (0x42 ∷ (end ++ (0x41 ∷ [])))))
    (link.error 7 [] ∷ loads ∷ link.loaded 0x42 ∷ link.ended load ∷ link.character 0x41 ∷ [])
    -- N2 a load that is not closed: the reply byte is load data, and the call waits on
    ∷ breaking oscli (load_to ∷ replying 0x80 ∷ []) (ld ++ (0x80 ∷ [])) (loads ∷ link.loaded 0x80 ∷ [])
    -- N3 an end with none open
    ∷ breaking oscli (plainly ending ∷ replying 0x80 ∷ []) (end ++ (0x80 ∷ [])) (link.refusal 5 ∷ link.refusal 7 ∷ [])
    -- N4 data inside a save
    ∷ breaking oscli (save_from ∷ loading 0x41 ∷ plainly ending ∷ replying 0x80 ∷ []) (sv ++ (0x41 ∷ (end ++ (0x80 ∷ []))))
    (saves ∷ link.refusal 9 ∷ link.refusal 7 ∷ link.refusal 7 ∷ link.refusal 7 ∷ [])
    -- load data where no load is open is taken for the reply
    ∷ breaking oscli (loading 0x41 ∷ replying 0x80 ∷ []) (0x41 ∷ 0x80 ∷ []) (link.reply (0x41 ∷ []) ∷ link.character 0x80 ∷ [])
    -- an action behind the last byte of the reply comes when the call is over
    ∷ breaking oscli (replying 0x80 ∷ plainly (escape_state true) ∷ []) (0x80 ∷ 0x9B ∷ 0x81 ∷ []) (link.reply (0x80 ∷ []) ∷ link.escape_state true ∷ [])
    -- four may be open
    ∷ keeping oscli (load_to ∷ load_to ∷ load_to ∷ load_to ∷ plainly ending ∷ plainly ending ∷ plainly ending ∷ plainly ending ∷ replying 0x80 ∷ [])
    (ld ++ (ld ++ (ld ++ (ld ++ (end ++ (end ++ (end ++ (end ++ (0x80 ∷ [])))))))))
    (loads ∷ loads ∷ loads ∷ loads ∷ link.ended load ∷ link.ended load ∷ link.ended load ∷ link.ended load ∷ link.reply (0x80 ∷ []) ∷ [])
    ∷ []

-- N5 a fifth is refused at its mark, so these are looked at up to there.
abbrev pub fifth : List Item
fifth = load_to ∷ load_to ∷ load_to ∷ load_to ∷ load_to ∷ plainly ending ∷ plainly ending ∷ plainly ending ∷ plainly ending ∷ plainly ending ∷ replying 0x80 ∷ []

abbrev pub fifth_mark : List ℕ
fifth_mark = ld ++ (ld ++ (ld ++ (ld ++ (0x9B ∷ 0xE0 ∷ []))))

-- N1 an action inside a doubled escape, the reply &9B of an OSCLI with the Escape state put between its two bytes: no items have these bytes
abbrev pub torn : List ℕ
torn = 0x9B ∷ 0x9B ∷ 0x81 ∷ 0x9B ∷ []

abbrev pub torn_told : List Told
torn_told = heard (tells (link.begin link.fresh oscli).next (map session.raw torn))

abbrev pub fifth_told : List Told
fifth_told = heard (tells (link.begin link.fresh oscli).next (map session.raw fifth_mark))
