-- Round trips of the program's own writer and reader, on both carriers and for every call.
use Prim.Native.Nat.{ℕ, ◌≤◌}
use mathlib.Core.Path.{◌≡◌, refl, sym, ap, ap₂, subst, ◌∙◌}
use mathlib.Core.Bool.{true, false, ◌&&◌, true≢false}
use mathlib.Core.List.{List, ◌++◌}
use borrow.Author.Tests.{ltb-false, le-ltb}
use lib.Dec.{ltb}
use lib.ListN.{length}
use Rattle.std.specs.Prelude.{Option, Some, None}
use Rattle.serial_rules.specs.Call as rule
use Rattle.serial_rules.specs.Call.{code_of, body_of, style_ok, call_ok, encoding_of, writer_number, string_limit}
use Rattle.serial_rules.specs.Marks.{is_code}
use Rattle.serial_rules.specs.Fields.{Fields as Taken, fields_of, fields}
use Rattle.serial_rules.specs.Reply.{kind_of, known, kind_in}
use Rattle.serial_rules.specs.Reader.{Reader as Ruled, Answer, request, outside, step}
use Rattle.serial_rules.specs.Stream.{reader_after, answers, FirstAnswer, raw_of}
use Rattle.serial_rules.proofs.Trip.{All, and_both}
use Rattle.serial_rules.proofs.Fields.{code_listed, fields_back, kind_back_lem}
use Rattle.serial_rules.proofs.Sound.{Good, finished_good, raw_encoding}
use Rattle.calls.specs.declared.Call.{Call}
use Rattle.fields.specs.Promise.{Written, number}
use Rattle.fields.proofs.Wrote.{wrote, wrote_is, checks}
use Rattle.calls.specs.Calls.{call_of}
use Rattle.request_writer.specs.Promise.{RequestDone}
use Rattle.carrier.specs.declared.Carrier.{Carrier}
use Rattle.carrier.specs.Carriers.{carrier_of}
use Rattle.request_reader.specs.declared.Reader.{Reader}
use Rattle.request_reader.specs.declared.Stepped.{Stepped}
use Rattle.request_reader.specs.View.{answer_of, fresh, StepDone}
use Rattle.request.specs.Promise.{Asked, fields_in, IsRequestRead}
use Rattle.request.proofs.Laws.{fields_are}
use Rattle.request_reader.specs.Read.{Read}
use Rattle.request_reader.proofs.Streams.{reads_request, as_ruled}

-- the answer 0 says that every check was passed
record Passed (carrier : rule.Carrier) (style : ℕ) (call : rule.Call) (b t : List ℕ) : Type 0 where
  short : length t ≤ string_limit
  style_ok_lem : style_ok carrier style ≡ true
  fields_ok : call_ok call b t ≡ true

passed : (carrier : rule.Carrier) (style : ℕ) (call : rule.Call) (b t : List ℕ) (room : ℕ) → writer_number carrier style call b t room ≡ 0 → Passed carrier style call b t
unfolding writer_number
passed carrier style call b t room e =
    let x = checks (ltb string_limit (length t)) (style_ok carrier style && call_ok call b t) (ltb room (length (encoding_of carrier style call b t))) e in
    let y = and_both (style_ok carrier style) (call_ok call b t) x.1 in
    record { short = ltb-false string_limit (length t) x.0; style_ok_lem = y.0; fields_ok = y.1 }

-- and the other way round, where there is room
Accepted : (carrier : rule.Carrier) (style : ℕ) (call : rule.Call) (b t : List ℕ) (room : ℕ) → length t ≤ string_limit → style_ok carrier style ≡ true
    → call_ok call b t ≡ true → length (encoding_of carrier style call b t) ≤ room → writer_number carrier style call b t room ≡ 0
unfolding writer_number
Accepted carrier style call b t room short s ok h = simp (le-ltb _ _ short, s, ok, le-ltb _ _ h)

module _ (k : Carrier) (style : ℕ) (call : Call) (b t : List ℕ) {out left : List ℕ} {r : Written} where
  -- Writing then reading. Whatever the writer wrote and whatever follows it, a fresh reader needs more until the last byte written, which
  -- finishes that request; and the call, the block and the string come out of its body.
  pub written_read : {lent end rest : List ℕ} {q : Reader} {gave : List Answer}
      → RequestDone (carrier_of k) style call b t out r left → number r ≡ 0 → Read (fresh k) lent (wrote r left ++ rest) gave q end
      → (gave ≡ answers (carrier_of k) (outside false) (wrote r left ++ rest))
      × FirstAnswer (carrier_of k) (outside false) (wrote r left ++ rest) (request style (code_of (call_of call)) (body_of (call_of call) b t)) (outside false) rest
      × (fields_of (code_of (call_of call)) (body_of (call_of call) b t) ≡ fields (call_of call) b t)
  written_read {lent} {end} {rest} {q} {gave} d e reads =
      let p = passed (carrier_of k) style (call_of call) b t (length out) (sym d.answer ∙ e) in
      let w = wrote_is d e in
      let x = reads_request k style (call_of call) b t rest p.style_ok_lem p.fields_ok p.short
      (subst (λ (l : List ℕ). Read (fresh k) lent (l ++ rest) gave q end) w reads) in
      (rw w x.0, rw w x.1, fields_back (call_of call) b t p.fields_ok)

  -- and its kind comes out of its code and body
  pub kind_written : RequestDone (carrier_of k) style call b t out r left → number r ≡ 0 → kind_in (code_of (call_of call)) (body_of (call_of call) b t) ≡ known (kind_of (call_of call))
  kind_written d e = kind_back_lem (call_of call) b t (passed (carrier_of k) style (call_of call) b t (length out) (sym d.answer ∙ e)).fields_ok

  -- and `read_request` takes it apart into what was written
  pub taken_apart : {asked : Option Asked} → RequestDone (carrier_of k) style call b t out r left → number r ≡ 0
      → IsRequestRead (code_of (call_of call)) (body_of (call_of call) b t) asked
      → (f : Asked) × (asked ≡ Some f) × (fields_in f (body_of (call_of call) b t) ≡ fields (call_of call) b t)
  taken_apart {asked} d e w =
      let p = passed (carrier_of k) style (call_of call) b t (length out) (sym d.answer ∙ e) in
      apart asked w (fields_back (call_of call) b t p.fields_ok)
    where
      apart : (asked : Option Asked) → IsRequestRead (code_of (call_of call)) (body_of (call_of call) b t) asked
          → fields_of (code_of (call_of call)) (body_of (call_of call) b t) ≡ fields (call_of call) b t
          → (f : Asked) × (asked ≡ Some f) × (fields_in f (body_of (call_of call) b t) ≡ fields (call_of call) b t)
      apart None unlisted is = absurd (true≢false (sym (code_listed (call_of call)) ∙ unlisted))
      apart (Some f) listed is = (f, refl, fields_are listed.1 ∙ is)

-- Reading then writing. A request that a reader finished, at any place of any stream of bytes, is taken apart by `read_request`, and what that gives
-- is Accepted by the writer wherever there is room for it; what the writer writes are the raw bytes of that request.
pub record RequestAgain (carrier : rule.Carrier) (style code : ℕ) (body out : List ℕ) (asked : Option Asked) : Type 0 where
  pub fields : Asked
  pub is : asked ≡ Some fields
  pub again : {after : List ℕ} {r : Written} → RequestDone carrier style fields.said (fields_in fields body).block (fields_in fields body).text out r after
      → length (raw_of carrier (request style code body)) ≤ length out → (number r ≡ 0) × (wrote r after ≡ raw_of carrier (request style code body))

pub read_written : {k : Carrier} {lent raw end left : List ℕ} {x : ℕ} {gave : List Answer} {q : Reader} {o : Stepped} {style code : ℕ} {body out : List ℕ} {asked : Option Asked}
    → All (λ (b : ℕ). b ≤ 255) raw → x ≤ 255 → Read (fresh k) lent raw gave q end → StepDone q end x o left → answer_of o.answer left ≡ request style code body
    → IsRequestRead code body asked → RequestAgain (carrier_of k) style code body out asked
read_written {k = k} {raw = raw} {x = x} {style = style} {code = code} {body = body} {out = out} {asked = asked} bytes h t d e w =
    let a = as_ruled t in
    let at : (step (carrier_of k) (reader_after (carrier_of k) (outside false) raw) x).answer ≡ request style code body =
    sym (ap₂ (λ (c : Carrier) (v : Ruled). (step (carrier_of c) v x).answer) a.carrier a.left) ∙ sym d.answer ∙ e in
    let g = finished_good (carrier_of k) raw x style code body bytes h at in
    again asked w g
  where
    -- a finished request has a code of the table
    again : (asked : Option Asked) → IsRequestRead code body asked → Good (carrier_of k) style code body → RequestAgain (carrier_of k) style code body out asked
    again None unlisted g = absurd (true≢false (sym (subst (λ (n : ℕ). is_code n ≡ true) g.fields_ok.code_is (code_listed (fields_of code body).call)) ∙ unlisted))
    again (Some f) listed g =
        let is = fields_are listed.1 in
        record {
          fields = f;
          is = refl;
          again = λ {after} {r} w room.
              let enc : raw_of (carrier_of k) (request style code body) ≡ encoding_of (carrier_of k) style (call_of f.said) (fields_in f body).block (fields_in f body).text =
              raw_encoding (carrier_of k) style code body g.fields_ok ∙ ap (λ (z : Taken). encoding_of (carrier_of k) style z.call z.block z.text) (sym is) in
              let ok = subst (λ (z : Taken). call_ok z.call z.block z.text ≡ true) (sym is) g.fields_ok.ok in
              let short = subst (λ (z : Taken). length z.text ≤ 255) (sym is) g.fields_ok.short in
              let fits = subst (λ (l : List ℕ). length l ≤ length out) enc room in
              let zero : number r ≡ 0 =
              w.answer ∙ Accepted (carrier_of k) style (call_of f.said) (fields_in f body).block (fields_in f body).text (length out) short g.style_ok_lem ok fits in
              (zero, wrote_is w zero ∙ sym enc);
        }
