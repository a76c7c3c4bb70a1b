-- A call from its request to its reply, through the four programs, for every call.
use Prim.Native.Nat.{ℕ}
use mathlib.Core.Path.{◌≡◌, sym, subst, ◌∙◌}
use mathlib.Core.Bool.{false}
use mathlib.Core.List.{List, ◌++◌, map}
use Rattle.serial_rules.specs.Call.{code_of, body_of}
use Rattle.serial_rules.specs.Reply as rules
use Rattle.serial_rules.specs.Reply.{kind_of, known, kind_in}
use Rattle.serial_rules.specs.Reader.{Answer, request, outside}
use Rattle.serial_rules.specs.Stream.{answers, FirstAnswer}
use Rattle.serial_rules.specs.Call as call
use Rattle.serial_rules.specs.Link as link
use Rattle.serial_rules.specs.Session.{Input, raw, Told}
use Rattle.fields.specs.Promise.{Written}
use Rattle.fields.specs.Promise.{number}
use Rattle.fields.proofs.Wrote.{wrote}
use Rattle.kind.specs.Kinds.{kind_for}
use Rattle.kind.specs.declared.CallKind.{CallKind}
use Rattle.calls.specs.declared.Call.{Call}
use Rattle.calls.specs.Calls.{call_of}
use Rattle.request_writer.specs.Promise.{RequestDone}
use Rattle.carrier.specs.declared.Carrier.TheVariants.{Serial}
use Rattle.request_reader.specs.declared.Reader.{Reader}
use Rattle.request_reader.specs.View as request-reader
use Rattle.request_reader.specs.Read.{Read}
use Rattle.requests.proofs.Trips as requests
use Rattle.link.specs.declared.Link.{Link}
use Rattle.link.specs.declared.Started.{Started}
use Rattle.link.specs.View.{begun_of, fresh, BeginDone}
use Rattle.reply.specs.declared.Reply.{Reply}
use Rattle.reply.specs.Promise.{reply_for}
use Rattle.reply_writer.specs.Promise.{ReplyWritten}
use Rattle.replies.specs.Sessions.{Sessions}
use Rattle.replies.proofs.Trips.{ReplyToCall, written_read}

-- A client wrote a request; a host read it, whatever followed, and finished it at its last byte; the host answered the kind of that
-- request; the client's link, begun with its call, reads that answer: it is the reply that the host wrote.
pub record CallAnswered (style : ℕ) (c : call.Call) (b t sent after : List ℕ) (gave : List Answer) (g : rules.Given) (s answer : List ℕ) (begun : link.Begun) (i : List Input) (told : List Told) : Type 0 where
  pub read : FirstAnswer call.serial (outside false) (sent ++ after) (request style (code_of c) (body_of c b t)) (outside false) after
  pub gave_is : gave ≡ answers call.serial (outside false) (sent ++ after)
  pub answered : ReplyToCall (kind_of c) g s answer begun i told

-- a kind that was found is one kind
known_same : {k j : rules.Kind} → known k ≡ known j → k ≡ j
known_same e = cc

pub call_answered : {left lent end after : List ℕ} {gave : List Answer} {q : Reader} {w : Written}
    {rleft reply own reply-end own-end : List ℕ} {v : Written} {o : Started} {l : Link} {told : List Told}
    (style : ℕ) (c : Call) (b t out : List ℕ) (host client : CallKind) (answer : Reply) (rb rt rout : List ℕ) (i : List Input)
    → RequestDone call.serial style c b t out w left → number w ≡ 0
    → Read (request-reader.fresh Serial) lent (wrote w left ++ after) gave q end
    → kind_in (code_of (call_of c)) (body_of (call_of c) b t) ≡ known (kind_for host) → ReplyWritten call.serial host answer rb rt rout v rleft → number v ≡ 0
    → kind_for client ≡ kind_of (call_of c) → BeginDone fresh client o → Sessions o.link reply own (map raw (wrote v rleft) ++ i) told l reply-end own-end
    → CallAnswered style (call_of c) b t (wrote w left) after gave (rules.given (reply_for answer) rb rt) (rules.reply_bytes (reply_for answer) rb rt) (wrote v rleft) (begun_of o.answer) i told
call_answered {rleft = rleft} {v = v} {o = o} {told = told} style c b t out host client answer rb rt rout i sent sent-ok reads host-kind replied replied-ok client-kind begin session =
    let x = requests.written_read Serial style c b t sent sent-ok reads in
    let found : known (kind_for host) ≡ known (kind_of (call_of c)) = sym host-kind ∙ requests.kind_written Serial style c b t sent sent-ok in
    let same = known_same found ∙ sym client-kind in
    record {
      read = x.1;
      gave_is = x.0;
      answered = subst (λ (k : rules.Kind). ReplyToCall k (rules.given (reply_for answer) rb rt) (rules.reply_bytes (reply_for answer) rb rt) (wrote v rleft) (begun_of o.answer) i told) client-kind (written_read host client answer rb rt rout i replied replied-ok same begin session);
    }
